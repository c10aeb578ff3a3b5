-- Events that are equal up to texts that the plan doesn't determine.
use Rattle.std.proofs.Common.{◌≡◌, ◌⊎◌, ◌∙◌, List, [], ◌∷◌, ap, inl, inr, refl, subst, sym, fold}
use Rattle.autfilt_laws.specs.Runs.{AreFirst, AreLike, DecidesTexts, IsLike}
use Rattle.autfilt_run.specs.Events.{Dropped, Ended, Event, Kept, Opened, Skipped, Tally, tally_with}
use Rattle.filter_plan.specs.declared.plan.Plan.{Plan}

pub like_back : (plan : Plan) (e f : Event) → IsLike plan e f → IsLike plan f e
like_back plan (Opened name) f h = subst (λ (x : Event). IsLike plan x (Opened name)) (sym h) refl
like_back plan (Kept w text) f h = subst (λ (x : Event). IsLike plan x (Kept w text)) (sym h.1) (text, refl, λ decides. sym (h.2 decides))
like_back plan (Dropped w) f h = subst (λ (x : Event). IsLike plan x (Dropped w)) (sym h) refl
like_back plan (Skipped name) f h = subst (λ (x : Event). IsLike plan x (Skipped name)) (sym h) refl
like_back plan Ended f h = subst (λ (x : Event). IsLike plan x Ended) (sym h) refl

-- where the plan determines texts they are equal
like_is_same : (plan : Plan) (e f : Event) → DecidesTexts plan → IsLike plan e f → f ≡ e
like_is_same plan (Opened name) f decides h = h
like_is_same plan (Kept w text) f decides h = h.1 ∙ ap (Kept w) (h.2 decides)
like_is_same plan (Dropped w) f decides h = h
like_is_same plan (Skipped name) f decides h = h
like_is_same plan Ended f decides h = h

pub are_same : (plan : Plan) (es fs : List Event) → DecidesTexts plan → AreLike plan es fs → fs ≡ es
are_same plan [] [] decides h = refl
are_same plan [] (f ∷ fs) decides h = absurd h
are_same plan (e ∷ es) [] decides h = absurd h
are_same plan (e ∷ es) (f ∷ fs) decides h =
    let first : f ≡ e = like_is_same plan e f decides h.0 in
    let rest : fs ≡ es = are_same plan es fs decides h.1 in
    let whole : (f ∷ fs) ≡ (e ∷ es) = cc in
    whole

pub none_like : (plan : Plan) (es fs : List Event) → es ≡ [] → fs ≡ [] → AreLike plan es fs
none_like plan [] [] a b = tt
none_like plan [] (f ∷ fs) a b = cc
none_like plan (e ∷ es) fs a b = cc

-- the same number is kept and skipped
counted_like : (plan : Plan) (t : Tally) (e f : Event) → IsLike plan e f → tally_with t f ≡ tally_with t e
counted_like plan t (Opened name) f h = ap (tally_with t) h
counted_like plan t (Kept w text) f h = ap (tally_with t) h.1
counted_like plan t (Dropped w) f h = ap (tally_with t) h
counted_like plan t (Skipped name) f h = ap (tally_with t) h
counted_like plan t Ended f h = ap (tally_with t) h

pub tally_like : (plan : Plan) (t : Tally) (es fs : List Event) → AreLike plan es fs → fold tally_with t fs ≡ fold tally_with t es
tally_like plan t [] [] h = refl
tally_like plan t [] (f ∷ fs) h = absurd h
tally_like plan t (e ∷ es) [] h = absurd h
tally_like plan t (e ∷ es) (f ∷ fs) h = ap (λ x. fold tally_with x fs) (counted_like plan t e f h.0) ∙ tally_like plan (tally_with t e) es fs h.1

-- ---- prefixes of a list

pub none_first : (plan : Plan) (fs : List Event) → AreFirst plan [] fs
none_first plan fs = record { front = []; more = fs; parted = refl; like = tt }

first_behind : (plan : Plan) (e f : Event) (es fs : List Event) → IsLike plan e f → AreFirst plan es fs → AreFirst plan (e ∷ es) (f ∷ fs)
first_behind plan e f es fs like h = record { front = f ∷ h.front; more = h.more; parted = ap (λ x. f ∷ x) h.parted; like = (like, h.like) }

pub longer : (plan : Plan) (e f : Event) (es fs : List Event) → IsLike plan e f → AreFirst plan es fs ⊎ AreFirst plan fs es → AreFirst plan (e ∷ es) (f ∷ fs) ⊎ AreFirst plan (f ∷ fs) (e ∷ es)
longer plan e f es fs like (inl h) = inl (first_behind plan e f es fs like h)
longer plan e f es fs like (inr h) = inr (first_behind plan f e fs es (like_back plan e f like) h)

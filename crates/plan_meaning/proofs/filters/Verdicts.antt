-- There is one verdict on an automaton, and some verdict.
use Rattle.std.proofs.Common.{◌≡◌, ◌⊎◌, Bool, true, false, MatchBool, List, [], ◌∷◌, ◌++◌, arith, inl, inr, refl, subst, sym, ◌∙◌}
use Rattle.aut_base.specs.Automaton.{Automaton}
use Rattle.aut_base.specs.CanonicalLabel.{canonical}
use Rattle.aut_base.specs.Lists.{FirstIn}
use Rattle.aut_base.specs.declared.limit.Limit.{Limit}
use Rattle.aut_base.specs.declared.limit.Limit.TheVariants as limit
use Rattle.parity_det.proofs.ParityLaws.{complement_is_determined}
use Rattle.plan_meaning.proofs.changes.ChangeLaws.{of_parity, one_of_parity}
use Rattle.plan_meaning.specs.Filters.{AcceptsWord, AllHold, EquivalentTo, FailsAtFilter, Filter, HoldsWithin, IncludedIn, Intersects, IsUnambiguous, LacksWithin, PassesAt}
use Rattle.plan_meaning.specs.Filters.{PassesLimitOf, RejectsWord, filters}
use Rattle.plan_meaning.specs.Laws.{Dropped, Kept, OneLimitOfInclusion, VerdictIsOne, Over, AVerdictExists}
use Rattle.plan_meaning.specs.Limits.{HaveFewNames, HaveManyNames, PassesOfBoth, PassesOfEquivalence, PassesOfWord}
use Rattle.word_syntax.specs.Grammar.{WordPattern}
use Rattle.word_syntax.specs.Matching.{word_automaton}

-- ---- one filter passes one limit

-- a product passes the limit of names, or that of pairs with few names
of_both : (which : Limit) (a b : Automaton) → PassesOfBoth which a b → ((which ≡ limit.Names) × HaveManyNames a b) ⊎ ((which ≡ limit.Pairs) × HaveFewNames a b)
of_both limit.Names a b many = inl (refl, many)
of_both limit.Pairs a b more = inr (refl, more.0)
of_both _ a b none = absurd none

many_or_few : (a b : Automaton) → HaveManyNames a b → HaveFewNames a b → ⊥
many_or_few a b many few = absurd (omega arith)

one_of_both : (which other : Limit) (a b : Automaton) → PassesOfBoth which a b → PassesOfBoth other a b → which ≡ other
one_of_both which other a b h k = joined (of_both which a b h) (of_both other a b k)
  where
    joined : ((which ≡ limit.Names) × HaveManyNames a b) ⊎ ((which ≡ limit.Pairs) × HaveFewNames a b)
        → ((other ≡ limit.Names) × HaveManyNames a b) ⊎ ((other ≡ limit.Pairs) × HaveFewNames a b) → which ≡ other
    joined (inl x) (inl y) = x.0 ∙ sym y.0
    joined (inl x) (inr y) = absurd (many_or_few a b x.1 y.1)
    joined (inr x) (inl y) = absurd (many_or_few a b y.1 x.1)
    joined (inr x) (inr y) = x.0 ∙ sym y.0

one_of_word : (which other : Limit) (a : Automaton) (p : WordPattern) → PassesOfWord which a p → PassesOfWord other a p → which ≡ other
one_of_word which other a p (inl x) (inl y) = x.0 ∙ sym y.0
one_of_word which other a p (inl x) (inr y) = absurd (omega (arith, x.1, y.0))
one_of_word which other a p (inr x) (inl y) = absurd (omega (arith, x.0, y.1))
one_of_word which other a p (inr x) (inr y) = one_of_both which other a (canonical (word_automaton p)) x.1 y.1

pub one_of_inclusion : OneLimitOfInclusion
one_of_inclusion which other a b (inl x) (inl y) = one_of_parity which other b (of_parity which b x.1) (of_parity other b y.1)
one_of_inclusion which other a b (inl x) (inr y) = absurd (y.0 which x)
one_of_inclusion which other a b (inr x) (inl y) = absurd (x.0 other y)
one_of_inclusion which other a b (inr x) (inr y) =
    let same : y.1.co ≡ x.1.co = complement_is_determined b y.1.co x.1.co y.1.is x.1.is in
    one_of_both which other a x.1.co x.1.passes (subst (PassesOfBoth other a) same y.1.passes)

one_of_equivalence : (which other : Limit) (a b : Automaton) → PassesOfEquivalence which a b → PassesOfEquivalence other a b → which ≡ other
one_of_equivalence which other a b (inl x) (inl y) = one_of_inclusion which other a b x y
one_of_equivalence which other a b (inl x) (inr y) = absurd (y.0 which x)
one_of_equivalence which other a b (inr x) (inl y) = absurd (x.0 other y)
one_of_equivalence which other a b (inr x) (inr y) = one_of_inclusion which other b a x.2 y.2

one_limit : (f : Filter) (which other : Limit) (a : Automaton) → PassesLimitOf which f a → PassesLimitOf other f a → which ≡ other
one_limit (AcceptsWord p) which other a h k = one_of_word which other (canonical a) p h k
one_limit (RejectsWord p) which other a h k = one_of_word which other (canonical a) p h k
one_limit (IncludedIn b) which other a h k = one_of_inclusion which other (canonical a) b h k
one_limit (EquivalentTo b) which other a h k = one_of_equivalence which other (canonical a) b h k
one_limit (Intersects b) which other a h k = one_of_both which other (canonical a) b h k
one_limit IsUnambiguous which other a h k = h.0 ∙ sym k.0
one_limit _ which other a h k = absurd h

-- ---- where filters end

-- some filter has the property `So`, and all before it hold
abbrev EndsIn : (Filter → Type 0) → List Filter → Automaton → Type 0
EndsIn So [] a = ⊥
EndsIn So (f ∷ fs) a = So f ⊎ (HoldsWithin f a × EndsIn So fs a)

ends_in : (So : Filter → Type 0) (before : List Filter) (f : Filter) (after : List Filter) (a : Automaton) → AllHold before a → So f → EndsIn So (before ++ f ∷ after) a
ends_in So [] f after a held so = inl so
ends_in So (g ∷ before) f after a held so = inr (held.0, ends_in So before f after a held.1 so)

ends_at : (So : Filter → Type 0) (fs : List Filter) (f : Filter) (a : Automaton) → FirstIn (λ g. HoldsWithin g a) fs f → So f → EndsIn So fs a
ends_at So fs f a h so = subst (λ (gs : List Filter). EndsIn So gs a) (sym h.all) (ends_in So h.before f h.after a h.earlier so)

fails_in : (fs : List Filter) (a : Automaton) → FailsAtFilter fs a → EndsIn (λ f. LacksWithin f a) fs a
fails_in fs a h = ends_at (λ f. LacksWithin f a) fs h.0 a h.1 h.2

passes_in : (which : Limit) (fs : List Filter) (a : Automaton) → PassesAt which fs a → EndsIn (λ f. PassesLimitOf which f a) fs a
passes_in which fs a h = ends_at (λ f. PassesLimitOf which f a) fs h.0 a h.1 h.2

-- where all filters hold, none has the property
no_end : (So : Filter → Type 0) (fs : List Filter) (a : Automaton) → ((f : Filter) → HoldsWithin f a → So f → ⊥) → AllHold fs a → EndsIn So fs a → ⊥
no_end So [] a apart all ends = ends
no_end So (f ∷ fs) a apart all (inl so) = apart f all.0 so
no_end So (f ∷ fs) a apart all (inr rest) = no_end So fs a apart all.1 rest.1

-- two such filters, by two properties, are the same filter
one_end : {G : Type 0} (So Also : Filter → Type 0) (fs : List Filter) (a : Automaton) → ((f : Filter) → HoldsWithin f a → So f → ⊥) → ((f : Filter) → HoldsWithin f a → Also f → ⊥)
    → ((f : Filter) → So f → Also f → G) → EndsIn So fs a → EndsIn Also fs a → G
one_end So Also [] a apart other joined h k = absurd h
one_end So Also (f ∷ fs) a apart other joined (inl so) (inl also) = joined f so also
one_end So Also (f ∷ fs) a apart other joined (inl so) (inr rest) = absurd (apart f rest.0 so)
one_end So Also (f ∷ fs) a apart other joined (inr rest) (inl also) = absurd (other f rest.0 also)
one_end So Also (f ∷ fs) a apart other joined (inr rest) (inr more) = one_end So Also fs a apart other joined rest.1 more.1

module _ (fs : List Filter) (a : Automaton) where
  lacks_apart : (f : Filter) → HoldsWithin f a → LacksWithin f a → ⊥
  lacks_apart f h k = k.fails h.holds

  passes_apart : (which : Limit) (f : Filter) → HoldsWithin f a → PassesLimitOf which f a → ⊥
  passes_apart which f h k = h.within which k

  all_or_fails : AllHold fs a → FailsAtFilter fs a → ⊥
  all_or_fails all h = no_end (λ f. LacksWithin f a) fs a lacks_apart all (fails_in fs a h)

  all_or_passes : (which : Limit) → AllHold fs a → PassesAt which fs a → ⊥
  all_or_passes which all h = no_end (λ f. PassesLimitOf which f a) fs a (passes_apart which) all (passes_in which fs a h)

  fails_or_passes : (which : Limit) → FailsAtFilter fs a → PassesAt which fs a → ⊥
  fails_or_passes which h k = one_end (λ f. LacksWithin f a) (λ f. PassesLimitOf which f a) fs a lacks_apart (passes_apart which) (λ f lacks passed. lacks.within which passed) (fails_in fs a h)
      (passes_in which fs a k)

  passes_one : (which other : Limit) → PassesAt which fs a → PassesAt other fs a → which ≡ other
  passes_one which other h k = one_end (λ f. PassesLimitOf which f a) (λ f. PassesLimitOf other f a) fs a (passes_apart which) (passes_apart other)
      (λ f passed also. one_limit f which other a passed also)
      (passes_in which fs a h) (passes_in other fs a k)

  -- ---- one verdict

  abbrev IsKeptIf : Bool → Type 0
  IsKeptIf inverts = MatchBool inverts (FailsAtFilter fs a) (AllHold fs a)

  abbrev IsDroppedIf : Bool → Type 0
  IsDroppedIf inverts = MatchBool inverts (AllHold fs a) (FailsAtFilter fs a)

  kept_or_dropped : (inverts : Bool) → IsKeptIf inverts → IsDroppedIf inverts → ⊥
  kept_or_dropped false h k = all_or_fails h k
  kept_or_dropped true h k = all_or_fails k h

  kept_or_over : (inverts : Bool) (which : Limit) → IsKeptIf inverts → PassesAt which fs a → ⊥
  kept_or_over false which h k = all_or_passes which h k
  kept_or_over true which h k = fails_or_passes which h k

  dropped_or_over : (inverts : Bool) (which : Limit) → IsDroppedIf inverts → PassesAt which fs a → ⊥
  dropped_or_over false which h k = fails_or_passes which h k
  dropped_or_over true which h k = all_or_passes which h k

pub verdict_is_one : VerdictIsOne
verdict_is_one p ops a Kept Kept h k = refl
verdict_is_one p ops a Kept Dropped h k = absurd (kept_or_dropped (filters p ops) a p.invert h k)
verdict_is_one p ops a Kept (Over which) h k = absurd (kept_or_over (filters p ops) a p.invert which h k)
verdict_is_one p ops a Dropped Kept h k = absurd (kept_or_dropped (filters p ops) a p.invert k h)
verdict_is_one p ops a Dropped Dropped h k = refl
verdict_is_one p ops a Dropped (Over which) h k = absurd (dropped_or_over (filters p ops) a p.invert which h k)
verdict_is_one p ops a (Over which) Kept h k = absurd (kept_or_over (filters p ops) a p.invert which k h)
verdict_is_one p ops a (Over which) Dropped h k = absurd (dropped_or_over (filters p ops) a p.invert which k h)
verdict_is_one p ops a (Over which) (Over other) h k = let same : which ≡ other = passes_one (filters p ops) a which other h k in cc

-- ---- some verdict

-- it isn't so that a filter neither holds nor fails within limits, nor passes one
settled : (f : Filter) (a : Automaton) → (HoldsWithin f a → ⊥) → (LacksWithin f a → ⊥) → ((which : Limit) → PassesLimitOf which f a → ⊥) → ⊥
settled f a holds lacks within = lacks (record { within = within; fails = λ h. holds (record { within = within; holds = h }) })

-- the first filter of a list is that of the list behind one more filter that holds
first_behind : (g f : Filter) (fs : List Filter) (a : Automaton) → HoldsWithin g a → FirstIn (λ x. HoldsWithin x a) fs f → FirstIn (λ x. HoldsWithin x a) (g ∷ fs) f
first_behind g f fs a holds h = record { before = g ∷ h.before; after = h.after; all = (λ i. g ∷ h.all i); earlier = (holds, h.earlier) }

at_first : (f : Filter) (fs : List Filter) (a : Automaton) → FirstIn (λ x. HoldsWithin x a) (f ∷ fs) f
at_first f fs a = record { before = []; after = fs; all = refl; earlier = tt }

some_end : (fs : List Filter) (a : Automaton) → (AllHold fs a → ⊥) → (FailsAtFilter fs a → ⊥) → ((which : Limit) → PassesAt which fs a → ⊥) → ⊥
some_end [] a all fails passes = all tt
some_end (f ∷ fs) a all fails passes =
    settled f a
    (λ holds. some_end fs a (λ h. all (holds, h)) (λ h. fails (h.0, first_behind f h.0 fs a holds h.1, h.2)) (λ which h. passes which (h.0, first_behind f h.0 fs a holds h.1, h.2)))
    (λ lacks. fails (f, at_first f fs a, lacks))
    (λ which passed. passes which (f, at_first f fs a, passed))

some_by : (inverts : Bool) (fs : List Filter) (a : Automaton) → (IsKeptIf fs a inverts → ⊥) → (IsDroppedIf fs a inverts → ⊥) → ((which : Limit) → PassesAt which fs a → ⊥) → ⊥
some_by false fs a kept dropped over = some_end fs a kept dropped over
some_by true fs a kept dropped over = some_end fs a dropped kept over

pub a_verdict_exists : AVerdictExists
a_verdict_exists p ops a none = some_by p.invert (filters p ops) a (none Kept) (none Dropped) (λ which. none (Over which))

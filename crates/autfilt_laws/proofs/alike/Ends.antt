-- The texts alone determine at which point of the streams a run ends.
use Rattle.std.proofs.Common.{◌≡◌, ℕ, ◌+◌, true, List, [], ◌∷◌, Option, Some, None, sym, ap, ◌∙◌, subst, inl, inr}
use Rattle.std.proofs.lemmas.Bool.{false≢true}
use Rattle.aut_base.specs.Automaton.{Automaton}
use Rattle.aut_io.specs.Outside.{Texts}
use Rattle.autfilt_laws.proofs.alike.Tallied.{IsTallied, of_all}
use Rattle.autfilt_run.proofs.handling.PassedLimits.{plan_passes}
use Rattle.autfilt_run.specs.Run.{EndsAt, end_of}
use Rattle.autfilt_run.specs.declared.ended.End.{End}
use Rattle.autfilt_run.specs.declared.ended.End.TheVariants as end
use Rattle.autfilt_laws.proofs.alike.EndPlaces.{at_named}
use Rattle.autfilt_laws.proofs.alike.Faults.{Asking, Halted, IsOneAsking, Stopped, asks_there, both_stopped, halted_look, open_there, stopped, unfit_whole}
use Rattle.autfilt_laws.proofs.alike.Full.{IsFitted, fitted_goes, full_goes}
use Rattle.autfilt_laws.proofs.alike.Like.{tally_like}
use Rattle.autfilt_laws.proofs.alike.Looks.{look_at, look_behind, look_over}
use Rattle.autfilt_laws.proofs.alike.Steps.{one_next}
use Rattle.autfilt_laws.proofs.alike.Verdicts.{AreOne, dropped_is_within, kept_is_within, one_over}
use Rattle.autfilt_laws.specs.Runs.{AreLike, IsByText}
use Rattle.autfilt_run.specs.Events.{AreJudged, Dropped, Ended, Event, EventLeads, Happen, IsEventJudged, Kept, Opened, Point, Skipped, tally}
use Rattle.autfilt_run.specs.Over.{IsOverLimit}
use Rattle.autfilt_run.specs.Plans.{asks_on}
use Rattle.autfilt_run.specs.Runs.{IsDone, StopsReading}
use Rattle.autfilt_run.specs.declared.fault.RunFault.{RunFault}
use Rattle.filter_plan.specs.declared.plan.Plan.{Plan}
use Rattle.hoa_parser.specs.Standing.{OneStanding}

-- what a plan says about the automata of its streams
abbrev pub in_streams : Plan → List Automaton → Asking
in_streams plan ops = record { over = λ which w. IsOverLimit which plan ops w; blank = λ f. ⊥ }

pub one_in_streams : AreOne → (plan : Plan) (ops : List Automaton) → IsOneAsking (in_streams plan ops)
one_in_streams plain plan ops = record {
  limit = λ which other w h k. one_over plain plan ops which other w h k;
  blank = λ f g h k. absurd h;
  valid = λ which w h. h.valid;
  within = λ which w h. h.within;
}

abbrev pub IsStopped : Plan → List Automaton → Point → RunFault → Type 0
IsStopped plan ops p f = Stopped (asks_on plan p.kept ≡ true) (in_streams plan ops) p f

-- a run that read all, or that ended by what is next in a stream
abbrev pub Ends : Plan → List Automaton → ℕ → Point → List Event → End → Type 0
Ends plan ops passed p events (end.Fault f) = IsStopped plan ops p f
Ends plan ops passed p events e = IsDone plan p × (e ≡ end_of (tally passed events))

pub ends_at : (plan : Plan) (ops : List Automaton) (passed : ℕ) (e : End) (events : List Event) (name : List ℕ) (p : Point) (left : Option (List ℕ))
    → IsByText e → IsFitted p → IsTallied e passed events → EndsAt plan ops e name p left → Ends plan ops passed p events e
ends_at plan ops passed end.Output events name p left by fitted t h = (h.0, of_all end.Output passed events (λ f is. cc) t)
ends_at plan ops passed end.NoneOutput events name p left by fitted t h = (h.0, of_all end.NoneOutput passed events (λ f is. cc) t)
ends_at plan ops passed end.Aborts events name p left by fitted t h = (h.0, of_all end.Aborts passed events (λ f is. cc) t)
ends_at plan ops passed end.Usage events name p left by fitted t h = absurd by
ends_at plan ops passed (end.Fault f) events name p left by fitted t h =
    let named = at_named (asks_on plan p.kept ≡ true) (StopsReading (λ which w. IsOverLimit which plan ops w)) f name p left by h.0 in
    stopped (asks_on plan p.kept ≡ true) (in_streams plan ops) (λ which w o. plan_passes which plan ops w o) f p left by fitted named.at h.1

-- ---- no event happens at a point where the run has ended

none_behind : OneStanding → AreOne → (plan : Plan) (ops : List Automaton) (texts : Texts) (f : RunFault) (e : Event) (p q : Point)
    → Halted (asks_on plan p.kept ≡ true) (in_streams plan ops) p f → IsEventJudged plan ops e → EventLeads texts e p q → ⊥
none_behind one plain plan ops texts f (Opened n) p q h j g = let none : None ≡ Some h.stream = sym g.closed ∙ h.is_open in cc
none_behind one plain plan ops texts f (Kept w t) p q h j g =
    unfit_whole (in_streams plan ops) w g.next f (halted_look one (asks_on plan p.kept ≡ true) (in_streams plan ops) p q f _ _ h (look_at p q w (p.kept + 1) g)) g.stands.valid g.stands.within
    (λ which. kept_is_within plain which plan ops w t j.0 j.1)
none_behind one plain plan ops texts f (Dropped w) p q h j g =
    unfit_whole (in_streams plan ops) w g.next f (halted_look one (asks_on plan p.kept ≡ true) (in_streams plan ops) p q f _ _ h (look_at p q w p.kept g)) g.stands.valid g.stands.within
    (λ which. dropped_is_within plain which plan ops w j)
none_behind one plain plan ops texts f (Skipped n) p q h j g = halted_look one (asks_on plan p.kept ≡ true) (in_streams plan ops) p q f _ _ h (look_over p q n g)
none_behind one plain plan ops texts f Ended p q h j g = halted_look one (asks_on plan p.kept ≡ true) (in_streams plan ops) p q f _ _ h (look_behind p q g)

no_more : OneStanding → AreOne → (plan : Plan) (ops : List Automaton) (texts : Texts) (f : RunFault) (e : Event) (p q : Point) → IsFitted p → IsStopped plan ops p f → IsEventJudged plan ops e
    → EventLeads texts e p q
    → ⊥
no_more one plain plan ops texts f e p q fitted (inl h) j g = none_behind one plain plan ops texts f e p q h.halted j g
no_more one plain plan ops texts f e p q fitted (inr h) j g = full_goes texts e p q fitted h.full g

closed_goes : (texts : Texts) (e : Event) (p q : Point) → p.stream ≡ None → p.coming ≡ [] → EventLeads texts e p q → ⊥
closed_goes texts (Opened n) p q closed none g = let all : (n ∷ g.others) ≡ [] = sym g.next ∙ none in cc
closed_goes texts (Kept w t) p q closed none g = let some : None ≡ Some g.stream = sym closed ∙ g.is_open in cc
closed_goes texts (Dropped w) p q closed none g = let some : None ≡ Some g.stream = sym closed ∙ g.is_open in cc
closed_goes texts (Skipped n) p q closed none g = let some : None ≡ Some g.reads.stream = sym closed ∙ g.reads.is_open in cc
closed_goes texts Ended p q closed none g = let some : None ≡ Some g.stream = sym closed ∙ g.is_open in cc

done_goes : (plan : Plan) (texts : Texts) (e : Event) (p q : Point) → IsDone plan p → asks_on plan p.kept ≡ true → EventLeads texts e p q → ⊥
done_goes plan texts e p q (inl reached) asks g = false≢true (sym reached ∙ asks)
done_goes plan texts e p q (inr h) asks g = closed_goes texts e p q h.0 h.1 g

nothing_more : OneStanding → AreOne → (plan : Plan) (ops : List Automaton) (passed : ℕ) (texts : Texts) (events : List Event) (d : End) (e : Event) (p q : Point)
    → IsFitted p → Ends plan ops passed p events d → IsEventJudged plan ops e → asks_on plan p.kept ≡ true → EventLeads texts e p q → ⊥
nothing_more one plain plan ops passed texts events (end.Fault f) e p q fitted h j asks g = no_more one plain plan ops texts f e p q fitted h j g
nothing_more one plain plan ops passed texts events end.Output e p q fitted h j asks g = done_goes plan texts e p q h.0 asks g
nothing_more one plain plan ops passed texts events end.NoneOutput e p q fitted h j asks g = done_goes plan texts e p q h.0 asks g
nothing_more one plain plan ops passed texts events end.Aborts e p q fitted h j asks g = done_goes plan texts e p q h.0 asks g
nothing_more one plain plan ops passed texts events end.Usage e p q fitted h j asks g = done_goes plan texts e p q h.0 asks g

-- two runs that ended have the same events
pub same_events : OneStanding → AreOne → (plan : Plan) (ops : List Automaton) (passed : ℕ) (texts : Texts) (es fs all all' : List Event) (e d : End) (p q r : Point)
    → IsFitted p → AreJudged plan ops es → AreJudged plan ops fs
    → Happen plan texts es p q → Happen plan texts fs p r → Ends plan ops passed q all e → Ends plan ops passed r all' d → AreLike plan es fs × (q ≡ r)
same_events one plain plan ops passed texts [] [] all all' e d p q r fitted j i a b x y = (tt, sym a ∙ b)
same_events one plain plan ops passed texts [] (f ∷ fs) all all' e d p q r fitted j i a b x y =
    absurd (nothing_more one plain plan ops passed texts all e f p b.1 fitted (subst (λ (z : Point). Ends plan ops passed z all e) (sym a) x) i.0 b.0 b.2)
same_events one plain plan ops passed texts (e' ∷ es) [] all all' e d p q r fitted j i a b x y =
    absurd (nothing_more one plain plan ops passed texts all' d e' p a.1 fitted (subst (λ (z : Point). Ends plan ops passed z all' d) (sym b) y) j.0 a.0 a.2)
same_events one plain plan ops passed texts (e' ∷ es) (f ∷ fs) all all' e d p q r fitted j i a b x y =
    let same = one_next one plain plan ops texts e' f p a.1 b.1 j.0 i.0 a.2 b.2 in
    let rest = same_events one plain plan ops passed texts es fs all all' e d a.1 q r (fitted_goes texts e' p a.1 fitted a.2) j.1 i.1 a.3
    (subst (λ (z : Point). Happen plan texts fs z r) (sym same.1) b.3) x y in
    ((same.0, rest.0), rest.1)

-- the end of the one is one of the other
pub ends_like : (plan : Plan) (ops : List Automaton) (passed : ℕ) (p : Point) (es fs : List Event) (d : End) → AreLike plan es fs → Ends plan ops passed p fs d → Ends plan ops passed p es d
ends_like plan ops passed p es fs (end.Fault f) like h = h
ends_like plan ops passed p es fs end.Output like h = (h.0, h.1 ∙ ap end_of (tally_like plan _ es fs like))
ends_like plan ops passed p es fs end.NoneOutput like h = (h.0, h.1 ∙ ap end_of (tally_like plan _ es fs like))
ends_like plan ops passed p es fs end.Aborts like h = (h.0, h.1 ∙ ap end_of (tally_like plan _ es fs like))
ends_like plan ops passed p es fs end.Usage like h = (h.0, h.1 ∙ ap end_of (tally_like plan _ es fs like))

-- ---- two ends at one point

not_done : (plan : Plan) (ops : List Automaton) (p : Point) (f : RunFault) → IsStopped plan ops p f → IsDone plan p → ⊥
not_done plan ops p f h (inl reached) = false≢true (sym reached ∙ asks_there _ (in_streams plan ops) p f h)
not_done plan ops p f h (inr done) = open_there _ (in_streams plan ops) p f h done.0

pub alike : OneStanding → AreOne → (plan : Plan) (ops : List Automaton) (passed : ℕ) (p : Point) (events : List Event) (e d : End) → IsByText e → IsByText d
    → Ends plan ops passed p events e → Ends plan ops passed p events d → e ≡ d
alike one plain plan ops passed p events (end.Fault f) (end.Fault g) x y a b =
    ap end.Fault (both_stopped one (asks_on plan p.kept ≡ true) (in_streams plan ops) (one_in_streams plain plan ops) p f g a b)
alike one plain plan ops passed p events (end.Fault f) end.Output x y a b = absurd (not_done plan ops p f a b.0)
alike one plain plan ops passed p events (end.Fault f) end.NoneOutput x y a b = absurd (not_done plan ops p f a b.0)
alike one plain plan ops passed p events (end.Fault f) end.Aborts x y a b = absurd (not_done plan ops p f a b.0)
alike one plain plan ops passed p events (end.Fault f) end.Usage x y a b = absurd y
alike one plain plan ops passed p events end.Output (end.Fault g) x y a b = absurd (not_done plan ops p g b a.0)
alike one plain plan ops passed p events end.Output end.Output x y a b = a.1 ∙ sym b.1
alike one plain plan ops passed p events end.Output end.NoneOutput x y a b = a.1 ∙ sym b.1
alike one plain plan ops passed p events end.Output end.Aborts x y a b = a.1 ∙ sym b.1
alike one plain plan ops passed p events end.Output end.Usage x y a b = absurd y
alike one plain plan ops passed p events end.NoneOutput (end.Fault g) x y a b = absurd (not_done plan ops p g b a.0)
alike one plain plan ops passed p events end.NoneOutput end.Output x y a b = a.1 ∙ sym b.1
alike one plain plan ops passed p events end.NoneOutput end.NoneOutput x y a b = a.1 ∙ sym b.1
alike one plain plan ops passed p events end.NoneOutput end.Aborts x y a b = a.1 ∙ sym b.1
alike one plain plan ops passed p events end.NoneOutput end.Usage x y a b = absurd y
alike one plain plan ops passed p events end.Aborts (end.Fault g) x y a b = absurd (not_done plan ops p g b a.0)
alike one plain plan ops passed p events end.Aborts end.Output x y a b = a.1 ∙ sym b.1
alike one plain plan ops passed p events end.Aborts end.NoneOutput x y a b = a.1 ∙ sym b.1
alike one plain plan ops passed p events end.Aborts end.Aborts x y a b = a.1 ∙ sym b.1
alike one plain plan ops passed p events end.Aborts end.Usage x y a b = absurd y
alike one plain plan ops passed p events end.Usage d x y a b = absurd x

-- Steps one after the other make their changes one after the other.
use Rattle.std.proofs.Common.{◌≡◌, ◌↔◌, ◌⊎◌, List, [], ◌∷◌, ◌++◌, Result, Ok, Err, inl, inr, refl, subst}
use Rattle.std.specs.Result.{IsErrAnd}
use Rattle.ap_project.proofs.Languages.{said_too, same_hidden}
use Rattle.ap_project.specs.Hiding.{AcceptsHidden, hidden}
use Rattle.ap_project.specs.Laws.{SayTheSame}
use Rattle.aut_base.proofs.Outcomes.{hands_on}
use Rattle.aut_base.specs.Acceptance.{Accepts}
use Rattle.aut_base.specs.Automaton.{Automaton}
use Rattle.aut_base.specs.Word.{NameSet}
use Rattle.aut_base.specs.declared.limit.Limit.{Limit}
use Rattle.aut_core.specs.SymbolicAutomata.{SymbolicAutomaton, automaton_of}
use Rattle.filter_plan.specs.declared.plan.Form.{Form}
use Rattle.filter_plan.specs.declared.plan.Form.TheVariants as form
use Rattle.filter_plan.specs.declared.plan.Hidden.{Hidden}
use Rattle.plan_meaning.specs.Changes.{Bring, Change, Complement, Complete, Language, Makes, MakesAll, PassesIn, Product, ProductOr}
use Rattle.plan_meaning.specs.Changes.{RemoveAp, StopsIn, Sum, Trim, said_by, said_by_all, said_in_form}
use Rattle.plan_meaning.specs.declared.fault.PlanFault.{PlanFault}
use Rattle.plan_meaning.specs.declared.fault.PlanFault.TheVariants as fault
use Rattle.plan_meaning.specs.inner.Stepping.{IsMadeAsPromised, MakesAsPromised, Promises, StepsChanges}

-- ---- one change, and none

pub changed_once : (c : Change) (a made : Automaton) → ((which : Limit) → PassesIn which c a → ⊥) → Makes c a made → Promises c a made
    → ((u v : List NameSet) → Accepts made u v ↔ said_by c (λ x y. Accepts a x y) u v) → IsMadeAsPromised (c ∷ []) a made
changed_once c a made within makes promised says = record { all = (made, record { within = within; makes = makes }, promised, refl); says = λ u v some. says u v }

-- one proposition hidden
pub hidden_made : (h : Hidden) (a made : Automaton) → made ≡ hidden h.how h.name a → AcceptsHidden h.how h.name a made → IsMadeAsPromised (RemoveAp h ∷ []) a made
hidden_made h a made is accepts = record { all = (made, record { within = λ which x. x; makes = is }, tt, refl); says = accepts }

-- ---- what is accepted

either_alike : {P Q : Type 0} (R : Type 0) → P ↔ Q → (P ⊎ R) ↔ (Q ⊎ R)
either_alike {P = P} {Q = Q} R h = (
  (λ x. elim x as (λ _. Q ⊎ R) [ inl p ↦ inl (h.0 p) | inr r ↦ inr r ]),
  (λ x. elim x as (λ _. P ⊎ R) [ inl q ↦ inl (h.1 q) | inr r ↦ inr r ]),
)

form_alike : (f : Form) (L M : Language) → SayTheSame L M → SayTheSame (said_in_form f L) (said_in_form f M)
form_alike form.AsIs L M h u v some = h u v some
form_alike form.Deterministic L M h u v some = h u v some
form_alike form.Parity L M h u v some = h u v some
form_alike form.Buchi L M h u v some = h u v some
form_alike form.RemoveFin L M h u v some = h u v some
form_alike form.Dnf L M h u v some = h u v some
form_alike form.Monitor L M h u v some = (
  (λ x n. said_too L M _ h (x n)),
  (λ x n. said_too M L _ (λ y z more. ((h y z more).1, (h y z more).0)) (x n)),
)

one_alike : (c : Change) (L M : Language) → SayTheSame L M → SayTheSame (said_by c L) (said_by c M)
one_alike (Product b) L M h u v some = ((λ x. ((h u v some).0 x.0, x.1)), (λ x. ((h u v some).1 x.0, x.1)))
one_alike (ProductOr b) L M h u v some = either_alike (Accepts b u v) (h u v some)
one_alike (Sum b) L M h u v some = either_alike (Accepts b u v) (h u v some)
one_alike (RemoveAp x) L M h u v some = same_hidden x.how x.name L M h u v some
one_alike Trim L M h u v some = h u v some
one_alike Complement L M h u v some = ((λ x m. x ((h u v some).1 m)), (λ x l. x ((h u v some).0 l)))
one_alike (Bring f) L M h u v some = form_alike f L M h u v some
one_alike Complete L M h u v some = h u v some

-- changes make the same of two languages with the same words
pub all_alike : (cs : List Change) (L M : Language) → SayTheSame L M → SayTheSame (said_by_all cs L) (said_by_all cs M)
all_alike [] L M h u v some = h u v some
all_alike (c ∷ cs) L M h u v some = all_alike cs (said_by c L) (said_by c M) (one_alike c L M h) u v some

said_then : (cs ds : List Change) (L : Language) (u v : List NameSet) → said_by_all ds (said_by_all cs L) u v ↔ said_by_all (cs ++ ds) L u v
said_then [] ds L u v = ((λ x. x), (λ x. x))
said_then (c ∷ cs) ds L u v = said_then cs ds (said_by c L) u v

-- ---- one after the other

all_then : (cs ds : List Change) (a b made : Automaton) → MakesAsPromised cs a b → MakesAsPromised ds b made → MakesAsPromised (cs ++ ds) a made
all_then [] ds a b made first second = subst (λ (x : Automaton). MakesAsPromised ds x made) first second
all_then (c ∷ cs) ds a b made first second = (first.0, first.1, first.2, all_then cs ds first.0 b made first.3 second)

-- what the changes make, leaving out the promises
pub makes_all : (cs : List Change) (a made : Automaton) → MakesAsPromised cs a made → MakesAll cs a made
makes_all [] a made h = h
makes_all (c ∷ cs) a made h = (h.0, h.1, makes_all cs h.0 made h.3)

pub made_then : (cs ds : List Change) (a b made : Automaton) → IsMadeAsPromised cs a b → IsMadeAsPromised ds b made → IsMadeAsPromised (cs ++ ds) a made
made_then cs ds a b made first second = record {
  all = all_then cs ds a b made first.all second.all;
  says = λ u v some.
      let next = all_alike ds (λ x y. Accepts b x y) (said_by_all cs (λ x y. Accepts a x y)) first.says u v some in
      let whole = said_then cs ds (λ x y. Accepts a x y) u v in
      ((λ x. whole.0 (next.0 ((second.says u v some).0 x))), (λ x. (second.says u v some).1 (next.1 (whole.1 x))));
}

stops_before : (which : Limit) (cs ds : List Change) (a : Automaton) → StopsIn which cs a → StopsIn which (cs ++ ds) a
stops_before which [] ds a stops = absurd stops
stops_before which (c ∷ cs) ds a (inl passes) = inl passes
stops_before which (c ∷ cs) ds a (inr later) = inr (later.0, later.1, stops_before which cs ds later.0 later.2)

stops_behind : (which : Limit) (cs ds : List Change) (a b : Automaton) → MakesAll cs a b → StopsIn which ds b → StopsIn which (cs ++ ds) a
stops_behind which [] ds a b made stops = subst (λ (x : Automaton). StopsIn which ds x) made stops
stops_behind which (c ∷ cs) ds a b made stops = inr (made.0, made.1, stops_behind which cs ds made.0 b made.2 stops)

-- a step after changes that were made
pub steps_then : (cs ds : List Change) (a b : Automaton) (r : Result SymbolicAutomaton PlanFault) → IsMadeAsPromised cs a b → StepsChanges ds b r → StepsChanges (cs ++ ds) a r
steps_then cs ds a b (Ok made) first second = made_then cs ds a b (automaton_of made) first second
steps_then cs ds a b (Err (fault.Limit which)) first second = stops_behind which cs ds a b (makes_all cs a b first.all) second
steps_then cs ds a b (Err fault.Memory) first second = tt

-- a fault that a step passes on: no later step is made
pub steps_end : (cs ds : List Change) (a : Automaton) (came : PlanFault) (r : Result SymbolicAutomaton PlanFault) → IsErrAnd r (λ y. y ≡ came) → StepsChanges cs a (Err came)
    → StepsChanges (cs ++ ds) a r
steps_end cs ds a came r passed steps = hands_on r came (StepsChanges (cs ++ ds) a) passed (ended came steps)
  where
    ended : (f : PlanFault) → StepsChanges cs a (Err f) → StepsChanges (cs ++ ds) a (Err f)
    ended (fault.Limit which) stops = stops_before which cs ds a stops
    ended fault.Memory stops = tt

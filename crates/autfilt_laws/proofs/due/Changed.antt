-- What the changes of a plan make of an automaton keeps what its form promises, and has the language of the plan's set
-- operation.
use Rattle.std.proofs.Common.{◌≡◌, ◌≤◌, List, [], ◌∷◌, Contains, length, refl, subst, sym}
use Rattle.std.specs.List.{AllByRecursion}
use Rattle.aut_base.specs.Automaton.{Automaton, IsWellFormed}
use Rattle.aut_base.specs.declared.limit.TheConstants.{MOST_NAMES}
use Rattle.autfilt_laws.proofs.due.Combined.{product_or_step, product_step, sum_step}
use Rattle.autfilt_laws.proofs.due.Determined.{complement_step, deterministic_step, monitor_step, parity_step}
use Rattle.autfilt_laws.proofs.due.Shaped.{buchi_step, complete_step, dnf_step, fin_step, hidden_step, trim_step}
use Rattle.autfilt_laws.proofs.due.Sizes.{IsFine, IsOperand, Step}
use Rattle.filter_plan.specs.declared.plan.Form.{Form}
use Rattle.filter_plan.specs.declared.plan.Form.TheVariants as form
use Rattle.filter_plan.specs.declared.plan.Plan.{Plan}
use Rattle.plan_meaning.proofs.changes.ChangeLists.{none_made}
use Rattle.plan_meaning.proofs.changes.PlanChanges.{IsOfPlan, each_of_plan, sizes_of_plan}
use Rattle.plan_meaning.proofs.changes.Stepping.{made_then}
use Rattle.plan_meaning.specs.Changes.{Bring, Change, Complement, Complete, MakesAll, MakesWithin, Product, ProductOr, RemoveAp, Sum, Trim, changes_of}
use Rattle.plan_meaning.specs.Operands.{IsOfReadSize}
use Rattle.plan_meaning.specs.inner.Stepping.{IsMadeAsPromised, IsOfComplementSize, IsOfLastSize, IsOfSizeBefore, IsOfSizeFor}

-- what changes make
pub record AllMade (cs : List Change) (a made : Automaton) : Type 0 where
  pub is : IsMadeAsPromised cs a made
  pub fine : IsFine IsOfLastSize made

-- ---- one change

form_step : (f : Form) (a made : Automaton) → (f ≡ form.AsIs → ⊥) → IsFine IsOfComplementSize a → MakesWithin (Bring f) a made → Step (Bring f) a made
form_step form.AsIs a made asked fine m = absurd (asked refl)
form_step form.Deterministic a made asked fine m = deterministic_step a made fine m
form_step form.Parity a made asked fine m = parity_step a made fine m
form_step form.Buchi a made asked fine m = buchi_step a made fine m
form_step form.RemoveFin a made asked fine m = fin_step a made fine m
form_step form.Dnf a made asked fine m = dnf_step a made fine m
form_step form.Monitor a made asked fine m = monitor_step a made fine m

module _ (ops : List Automaton) (operands : (b : Automaton) → Contains ops b → IsOperand b) where
  one_step : (c : Change) (a made : Automaton) → IsOfPlan ops c → IsFine (IsOfSizeBefore c) a → MakesWithin c a made → Step c a made
  one_step (Product b) a made there fine m = product_step a b made (operands b there) fine m
  one_step (ProductOr b) a made there fine m = product_or_step a b made (operands b there) fine m
  one_step (Sum b) a made there fine m = sum_step a b made (operands b there) fine m
  one_step (RemoveAp h) a made there fine m = hidden_step h a made fine m
  one_step Trim a made there fine m = trim_step a made fine m
  one_step Complement a made there fine m = complement_step a made fine m
  one_step (Bring f) a made asked fine m = form_step f a made asked fine m
  one_step Complete a made there fine m = complete_step a made fine m

  -- ---- one after the other

  all_made : (cs : List Change) (a made : Automaton) → AllByRecursion (IsOfPlan ops) cs → IsOfSizeFor cs a → IsWellFormed a → length a.names ≤ MOST_NAMES → MakesAll cs a made → AllMade cs a made
  all_made [] a made of_plan sizes formed names m = subst (AllMade [] a) (sym m) (record { is = none_made a; fine = record { formed = formed; names = names; size = sizes } })
  all_made (c ∷ cs) a made of_plan sizes formed names m =
      let step = one_step c a m.0 of_plan.0 (record { formed = formed; names = names; size = sizes.1 }) m.1 in
      let rest = all_made cs m.0 made of_plan.1 (sizes.2 m.0 step.fine.size) step.fine.formed step.fine.names m.2 in
      record { is = made_then (c ∷ []) cs a m.0 made step.is rest.is; fine = rest.fine }

  -- those of a plan
  pub changes_made : (p : Plan) (a made : Automaton) → IsFine IsOfReadSize a → MakesAll (changes_of p ops) a made → AllMade (changes_of p ops) a made
  changes_made p a made f m =
      let sizes = sizes_of_plan p ops (λ b there. (operands b there).size) a f.size in
      all_made (changes_of p ops) a made (each_of_plan p ops) sizes f.formed f.names m

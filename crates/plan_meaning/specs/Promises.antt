-- What holds of the automaton that is made, by the form that the plan asks for.
use Rattle.std.specs.Prelude.{◌≡◌, ◌⊎◌, ◌+◌, Bool, true, false, List}
use Rattle.acc_forms.specs.Atoms.{has_fin}
use Rattle.acc_forms.specs.Joined.{conj}
use Rattle.acc_forms.specs.Terms.{of_terms}
use Rattle.acc_forms.specs.declared.literal.Literal.{Literal}
use Rattle.aut_base.specs.Automaton.{Automaton}
use Rattle.aut_base.specs.Formula.{FormulaTree}
use Rattle.aut_core.specs.Deterministic.{IsComplete, IsDeterministic}
use Rattle.degeneralise.specs.Buchi.{buchi}
use Rattle.parity_det.specs.Promises.{HasFewSets, IsParityMinOdd}
use Rattle.filter_plan.specs.declared.plan.Form.{Form}
use Rattle.filter_plan.specs.declared.plan.Form.TheVariants as form
use Rattle.filter_plan.specs.declared.plan.Plan.{Plan}
use Rattle.plan_meaning.specs.Changes.{MakesAll, operation_options}
use Rattle.plan_meaning.specs.Standing.{those_standing}

-- The automaton is of this form.
abbrev pub IsOfForm : Form → Automaton → Type 0
IsOfForm form.AsIs a = Unit {0}
IsOfForm form.Deterministic a = IsDeterministic a
IsOfForm form.Parity a = IsParityMinOdd a
IsOfForm form.Buchi a = (a.sets ≡ 1) × (a.formula ≡ FormulaTree.Inf 0 false)
IsOfForm form.RemoveFin a = has_fin a.formula ≡ false
-- a disjunction of conjunctions of literals, or one of its trivial cases
IsOfForm form.Dnf a = (terms : List (List Literal)) × (a.formula ≡ of_terms terms)
-- every run is accepting
IsOfForm form.Monitor a = IsDeterministic a × (a.sets ≡ 0) × (a.formula ≡ FormulaTree.True)

-- An automaton of this form was completed by a sink with a set of its own, in which a run may be only finitely often.
pub record HasSinkSet (f : Form) (made : Automaton) : Type 0 where
  pub before : Automaton
  pub formed : IsOfForm f before
  pub sets : made.sets ≡ before.sets + 1
  pub formula : made.formula ≡ conj before.formula (FormulaTree.Fin before.sets false)

-- it is of this form, unless completion added its set
abbrev pub OrHasSinkSet : Form → Bool → Automaton → Type 0
OrHasSinkSet f false made = IsOfForm f made
OrHasSinkSet f true made = IsOfForm f made ⊎ HasSinkSet f made

-- Completion adds no set under a Büchi condition, nor where the form is complete. It keeps an automaton deterministic.
abbrev pub KeepsForm : Form → Bool → Automaton → Type 0
KeepsForm form.AsIs complete made = Unit {0}
KeepsForm form.Deterministic complete made = IsDeterministic made
KeepsForm form.Parity complete made = IsParityMinOdd made
KeepsForm form.Buchi complete made = IsOfForm form.Buchi made
KeepsForm form.RemoveFin complete made = OrHasSinkSet form.RemoveFin complete made
KeepsForm form.Dnf complete made = OrHasSinkSet form.Dnf complete made
KeepsForm form.Monitor complete made = IsDeterministic made × OrHasSinkSet form.Monitor complete made

abbrev pub KeepsPromises : Plan → Automaton → Type 0
KeepsPromises p made = KeepsForm p.form p.complete made × (p.complete ≡ true → IsComplete made)

-- A parity automaton has 2N + 1 sets, where N is at least 1, and at most the greater of 1 and the number of useful states of the
-- Büchi form of what the operations make, which come before the form.
pub record HasFewSetsUnder (p : Plan) (ops : List Automaton) (a made : Automaton) : Type 0 where
  pub before : Automaton
  pub makes : MakesAll (those_standing (operation_options p ops)) a before
  pub few : HasFewSets (buchi before) made

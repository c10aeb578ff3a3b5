-- What is promised of what the changes of a plan make.
use Rattle.std.proofs.Common.{◌≡◌, ◌∙◌, ◌+◌, Bool, true, false, cond, List, [], ◌∷◌, ◌++◌, Option, Some, None, refl, ap, subst, sym, inl, inr}
use Rattle.std.specs.Bool.{then_some}
use Rattle.std.proofs.lemmas.Bool.{false≢true}
use Rattle.acc_forms.specs.Atoms.{has_fin}
use Rattle.acc_forms.specs.Joined.{conj}
use Rattle.acc_forms.specs.Terms.{of_terms, terms}
use Rattle.acc_forms.specs.declared.literal.Literal.{Literal}
use Rattle.aut_base.specs.Automaton.{Automaton}
use Rattle.aut_base.specs.Formula.{Fin, FormulaTree}
use Rattle.aut_core.specs.Deterministic.{IsComplete, IsDeterministic}
use Rattle.aut_ops.specs.Completion.{completed, is_met_unmarked, lacks_nothing, with_sink}
use Rattle.fin_removal.proofs.CopiedWhole.{copied_no_fin}
use Rattle.fin_removal.specs.Copies.{copied, without_fin}
use Rattle.filter_plan.specs.Words.{has_form}
use Rattle.filter_plan.specs.declared.plan.Form.{Form}
use Rattle.filter_plan.specs.declared.plan.Form.TheVariants as form
use Rattle.filter_plan.specs.declared.plan.Plan.{Plan}
use Rattle.monitor_form.specs.Subsets.{IsMonitorAutomaton}
use Rattle.plan_meaning.specs.Changes.{Bring, Change, Complete, IsMadeInForm, MakesAll, changes_of, operation_options}
use Rattle.degeneralise.specs.Buchi.{buchi}
use Rattle.parity_det.proofs.ParityLaws.{parity_has_few_sets}
use Rattle.parity_det.specs.Promises.{HasFewSets, IsParityMinOdd}
use Rattle.plan_meaning.specs.Promises.{HasFewSetsUnder, IsOfForm, KeepsForm, KeepsPromises, OrHasSinkSet}
use Rattle.plan_meaning.specs.Standing.{those_standing}
use Rattle.plan_meaning.specs.inner.Stepping.{MakesAsPromised, PromisesForm}

-- ---- forms under completion

-- the sink adds no set under a Büchi condition
completed_buchi : (a : Automaton) → IsOfForm form.Buchi a → IsOfForm form.Buchi (completed a)
completed_buchi a is = by_cases (lacks_nothing a)
  where
    unmet : is_met_unmarked a.formula ≡ false
    unmet = ap is_met_unmarked is.1

    by_cases : (b : Bool) → IsOfForm form.Buchi (cond b a (with_sink a))
    by_cases true = is
    by_cases false = (ap (λ (b : Bool). cond b (a.sets + 1) a.sets) unmet ∙ is.0, ap (λ (b : Bool). cond b (conj a.formula (Fin a.sets false)) a.formula) unmet ∙ is.1)

-- a form that depends on the condition alone
completed_condition : (f : Form) (P : FormulaTree → Type 0) → ((x : Automaton) → P x.formula → IsOfForm f x) → (a : Automaton) → IsOfForm f a → P a.formula → OrHasSinkSet f true (completed a)
completed_condition f P of a formed holds = by_cases (lacks_nothing a)
  where
    sink : (u : Bool) → is_met_unmarked a.formula ≡ u → OrHasSinkSet f true (with_sink a)
    sink true e = inr (record {
      before = a;
      formed = formed;
      sets = ap (λ (b : Bool). cond b (a.sets + 1) a.sets) e;
      formula = ap (λ (b : Bool). cond b (conj a.formula (Fin a.sets false)) a.formula) e;
    })
    sink false e = inl (of (with_sink a) (subst P (sym (ap (λ (b : Bool). cond b (conj a.formula (Fin a.sets false)) a.formula) e)) holds))

    by_cases : (b : Bool) → OrHasSinkSet f true (cond b a (with_sink a))
    by_cases true = inl formed
    by_cases false = sink (is_met_unmarked a.formula) refl

completed_no_fin : (a : Automaton) → has_fin a.formula ≡ false → OrHasSinkSet form.RemoveFin true (completed a)
completed_no_fin a is = completed_condition form.RemoveFin (λ (f : FormulaTree). has_fin f ≡ false) (λ x h. h) a is is

completed_disjunctive : (a : Automaton) → IsOfForm form.Dnf a → OrHasSinkSet form.Dnf true (completed a)
completed_disjunctive a is = completed_condition form.Dnf (λ f. (terms : List (List Literal)) × (f ≡ of_terms terms)) (λ x h. h) a is is

-- the sink that is added to a monitor, where a letter meets no edge, has a set of its own
completed_safety : (a : Automaton) → IsOfForm form.Monitor a → OrHasSinkSet form.Monitor true (completed a)
completed_safety a is = by_cases (lacks_nothing a)
  where
    met_so : is_met_unmarked a.formula ≡ true
    met_so = ap is_met_unmarked is.2

    by_cases : (b : Bool) → OrHasSinkSet form.Monitor true (cond b a (with_sink a))
    by_cases true = inl is
    by_cases false = inr (record {
      before = a;
      formed = is;
      sets = ap (λ (b : Bool). cond b (a.sets + 1) a.sets) met_so;
      formula = ap (λ (b : Bool). cond b (conj a.formula (Fin a.sets false)) a.formula) met_so;
    })

-- ---- forms

no_fin : (a : Automaton) → has_fin (without_fin a).formula ≡ false
no_fin a = by_cases (has_fin a.formula) refl
  where
    by_cases : (b : Bool) → has_fin a.formula ≡ b → has_fin (cond b (copied a) a).formula ≡ false
    by_cases true is = copied_no_fin a
    by_cases false is = is

of_monitor : (a made : Automaton) → IsMonitorAutomaton a made → IsDeterministic made → IsOfForm form.Monitor made
of_monitor a made is deterministic = (deterministic, ap (λ (x : Automaton). x.sets) is.is.is, ap (λ (x : Automaton). x.formula) is.is.is)

-- what a change into a form makes is of that form
of_form : (f : Form) (a made : Automaton) → IsMadeInForm f a made → PromisesForm f made → IsOfForm f made
of_form form.AsIs a made h promised = tt
of_form form.Deterministic a made h promised = promised
of_form form.Parity a made h promised = promised
of_form form.Buchi a made h promised = subst (IsOfForm form.Buchi) (sym h) (refl, refl)
of_form form.RemoveFin a made h promised = subst (λ (x : Automaton). has_fin x.formula ≡ false) (sym h) (no_fin a)
of_form form.Dnf a made h promised = subst (IsOfForm form.Dnf) (sym h) (terms a.formula, refl)
of_form form.Monitor a made h promised = of_monitor a made h promised

-- as it is, or completed
pub data MayBeCompleted (a made : Automaton) : Bool → Type 0 where
  Left : made ≡ a → MayBeCompleted a made false
  Completed : made ≡ completed a → (IsDeterministic a → IsDeterministic made) → (IsComplete a → made ≡ a) → MayBeCompleted a made true

-- and it keeps that under completion
keeps : (f : Form) (complete : Bool) (a made : Automaton) → IsOfForm f a → MayBeCompleted a made complete → KeepsForm f complete made
keeps form.AsIs complete a made is h = tt
keeps form.Deterministic false a made is (Left same) = subst IsDeterministic (sym same) is
keeps form.Deterministic true a made is (Completed same deterministic stays) = deterministic is
keeps form.Parity false a made is (Left same) = subst IsParityMinOdd (sym same) is
keeps form.Parity true a made is (Completed same deterministic stays) = subst IsParityMinOdd (sym (stays is.complete)) is
keeps form.Buchi false a made is (Left same) = subst (IsOfForm form.Buchi) (sym same) is
keeps form.Buchi true a made is (Completed same deterministic stays) = subst (IsOfForm form.Buchi) (sym same) (completed_buchi a is)
keeps form.RemoveFin false a made is (Left same) = subst (OrHasSinkSet form.RemoveFin false) (sym same) is
keeps form.RemoveFin true a made is (Completed same deterministic stays) = subst (OrHasSinkSet form.RemoveFin true) (sym same) (completed_no_fin a is)
keeps form.Dnf false a made is (Left same) = subst (OrHasSinkSet form.Dnf false) (sym same) is
keeps form.Dnf true a made is (Completed same deterministic stays) = subst (OrHasSinkSet form.Dnf true) (sym same) (completed_disjunctive a is)
keeps form.Monitor false a made is (Left same) = subst (λ (x : Automaton). IsDeterministic x × IsOfForm form.Monitor x) (sym same) (is.0, is)
keeps form.Monitor true a made is (Completed same deterministic stays) = (deterministic is.0, subst (OrHasSinkSet form.Monitor true) (sym same) (completed_safety a is))

-- ---- the changes of a plan

-- the form and completion, which come behind the operations
abbrev last_options : Form → Bool → List (Option Change)
last_options f complete = then_some (has_form f) (Bring f) ∷ then_some complete Complete ∷ []

-- some automaton that the first changes make, and of which the rest make the result
behind : (os rest : List (Option Change)) (a made : Automaton) → MakesAsPromised (those_standing (os ++ rest)) a made → (b : Automaton) × MakesAsPromised (those_standing rest) b made
behind [] rest a made h = (a, h)
behind (None ∷ os) rest a made h = behind os rest a made h
behind (Some c ∷ os) rest a made h = behind os rest h.0 made h.3

-- the same, with what the first changes make
between : (os rest : List (Option Change)) (a made : Automaton) → MakesAsPromised (those_standing (os ++ rest)) a made
    → (b : Automaton) × MakesAll (those_standing os) a b × MakesAsPromised (those_standing rest) b made
between [] rest a made h = (a, refl, h)
between (None ∷ os) rest a made h = between os rest a made h
between (Some c ∷ os) rest a made h = (let k = between os rest h.0 made h.3 in (k.0, (h.0, h.1, k.1), k.2))

-- what completion makes, where it is asked for
last_made : (complete : Bool) (a made : Automaton) → MakesAsPromised (those_standing (then_some complete Complete ∷ [])) a made → MayBeCompleted a made complete × (complete ≡ true → IsComplete made)
last_made false a made h = (Left h, λ on. absurd (false≢true on))
last_made true a made h =
    let same : made ≡ h.0 = h.3 in (
      Completed (same ∙ h.1.makes) (λ is. subst IsDeterministic (sym same) (h.2.1 is)) (λ is. same ∙ h.2.2 is),
      λ on. subst IsComplete (sym same) h.2.0,
    )

formed : (p : Plan) (a made : Automaton) → MakesAsPromised (those_standing (last_options p.form p.complete)) a made → KeepsPromises p made
formed p a made h = by_cases p.form h
  where
    end : (f : Form) (b : Automaton) → IsOfForm f b → MakesAsPromised (those_standing (then_some p.complete Complete ∷ [])) b made → KeepsForm f p.complete made × (p.complete ≡ true → IsComplete made)
    end f b is k = let last = last_made p.complete b made k in (keeps f p.complete b made is last.0, last.1)

    by_cases : (f : Form) → MakesAsPromised (those_standing (last_options f p.complete)) a made → KeepsForm f p.complete made × (p.complete ≡ true → IsComplete made)
    by_cases form.AsIs k = end form.AsIs a tt k
    by_cases form.Deterministic k = end form.Deterministic k.0 (of_form form.Deterministic a k.0 k.1.makes k.2) k.3
    by_cases form.Parity k = end form.Parity k.0 (of_form form.Parity a k.0 k.1.makes k.2) k.3
    by_cases form.Buchi k = end form.Buchi k.0 (of_form form.Buchi a k.0 k.1.makes k.2) k.3
    by_cases form.RemoveFin k = end form.RemoveFin k.0 (of_form form.RemoveFin a k.0 k.1.makes k.2) k.3
    by_cases form.Dnf k = end form.Dnf k.0 (of_form form.Dnf a k.0 k.1.makes k.2) k.3
    by_cases form.Monitor k = end form.Monitor k.0 (of_form form.Monitor a k.0 k.1.makes k.2) k.3

pub promises_kept : (p : Plan) (ops : List Automaton) (a made : Automaton) → MakesAsPromised (changes_of p ops) a made → KeepsPromises p made
promises_kept p ops a made h =
    let shaped = behind (operation_options p ops) (last_options p.form p.complete) a made h in
    formed p shaped.0 made shaped.1

-- ---- the sets of a parity automaton

parity_few : (complete : Bool) (b made : Automaton) → MakesAsPromised (Bring form.Parity ∷ those_standing (then_some complete Complete ∷ [])) b made → HasFewSets (buchi b) made
parity_few complete b made h = subst (HasFewSets (buchi b)) (sym (left complete (last_made complete h.0 made h.3).0)) shape.1
  where
    shape : IsParityMinOdd h.0 × HasFewSets (buchi b) h.0
    shape = parity_has_few_sets b h.0 h.1.makes

    left : (on : Bool) → MayBeCompleted h.0 made on → made ≡ h.0
    left false (Left same) = same
    left true (Completed same deterministic stays) = stays shape.0.complete

pub few_sets_kept : (p : Plan) (ops : List Automaton) (a made : Automaton) → MakesAsPromised (changes_of p ops) a made → p.form ≡ form.Parity → HasFewSetsUnder p ops a made
few_sets_kept p ops a made h is =
    let shaped = between (operation_options p ops) (last_options p.form p.complete) a made h in
    record {
      before = shaped.0;
      makes = shaped.1;
      few = parity_few p.complete shaped.0 made (subst (λ (f : Form). MakesAsPromised (those_standing (last_options f p.complete)) shaped.0 made) is shaped.2);
    }

-- Of an automaton the changes of a plan make an automaton, or they pass a limit.
use Rattle.std.proofs.Common.{◌≡◌, ◌≤◌, List, [], ◌∷◌, inl, inr, length, refl}
use Rattle.std.proofs.lemmas.Bool.{cases_lt}
use Rattle.std.specs.List.{AllByRecursion}
use Rattle.acc_forms.specs.Joined.{conj, disj}
use Rattle.acc_forms.specs.Terms.{of_terms, terms}
use Rattle.ap_project.specs.Hiding.{hidden}
use Rattle.aut_base.specs.Automaton.{Automaton}
use Rattle.aut_base.specs.declared.limit.Limit.{Limit}
use Rattle.aut_base.specs.declared.limit.Limit.TheVariants as limit
use Rattle.aut_base.specs.declared.limit.TheConstants.{MOST_BUCHI_STATES, MOST_NAMES, MOST_PAIRS}
use Rattle.aut_core.specs.Deterministic as core
use Rattle.aut_core.specs.OtherNames.{joined_names}
use Rattle.aut_ops.specs.Completion.{completed}
use Rattle.aut_ops.specs.Products.{over_both}
use Rattle.aut_ops.specs.Sums.{side_by_side}
use Rattle.degeneralise.specs.Buchi.{buchi, buchi_states}
use Rattle.aut_ops.proofs.pairs.Existence.{products_exist}
use Rattle.aut_ops.proofs.flagged.SomeFlags.{trimmed_exists}
use Rattle.parity_det.proofs.SomeForms.{complement_exists, parity_exists}
use Rattle.monitor_form.proofs.SomeMonitors.{monitor_exists}
use Rattle.plan_meaning.proofs.changes.PlanChanges.{IsOfPlan, each_of_plan}
use Rattle.plan_meaning.specs.Laws.{ChangesExist}
use Rattle.filter_plan.specs.declared.plan.Form.{Form}
use Rattle.filter_plan.specs.declared.plan.Form.TheVariants as form
use Rattle.fin_removal.specs.Copies.{without_fin}
use Rattle.parity_det.specs.Complements.{IsWithinParity}
use Rattle.parity_det.specs.declared.fault.CompFault.TheVariants as comp
use Rattle.plan_meaning.specs.Changes.{Bring, Change, Complement, Complete, IsMadeInForm, Makes, MakesAll, MakesWithin, PassesForm, PassesIn}
use Rattle.plan_meaning.specs.Changes.{Product, ProductOr, RemoveAp, StopsIn, Sum, Trim, changes_of}
use Rattle.plan_meaning.specs.Limits.{HaveFewNames, HaveManyNames, PassesParityLimit}

-- ---- one change

few_names : (a b : Automaton) → (HaveManyNames a b → ⊥) → HaveFewNames a b
few_names a b few = elim (cases_lt MOST_NAMES (length (joined_names a.names b.names))) [
  | inl many ↦ absurd (few many)
  | inr within ↦ within
]

within_parity : (a : Automaton) → ((which : Limit) → PassesParityLimit which a → ⊥) → IsWithinParity a
within_parity a within comp.Terms h = within limit.Terms h
within_parity a within comp.BuchiStates h = within limit.BuchiStates h
within_parity a within comp.Trees h = within limit.Trees h
within_parity a within comp.Nodes h = within limit.Nodes h
within_parity a within comp.Classes h = within limit.Classes h
within_parity a within comp.Memory h = h

few_states : (a : Automaton) → ((which : Limit) → PassesForm which form.Monitor a → ⊥) → buchi_states a ≤ MOST_BUCHI_STATES
few_states a within = elim (cases_lt MOST_BUCHI_STATES (buchi_states a)) [
  | inl more ↦ absurd (within limit.BuchiStates (within limit.Terms, more))
  | inr few ↦ few
]

some_form : (f : Form) (a : Automaton) → (f ≡ form.AsIs → ⊥) → ((which : Limit) → PassesForm which f a → ⊥) → ((made : Automaton) → IsMadeInForm f a made → ⊥) → ⊥
some_form form.AsIs a asked within none = asked refl
some_form form.Deterministic a asked within none =
    let other : core.IsDeterministic a → ⊥ = λ is. none a (inl (is, refl)) in
    parity_exists a (within_parity a (λ which passes. within which (other, passes))) (λ made m. none made (inr (other, m)))
some_form form.Parity a asked within none = parity_exists a (within_parity a within) none
some_form form.Buchi a asked within none = none (buchi a) refl
some_form form.RemoveFin a asked within none = none (without_fin a) refl
some_form form.Dnf a asked within none = none (record a { formula = of_terms (terms a.formula) }) refl
some_form form.Monitor a asked within none =
    monitor_exists a (few_states a within) (λ meets. within limit.Classes (within limit.Terms, meets)) (λ meets. within limit.Subsets (within limit.Terms, meets)) none

some_made : (ops : List Automaton) (c : Change) (a : Automaton) → IsOfPlan ops c → ((which : Limit) → PassesIn which c a → ⊥) → ((made : Automaton) → Makes c a made → ⊥) → ⊥
some_made ops (Product b) a asked within none =
    let found = products_exist conj MOST_PAIRS (over_both a b a) (over_both a b b) in
    elim found [
      | inl made ↦ none made.0 made.1
      | inr more ↦ within limit.Pairs (few_names a b (within limit.Names), more)
    ]
some_made ops (ProductOr b) a asked within none =
    let found = products_exist disj MOST_PAIRS (over_both a b (completed a)) (over_both a b (completed b)) in
    elim found [
      | inl made ↦ none made.0 made.1
      | inr more ↦ within limit.Pairs (few_names a b (within limit.Names), more)
    ]
some_made ops (Sum b) a asked within none = none (side_by_side (over_both a b a) (over_both a b b)) refl
some_made ops (RemoveAp h) a asked within none = none (hidden h.how h.name a) refl
some_made ops Trim a asked within none = trimmed_exists a none
some_made ops Complement a asked within none = complement_exists a (λ other. within_parity a (λ which passes. within which (other, passes))) none
some_made ops (Bring f) a asked within none = some_form f a asked within none
some_made ops Complete a asked within none = none (completed a) refl

some_change : (ops : List Automaton) (c : Change) (a : Automaton) → IsOfPlan ops c → ((made : Automaton) → MakesWithin c a made → ⊥) → ((which : Limit) → PassesIn which c a → ⊥) → ⊥
some_change ops c a asked none within = some_made ops c a asked within (λ made m. none made (record { within = within; makes = m }))

-- ---- all of them

some_changes : (ops : List Automaton) (cs : List Change) (a : Automaton) → AllByRecursion (IsOfPlan ops) cs → ((made : Automaton) → MakesAll cs a made → ⊥)
    → ((which : Limit) → StopsIn which cs a → ⊥) → ⊥
some_changes ops [] a asked none stops = none a refl
some_changes ops (c ∷ cs) a asked none stops =
    some_change ops c a asked.0
    (λ next m. some_changes ops cs next asked.1 (λ made all. none made (next, m, all)) (λ which s. stops which (inr (next, m, s))))
    (λ which passes. stops which (inl passes))

pub changes_exist : ChangesExist
changes_exist p ops a none stops = some_changes ops (changes_of p ops) a (each_of_plan p ops) none stops

-- Disjunctions of the guards of links, and their complements.
use Rattle.std.proofs.Common.{◌≡◌, ◌∙◌, ◌<◌, ◌≤◌, ◌+◌, ◌||◌, ℕ, Bool, true, not, List, [], ◌∷◌, ◌++◌, All, ap, arith, get_or, length, map, subst, sym, take}
use Rattle.std.proofs.lemmas.List.{map-append, take_all}
use Rattle.std.proofs.lemmas.List.Folds.{list_any-append}
use Rattle.std.specs.List.{list_any}
use Rattle.aut_base.proofs.lists.Lists.{take-push}
use Rattle.aut_base.proofs.numbers.Truth.{or-false}
use Rattle.aut_base.specs.Automaton.{Automaton, IsWellFormed, LabelledEdge}
use Rattle.aut_base.specs.declared.limit.TheConstants.{MOST_NAMES}
use Rattle.aut_base.specs.Label.{truth}
use Rattle.aut_base.specs.Valuation.{holds_in, truth_on}
use Rattle.aut_core.proofs.Made.{parts_from}
use Rattle.aut_base.specs.Formula.{FormulaTree, SetsBelow}
use Rattle.acc_forms.proofs.FormulaSets.{sets_weaker}
use Rattle.aut_core.specs.SymbolicAutomata.{AreSymbolicParts, SymbolicAutomaton, IsWellFormedSymbolic, automaton_of, edge_of}
use Rattle.aut_core.specs.declared.link.Link.{Link}
use Rattle.label_guards.specs.Guards.{IsGuardOf, truth_in}
use Rattle.label_guards.specs.Store.{Has, Keeps, Store, label_in}
use Rattle.label_guards.specs.declared.guard.Guard.{Guard}
use Rattle.aut_ops.proofs.links.Labels.{label_from}
use Rattle.aut_ops.specs.Completion.{missing_label}

-- whether the label of one of the edges is true
abbrev pub some_met : List LabelledEdge → (ℕ → Bool) → Bool
some_met es on = list_any (λ e. truth on e.label) es

-- another link
pub met_more : (old s t : Store) (row : List Link) (i : ℕ) (x : Link) (met next : Guard) → i < length row → x ≡ get_or row i x → Has old x.guard → Keeps old s
    → IsGuardOf s (some_met (map (edge_of old) (take i row))) met → IsGuardOf t (λ on. truth_in s met on || truth_in s x.guard on) next
    → IsGuardOf t (some_met (map (edge_of old) (take (i + 1) row))) next
met_more old s t row i x met next within at has keeps so_far is =
    let whole : map (edge_of old) (take (i + 1) row) ≡ map (edge_of old) (take i row) ++ edge_of old x ∷ [] = ap (map (edge_of old)) (take-push row i x within at)
    ∙ map-append (edge_of old) (take i row) (x ∷ []) in
    record {
      has = is.has;
      truth = λ on. is.truth on
          ∙ (ap (λ b. b || truth_in s x.guard on) (so_far.truth on)
          ∙ (ap (λ b. some_met (map (edge_of old) (take i row)) on || b) (ap (truth on) (keeps.labels x.guard has) ∙ sym (or-false (truth on (label_in old x.guard))))
          ∙ (sym (list_any-append (λ (e : LabelledEdge). truth on e.label) (map (edge_of old) (take i row)) (edge_of old x ∷ [])) ∙ sym (ap (λ es. some_met es on) whole))));
    }

-- the guard that is true where none of them is
pub none_met : (old s t : Store) (row : List Link) (i : ℕ) (met none : Guard) → length row ≤ i → s.names ≡ old.names → t.names ≡ s.names
    → IsGuardOf s (some_met (map (edge_of old) (take i row))) met → IsGuardOf t (λ on. not (truth_in s met on)) none → label_in t none ≡ missing_label old.names (map (edge_of old) row)
none_met old s t row i met none end names more so_far is =
    label_from t none (λ on. not (truth_in s met on)) (λ v. not (list_any (λ (e : LabelledEdge). truth_on e.label v) (map (edge_of old) row))) is
    (λ v long. ap not (so_far.truth (holds_in v) ∙ ap (λ ls. some_met (map (edge_of old) ls) (holds_in v)) (take_all i row end)))
    ∙ ap (λ n. missing_label n (map (edge_of old) row)) (more ∙ names)

-- the parts of a well-formed automaton fit together
pub parts_for : (c : SymbolicAutomaton) (x : Automaton) → automaton_of c ≡ x → IsWellFormed x → length x.names ≤ MOST_NAMES → c.store.names ≡ length x.names
    → All (λ l. Has c.store l.guard) c.links → AreSymbolicParts c
parts_for c x is formed few names has =
    let same : length c.names ≡ length x.names = ap (λ (y : Automaton). length y.names) is in
    parts_from c (subst IsWellFormed (sym is) formed) (omega (arith, few, same)) (names ∙ sym same) has

-- the sets of an automaton's condition are below each number that is at least its number of sets
pub sets_within : (c : SymbolicAutomaton) → IsWellFormedSymbolic c → (n : ℕ) (f : FormulaTree) → c.sets ≤ n → f ≡ c.formula → SetsBelow n f
sets_within c core n f most is = subst (SetsBelow n) (sym is) (sets_weaker c.sets n most c.formula core.parts.formula)

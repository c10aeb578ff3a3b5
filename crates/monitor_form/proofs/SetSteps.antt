-- The step of a set under the guard of a class, and stores that have grown.
use Rattle.std.proofs.Common.{◌≡◌, ◌∙◌, ◌<◌, ◌==◌, ◌&&◌, ◌||◌, ℕ, All, Bool, true, false, cond, List, [], ◌∷◌, ap, arith, filter, length, refl, slice_get, subst, sym}
use Rattle.std.specs.List.{list_any, range_with_len}
use Rattle.aut_base.proofs.lists.Members.{each_there, from_filter, from_range}
use Rattle.aut_base.specs.Automaton.{Automaton, LabelledEdge}
use Rattle.aut_base.specs.Valuation.{truth_on}
use Rattle.aut_core.specs.SymbolicAutomata.{SymbolicAutomaton, IsWellFormedSymbolic, automaton_of}
use Rattle.exploration.specs.TransitionFunctions as moves
use Rattle.exploration.specs.TransitionFunctions.{Successor, NoSuccessor, StepOutcome}
use Rattle.label_guards.specs.Leasts.{bits_of}
use Rattle.label_guards.specs.Store.{Store, label_in}
use Rattle.label_guards.specs.declared.guard.Guard.{Guard}
use Rattle.letter_classes.proofs.ClassGuards.{number_edges}
use Rattle.letter_classes.specs.SetClasses.{FitsStore, IsClassGuard, set_classes, set_edges}
use Rattle.monitor_form.proofs.SubsetMoves.{subset_step, unless_empty}
use Rattle.monitor_form.specs.Subsets.{successor_set}
use Rattle.monitor_form.proofs.Explored.{is_goal}

-- a test of the edges that pass another is a test of the filtered list
any_read : (p reads : LabelledEdge → Bool) (es : List LabelledEdge) → list_any (λ e. p e && reads e) es ≡ list_any p (filter reads es)
any_read p reads [] = refl
any_read p reads (e ∷ es) = ap (λ b. (p e && reads e) || b) (any_read p reads es) ∙ by_cases (reads e)
  where
    by_cases : (r : Bool) → ((p e && r) || list_any p (filter reads es)) ≡ list_any p (cond r (e ∷ filter reads es) (filter reads es))
    by_cases true = ap (λ b. b || list_any p (filter reads es)) (and_true (p e))
      where
        and_true : (b : Bool) → (b && true) ≡ b
        and_true true = refl
        and_true false = refl
    by_cases false = ap (λ b. b || list_any p (filter reads es)) (and_false (p e))
      where
        and_false : (b : Bool) → (b && false) ≡ false
        and_false true = refl
        and_false false = refl

-- valuations at which the same edges are true have the same successors
same_goals : (b : Automaton) (set : List ℕ) (v w : List Bool) → filter (λ e. truth_on e.label w) (set_edges b set) ≡ filter (λ e. truth_on e.label v) (set_edges b set)
    → successor_set b set w ≡ successor_set b set v
same_goals b set v w same = λ i. filter (λ q. goal q i) (range_with_len 0 b.states)
  where
    goal : (q : ℕ) → is_goal (λ e. truth_on e.label w) (set_edges b set) q ≡ is_goal (λ e. truth_on e.label v) (set_edges b set) q
    goal q = any_read (λ e. e.to == q) (λ e. truth_on e.label w) (set_edges b set)
        ∙ (ap (list_any (λ e. e.to == q)) same ∙ sym (any_read (λ e. e.to == q) (λ e. truth_on e.label v) (set_edges b set)))

module _ (c : SymbolicAutomaton) (core : IsWellFormedSymbolic c) (s : Store) (set : List ℕ) (k : ℕ) (g : Guard) (fits : FitsStore c s set) (is : IsClassGuard c s set k g)
    (number : ℕ) (meets : truth_on (label_in s g) (bits_of s.names number) ≡ true) (found : List ℕ) (e : found ≡ successor_set (automaton_of c) set (bits_of c.store.names number)) where
  step_goals : found ≡ successor_set (automaton_of c) set is.valuation
  step_goals = e ∙ same_goals (automaton_of c) set is.valuation (bits_of c.store.names number) (number_edges c core s set k g fits is c.store.names number refl meets)

  step_is : subset_step (automaton_of c) set (slice_get (set_classes (automaton_of c) set) k) ≡ unless_empty (successor_set (automaton_of c) set is.valuation)
  step_is = ap (subset_step (automaton_of c) set) is.at

  abbrev lacks : StepOutcome (List ℕ)
  lacks = NoSuccessor

  empty_lacks : (qs : List ℕ) → (length qs == 0) ≡ true → unless_empty qs ≡ lacks
  empty_lacks qs e = ap (λ b. cond b lacks (Successor qs)) e

  some_gives : (qs : List ℕ) → (length qs == 0) ≡ false → unless_empty qs ≡ Successor qs
  some_gives qs e = ap (λ b. cond b lacks (Successor qs)) e

  pub step_lacks : (length found == 0) ≡ true → subset_step (automaton_of c) set (slice_get (set_classes (automaton_of c) set) k) ≡ lacks
  step_lacks none = step_is ∙ (ap unless_empty (sym step_goals) ∙ empty_lacks found none)

  pub step_gives : (length found == 0) ≡ false → subset_step (automaton_of c) set (slice_get (set_classes (automaton_of c) set) k) ≡ Successor found
  step_gives some = step_is ∙ (ap unless_empty (sym step_goals) ∙ some_gives found some)

  pub goals_fit : FitsStore c s found
  goals_fit = record {
    states = subst (All (λ q. q < c.states)) (sym step_goals) (each_there (λ q. q < c.states) (successor_set (automaton_of c) set is.valuation) (λ q there.
        let kept = from_filter (is_goal (λ e. truth_on e.label is.valuation) (set_edges (automaton_of c) set)) (range_with_len 0 c.states) q there in
        let bounds = from_range 0 c.states q kept.0 in omega (arith, bounds.1)));
    keeps = fits.keeps;
  }

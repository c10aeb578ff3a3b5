-- The step of a tree for a class, under the moves that its valuation allows.
use Rattle.std.proofs.Common.{◌≡◌, ◌∙◌, ◌<◌, ◌≤◌, ℕ, true, Err, List, ap, length, map, refl, slice_get, subst, sym}
use Rattle.std.proofs.lemmas.Option.{same_Some}
use Rattle.aut_base.specs.Automaton.{Automaton}
use Rattle.aut_base.specs.Valuation.{truth_on}
use Rattle.aut_base.specs.declared.limit.TheConstants.{MOST_NODES}
use Rattle.aut_core.specs.SymbolicAutomata.{SymbolicAutomaton, IsWellFormedSymbolic, automaton_of}
use Rattle.exploration.specs.TransitionFunctions.{StepFailed, Successor, IsStepAnswer, StepOutcome}
use Rattle.exploration.specs.declared.fault.StepFault.{StepFault}
use Rattle.label_guards.specs.Leasts.{bits_of}
use Rattle.label_guards.specs.Store.{Store, label_in}
use Rattle.label_guards.specs.declared.guard.Guard.{Guard}
use Rattle.letter_classes.proofs.ClassGuards.{number_edges}
use Rattle.letter_classes.specs.SetClasses.{FitsStore, IsClassGuard, set_edges}
use Rattle.parity_det.proofs.Explored.{large_fails, small_given}
use Rattle.parity_det.proofs.TreeMoves.{tree_classes, tree_step_at}
use Rattle.parity_det.specs.Determinisation.{class_moves, unless_large}
use Rattle.parity_det.specs.Faults.{step_fault}
use Rattle.letter_classes.specs.Taken.{reads_at}
use Rattle.parity_det.specs.inner.Systems.{IsClassEvent, moves_of}
use Rattle.parity_laws.specs.Buchi.{move_of}
use Rattle.safra_laws.specs.Rounds.{next_tree}
use Rattle.safra_trees.specs.Events.{event_of}
use Rattle.safra_trees.specs.Step.{grown, pruned}
use Rattle.safra_trees.specs.Trees.{Node, root_states}
use Rattle.safra_trees.specs.declared.event.Event.{Event}
use Rattle.safra_trees.specs.declared.fault.TreeFault.{TreeFault}
use Rattle.safra_trees.specs.declared.fault.TreeFault.TheVariants as tree
use Rattle.safra_trees.specs.declared.moves.Move as moves

-- The moves at a valuation that meets the guard of the class, of a set that is the root's states, are those of the class.
pub class_taken : (c : SymbolicAutomaton) → IsWellFormedSymbolic c → (s : Store) (t : List Node) (k : ℕ) (g : Guard) → FitsStore c s (root_states t) → (is : IsClassGuard c s (root_states t) k g)
    → (set : List ℕ) → set ≡ root_states t → (number : ℕ) → truth_on (label_in s g) (bits_of s.names number) ≡ true
    → (taken : List moves.Move) → taken ≡ moves_of (reads_at c number) (set_edges (automaton_of c) set) → taken ≡ class_moves (automaton_of c) t is.valuation
class_taken c core s t k g fits is set root number meets taken e =
    e ∙ (ap (λ qs. moves_of (reads_at c number) (set_edges (automaton_of c) qs)) root
    ∙ ap (map move_of) (number_edges c core s (root_states t) k g fits is c.store.names number refl meets))

module _ (c : SymbolicAutomaton) (core : IsWellFormedSymbolic c) (s : Store) (t : List Node) (k : ℕ) (g : Guard) (fits : FitsStore c s (root_states t)) (is : IsClassGuard c s (root_states t) k g)
    (taken : List moves.Move) (moves_are : taken ≡ class_moves (automaton_of c) t is.valuation) where
  abbrev a : Automaton
  a = automaton_of c

  step_is : tree_step_at a t (slice_get (tree_classes a t) k) ≡ unless_large (next_tree c.states taken t)
  step_is = ap (tree_step_at a t) is.at ∙ ap (λ ms. unless_large (next_tree c.states ms t)) (sym moves_are)

  pub step_gives : (made : List Node) → made ≡ pruned (grown c.states taken t) → length made ≤ MOST_NODES → tree_step_at a t (slice_get (tree_classes a t) k) ≡ Successor made
  step_gives made is_made few = step_is ∙ (ap unless_large (sym is_made) ∙ small_given made few)

  abbrev fails : StepOutcome (List Node)
  fails = StepFailed

  pub step_fails : MOST_NODES < length (pruned (grown c.states taken t)) → tree_step_at a t (slice_get (tree_classes a t) k) ≡ fails
  step_fails many = step_is ∙ large_fails (next_tree c.states taken t) many

  pub step_told : (event : Event) → event ≡ event_of c.states taken t → IsClassEvent c t k event
  step_told event told v at =
      let same : is.valuation ≡ v = same_Some is.valuation v (sym is.at ∙ at) in
      told ∙ (ap (λ ms. event_of c.states ms t) moves_are ∙ ap (λ w. event_of c.states (class_moves a t w) t) same)

-- where a step is refused for the number of nodes, the step of the exploration fails
pub step_refused : {T X : Type 0} (N : Type 0) (seen : T → X) (m : StepOutcome X) (came : TreeFault) (told : StepFault) → told ≡ step_fault came → (came ≡ tree.Nodes → m ≡ StepFailed)
    → IsStepAnswer {N = N} seen m (Err told)
step_refused N seen m tree.Nodes told e nodes = subst (λ (f : StepFault). IsStepAnswer {N = N} seen m (Err f)) (sym e) (nodes refl)
step_refused N seen m tree.Memory told e nodes = subst (λ (f : StepFault). IsStepAnswer {N = N} seen m (Err f)) (sym e) tt

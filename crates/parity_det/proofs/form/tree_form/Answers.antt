use Rattle.std.proofs.Common.{◌≡◌, ◌∙◌, All, List, ℕ, ◌<◌, ap, map, subst, sym}
use Rattle.aut_base.proofs.Outcomes.{told_fault}
use Rattle.aut_base.specs.declared.limit.TheConstants.{MOST_TREES}
use Rattle.aut_core.proofs.Growth.{keeps_none}
use Rattle.aut_core.specs.SymbolicAutomata.{SymbolicAutomaton, IsWellFormedSymbolic, automaton_of}
use Rattle.exploration.specs.Explorations.{IsSound, transition_of}
use Rattle.exploration.specs.Reached.{IsExplored}
use Rattle.exploration.specs.Turns.{EndsWith}
use Rattle.exploration.specs.declared.fault.Fault.{Fault}
use Rattle.exploration.specs.declared.fault.Fault.TheVariants as limit
use Rattle.label_guards.specs.Store.{Keeps, Store}
use Rattle.letter_classes.specs.SetClasses.{FitsStore, IsClassGuard}
use Rattle.parity_det.proofs.TreeMoves.{start_tree}
use Rattle.parity_det.specs.Determinisation.{tree_moves, tree_rules}
use Rattle.parity_det.specs.inner.Systems.{IsClassEvent, MeetsFirst}
use Rattle.parity_det.proofs.Refused.{classes_fault, met_first, nodes_fault, trees_fault}
use Rattle.safra_trees.specs.Same.{same_nodes}
use Rattle.safra_trees.specs.Trees.{Node, first_tree, root_states}
use Rattle.safra_trees.specs.View.{packed_tree}
use Rattle.parity_det.proofs.form.tree_form.Goals.{In_err-found, In_ok-first}
use Rattle.parity_det.proofs.form.tree_form.Goals as goal

-- the starts are states
starts_below : (b : SymbolicAutomaton) → IsWellFormedSymbolic b → (starts : List ℕ) → starts ≡ b.starts → All (λ s. s < b.states) starts
starts_below b is starts same = subst (λ xs. All (λ s. s < b.states) xs) (sym same) is.well_formed.starts

-- the states of the first tree are states
first_below : (c : In_ok-first) → All (λ q. q < c.args.b.now.states) (root_states (packed_tree c.in_ok-first.first))
first_below c = subst (λ t. All (λ q. q < c.args.b.now.states) (root_states t)) (sym c.in_ok-first.ensures)
    (c.in_ok-begun.ensures.states c.args.b.now.states (starts_below c.args.b.now c.well_formedness.ensures c.starts.result.now c.starts.ensures))

pub explore-requires-clause-fits : goal.explore-requires-clause-fits
explore-requires-clause-fits c = record {
  states = first_below (goal.at.explore-requires-clause-fits c).In_ok-first;
  keeps = subst (Keeps c.args.b.now.store) (sym (c.new-store.ensures ∙ (c.in_ok-copy.ensures ∙ c.guards.ensures))) (keeps_none c.args.b.now.store);
}

pub built-requires-clause-keeps : goal.built-requires-clause-keeps
built-requires-clause-keeps c =
    let first = packed_tree c.in_ok-first.first in
    let fits : FitsStore c.args.b.now c.new-store.result (root_states first) = record {
      states = first_below (goal.at.built-requires-clause-keeps c).In_ok-first;
      keeps = subst (Keeps c.args.b.now.store) (sym (c.new-store.ensures ∙ (c.in_ok-copy.ensures ∙ c.guards.ensures))) (keeps_none c.args.b.now.store);
    } in
    let kept : FitsStore c.explore.new.system.automaton.now c.explore.new.system.guards (root_states first) = c.in_ok-found.ensures.keeps.fits first fits in
    subst (Keeps c.args.b.now.store) (sym c.into_guards.ensures) (subst (λ (core : SymbolicAutomaton). Keeps core.store c.explore.new.system.guards) c.in_ok-found.ensures.frame kept.keeps)

-- the first tree is that of the automaton
started : (c : In_ok-first) → packed_tree c.in_ok-first.first ≡ start_tree (automaton_of c.args.b.now)
started c =
    let b = c.args.b.now in
    c.in_ok-first.ensures ∙ (c.in_ok-begun.ensures.tree b.states (starts_below b c.well_formedness.ensures c.starts.result.now c.starts.ensures) ∙ ap (first_tree b.states) c.starts.ensures)

pub built-requires-clause-explored : goal.built-requires-clause-explored
built-requires-clause-explored c =
    let found = c.in_ok-found.found in
    subst (λ (t : List Node). IsExplored same_nodes (tree_moves (automaton_of c.args.b.now)) t (map packed_tree found.states.items) (map transition_of found.edges.items))
    (started (goal.at.built-requires-clause-explored c).In_ok-first) c.in_ok-found.ensures.explored

pub returns-clause-shape : goal.returns-clause-shape
returns-clause-shape c =
    let b = automaton_of c.args.b.now in
    let found = c.in_ok-found.found in
    record {
      trees = map packed_tree found.states.items;
      transitions = map transition_of found.edges.items;
      explored = subst (λ (t : List Node). EndsWith (tree_rules b) t (map packed_tree found.states.items) (map transition_of found.edges.items)) (started (goal.at.returns-clause-shape c).In_ok-first)
          c.in_ok-found.ensures.ends;
      is = c.in_ok-built.ensures.is;
    }

pub built-requires-clause-sound : goal.built-requires-clause-sound
built-requires-clause-sound c =
    let guards = c.explore.new.system.guards in
    let found = c.in_ok-found.found in
    let b = c.args.b.now in
    subst (λ (s : Store). IsSound (λ t. FitsStore b s (root_states t)) (λ t k g. IsClassGuard b s (root_states t) k g) (λ t k event. IsClassEvent b t k event) MOST_TREES
    (map packed_tree found.states.items) found.edges.items) (sym c.into_guards.ensures)
    (subst (λ (core : SymbolicAutomaton). IsSound (λ t. FitsStore core guards (root_states t)) (λ t k g. IsClassGuard core guards (root_states t) k g) (λ t k event. IsClassEvent b t k event)
    MOST_TREES
    (map packed_tree found.states.items) found.edges.items) c.in_ok-found.ensures.frame c.in_ok-found.ensures.sound)

-- the exploration from the tree of the starts meets the limit that its fault names
met : (c : In_err-found) (wanted : Fault) → c.in_err-found.field-0.0 ≡ wanted → (wanted ≡ limit.Memory → ⊥) → MeetsFirst (automaton_of c.args.b.now) wanted
met c wanted is other =
    let b = c.args.b.now in
    met_first (automaton_of b) (packed_tree c.in_ok-first.first) c.in_err-found.field-0.0 wanted (started (goal.at.In_err-found c).In_ok-first) c.in_err-found.ensures.meets is other

pub returns-in_err-found-clause-trees : goal.returns-in_err-found-clause-trees
returns-in_err-found-clause-trees c = λ is. met (goal.at.returns-in_err-found-clause-trees c).In_err-found limit.States
    (trees_fault c.in_err-found.field-0.0 (told_fault c.from_residual-in_err-found.result _ _ c.from_residual-in_err-found.ensures.1 is)) (λ other. cc)

pub returns-in_err-found-clause-nodes : goal.returns-in_err-found-clause-nodes
returns-in_err-found-clause-nodes c = λ is. met (goal.at.returns-in_err-found-clause-nodes c).In_err-found limit.StepFailed
    (nodes_fault c.in_err-found.field-0.0 (told_fault c.from_residual-in_err-found.result _ _ c.from_residual-in_err-found.ensures.1 is)) (λ other. cc)

pub returns-in_err-found-clause-classes : goal.returns-in_err-found-clause-classes
returns-in_err-found-clause-classes c = λ is. met (goal.at.returns-in_err-found-clause-classes c).In_err-found limit.Classes
    (classes_fault c.in_err-found.field-0.0 (told_fault c.from_residual-in_err-found.result _ _ c.from_residual-in_err-found.ensures.1 is)) (λ other. cc)

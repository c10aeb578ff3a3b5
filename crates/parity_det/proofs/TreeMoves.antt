-- Parts of the steps of the trees that are explored, under the names by which proofs speak of them.
use Rattle.std.specs.Prelude.{Bool, List, Option}
use Rattle.std.specs.Option.{option_map_or}
use Rattle.aut_base.specs.Automaton.{Automaton}
use Rattle.exploration.specs.TransitionFunctions.{NoSuccessor, StepOutcome}
use Rattle.letter_classes.specs.SetClasses.{set_classes}
use Rattle.parity_det.specs.Determinisation.{class_moves, unless_large}
use Rattle.safra_laws.specs.Rounds.{next_tree}
use Rattle.safra_trees.specs.Trees.{Node, first_tree, root_states}

-- the tree of the starts
abbrev pub start_tree : Automaton → List Node
start_tree b = first_tree b.states b.starts

-- the least valuations of the classes of a tree, in order
abbrev pub tree_classes : Automaton → List Node → List (List Bool)
tree_classes b t = set_classes b (root_states t)

-- the step at the valuation of a class, if there is such a class
abbrev pub tree_step_at : Automaton → List Node → Option (List Bool) → StepOutcome (List Node)
tree_step_at b t o = option_map_or (λ v. unless_large (next_tree b.states (class_moves b t v) t)) o NoSuccessor

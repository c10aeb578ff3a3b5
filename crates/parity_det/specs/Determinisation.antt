-- Determinisation, as a system that is explored (Safra 1988, Piterman 2007): its states are trees, as lists of nodes, and classes
-- are those of the letters that the edges from the root's states tell apart.
use Rattle.std.specs.Prelude.{◌≡◌, ◌+◌, ◌≤◌, ℕ, Bool, if◌then◌else◌, List, [], ◌∷◌, filter, leb, length, map, max}
use Rattle.acc_forms.specs.Parity.{parity_min_odd}
use Rattle.aut_base.specs.Automaton.{Automaton, LabelledEdge}
use Rattle.aut_base.specs.Valuation.{truth_on}
use Rattle.aut_base.specs.declared.limit.TheConstants.{MOST_BUCHI_STATES, MOST_CLASSES, MOST_NODES, MOST_TREES}
use Rattle.aut_ops.specs.Pruning.{IsPruned}
use Rattle.degeneralise.specs.Buchi.{NeedsTooManyTerms, buchi, buchi_states}
use Rattle.exploration.specs.TransitionFunctions.{StepFailed, Successor, StepOutcome, TransitionFunction}
use Rattle.exploration.specs.Turns.{Transition, Comes, EndsWith, LimitMet, Rules, begin}
use Rattle.exploration.specs.declared.fault.Fault.{Fault}
use Rattle.letter_classes.specs.ClassForms.{class_edge, class_steps}
use Rattle.letter_classes.specs.SetClasses.{set_classes, set_edges}
use Rattle.parity_laws.specs.Buchi.{move_of}
use Rattle.parity_laws.specs.Determinised.{tree_at}
use Rattle.safra_laws.specs.Priorities.{priority}
use Rattle.safra_laws.specs.Rounds.{next_tree}
use Rattle.safra_trees.specs.Same.{same_nodes}
use Rattle.safra_trees.specs.Trees.{Node, first_tree, root_states}
use Rattle.safra_trees.specs.declared.moves.Move as moves

-- the moves that the letters of a class allow from the root's states
abbrev pub class_moves : Automaton → List Node → List Bool → List moves.Move
class_moves b t v = map move_of (filter (λ e. truth_on e.label v) (set_edges b (root_states t)))

-- the tree, unless it has too many nodes
abbrev pub unless_large : List Node → StepOutcome (List Node)
unless_large t = if leb (length t) MOST_NODES then Successor t else StepFailed

-- the steps of the trees, for the classes of the root's states
abbrev pub tree_moves : Automaton → TransitionFunction (List Node)
tree_moves b = class_steps (λ t. set_classes b (root_states t)) (λ t v. unless_large (next_tree b.states (class_moves b t v) t))

-- the exploration of trees
abbrev pub tree_rules : Automaton → Rules (List Node)
tree_rules b = record { same = same_nodes; moves = tree_moves b; max_states = MOST_TREES; max_classes = MOST_CLASSES }

-- the greatest number of nodes, and at least 1
abbrev pub width : List (List Node) → ℕ
width [] = 1
width (t ∷ ts) = max (length t) (width ts)

-- the edge between the places of two trees, under its class, with the priority of its step as its one mark
abbrev pub parity_edge : Automaton → List (List Node) → ℕ → Transition → LabelledEdge
parity_edge b trees most = class_edge b (λ place. root_states (tree_at trees place)) (λ place v. priority b.states most (class_moves b (tree_at trees place) v) (tree_at trees place) ∷ [])

-- the automaton whose states are the places of these trees
abbrev pub parity_on : List (List Node) → List Transition → Automaton → Automaton
parity_on trees transitions b = record {
  names = b.names;
  starts = 0 ∷ [];
  states = length trees;
  edges = map (parity_edge b trees (width trees)) transitions;
  sets = width trees + width trees + 1;
  formula = parity_min_odd (width trees + width trees + 1);
}

-- the automaton made is that of the trees to which the tree of the starts of b leads
pub record IsTreeForm (b made : Automaton) : Type 0 where
  pub trees : List (List Node)
  pub transitions : List Transition
  pub explored : EndsWith (tree_rules b) (first_tree b.states b.starts) trees transitions
  pub is : made ≡ parity_on trees transitions b

-- The automaton made is b determinised: that of the trees of b, pruned. The parity automaton of an automaton is its Büchi form determinised.
-- Law: there is at most one.
abbrev pub IsDeterminisation : Automaton → Automaton → Type 0
IsDeterminisation b made = (pruned : Automaton) × IsPruned b pruned × IsTreeForm pruned made

-- determinisation of b meets this limit first
abbrev pub MeetsTreeLimit : Automaton → Fault → Type 0
MeetsTreeLimit b f = (pruned : Automaton) × IsPruned b pruned × Comes (tree_rules pruned) (begin (first_tree pruned.states pruned.starts)) (LimitMet f)

-- the Büchi form is within its limits, and its determinisation meets this limit first
abbrev pub MeetsParityLimit : Automaton → Fault → Type 0
MeetsParityLimit a f = (NeedsTooManyTerms a.formula → ⊥) × (buchi_states a ≤ MOST_BUCHI_STATES) × MeetsTreeLimit (buchi a) f

-- An automaton has one parity automaton.
abbrev pub ParityIsDetermined : Type 0
ParityIsDetermined = (a made other : Automaton) → IsDeterminisation (buchi a) made → IsDeterminisation (buchi a) other → made ≡ other

-- Of each Büchi automaton there is at most one determinised automaton, or at most one limit is met first, and never both.
pub record DeterminisationLaw (b : Automaton) : Type 0 where
  pub one : (made other : Automaton) → IsDeterminisation b made → IsDeterminisation b other → made ≡ other
  pub limit : (f g : Fault) → MeetsTreeLimit b f → MeetsTreeLimit b g → f ≡ g
  pub either : (made : Automaton) (f : Fault) → IsDeterminisation b made → MeetsTreeLimit b f → ⊥

abbrev pub DeterminisationIsDetermined : Type 0
DeterminisationIsDetermined = (b : Automaton) → DeterminisationLaw b

-- The classes of letters for a set of states: letters that satisfy the labels of the same edges from the set.
use Rattle.std.specs.Prelude.{◌≡◌, ◌<◌, ◌==◌, ℕ, All, Bool, List, Some, filter, flat_map, length, map, slice_get}
use Rattle.std.specs.List.{list_all}
use Rattle.aut_base.specs.Automaton.{Automaton, LabelledEdge}
use Rattle.aut_base.specs.CanonicalLabel.{label_of_truth}
use Rattle.aut_base.specs.Label.{LabelTree}
use Rattle.aut_base.specs.Valuation.{IsLeast, holds_in, truth_on}
use Rattle.aut_core.specs.SymbolicAutomata.{SymbolicAutomaton, automaton_of}
use Rattle.aut_core.specs.Surveys.{edges_from}
use Rattle.aut_core.specs.declared.link.Link.{Link}
use Rattle.label_guards.specs.ClassLeasts.{are_alike, class_leasts}
use Rattle.label_guards.specs.Store.{Has, Keeps, Store, label_in}
use Rattle.label_guards.specs.declared.guard.Guard.{Guard}

-- the edges that leave states of the set, in the order of the set
abbrev pub set_edges : Automaton → List ℕ → List LabelledEdge
set_edges b set = flat_map (λ q. edges_from q b.edges) set

abbrev pub set_labels : Automaton → List ℕ → List LabelTree
set_labels b set = map (λ e. e.label) (set_edges b set)

-- the guards of the links that leave states of the set, in the order of the set
abbrev pub guards_from : SymbolicAutomaton → List ℕ → List Guard
guards_from c set = flat_map (λ q. map (λ (l : Link). l.guard) (filter (λ l. l.from == q) c.links)) set

-- The two lists have the same guards, in any order and each any number of times: all guards of the one pass a test exactly where all of
-- the other do.
abbrev pub TellTheSame : List Guard → List Guard → Type 0
TellTheSame one other = (p : Guard → Bool) → list_all p one ≡ list_all p other

-- the least valuations of the classes, in order
abbrev pub set_classes : Automaton → List ℕ → List (List Bool)
set_classes b set = class_leasts (length b.names) (set_labels b set)

-- the label of a valuation's class: true where each of the labels has the same truth as under the valuation
abbrev pub class_label : ℕ → List LabelTree → List Bool → LabelTree
class_label n labels v = label_of_truth n (λ w. are_alike labels (holds_in v) (holds_in w))

-- the states of the set are those of the automaton, and the store has its guards
pub record FitsStore (c : SymbolicAutomaton) (s : Store) (set : List ℕ) : Type 0 where
  pub states : All (λ q. q < c.states) set
  pub keeps : Keeps c.store s

-- the guard is that of the class of this number
pub record IsClassGuard (c : SymbolicAutomaton) (s : Store) (set : List ℕ) (k : ℕ) (g : Guard) : Type 0 where
  pub valuation : List Bool
  pub at : slice_get (set_classes (automaton_of c) set) k ≡ Some valuation
  pub has : Has s g
  pub least : IsLeast s.names (truth_on (label_in s g)) valuation
  pub label : label_in s g ≡ class_label (length c.names) (set_labels (automaton_of c) set) valuation

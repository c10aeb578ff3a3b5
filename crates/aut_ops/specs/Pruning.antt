-- Pruning of Büchi automata: the useful states, and the automaton with nothing but edges between them.
use Rattle.std.specs.Prelude.{◌≡◌, ◌↔◌, ℕ, ◌<◌, Bool, true, IsTrue, List, Contains, length}
use Rattle.aut_base.specs.Automaton.{Automaton, LabelledEdge}
use Rattle.aut_base.specs.Marks.{is_in}
use Rattle.aut_ops.specs.Satisfiable.{between, is_flagged, passable_arcs, satisfiable_edges}
use Rattle.graph_walk.specs.Reach.{ReachedFrom}
use Rattle.graph_walk.specs.Walk.{Reaches}

-- the edge is in set 0, its label is satisfiable, and it is on a cycle of edges with satisfiable labels
pub record IsMarkedOnCycle (a : Automaton) (e : LabelledEdge) : Type 0 where
  pub is_edge : Contains (satisfiable_edges a) e
  pub marked : is_in 0 e.marks ≡ true
  pub closes : Reaches (passable_arcs a) e.to e.from

-- The state is reached, and a path leads from it to a cycle with an edge in set 0, all by edges with satisfiable labels.
pub record IsUseful (a : Automaton) (q : ℕ) : Type 0 where
  pub reached : ReachedFrom (passable_arcs a) a.starts q
  pub edge : LabelledEdge
  pub on_cycle : IsMarkedOnCycle a edge
  pub leads : Reaches (passable_arcs a) q edge.from

-- one flag for each state, which is set exactly where the state is useful
pub record AreUseful (a : Automaton) (flags : List Bool) : Type 0 where
  pub size : length flags ≡ a.states
  pub exact : (q : ℕ) → q < a.states → IsTrue (is_flagged flags q) ↔ IsUseful a q

-- The automaton `made` is `a` with nothing but its useful starts and its edges with satisfiable labels between useful states.
-- The states keep their numbers. Law: there is at most one such automaton.
pub record IsPruned (a made : Automaton) : Type 0 where
  pub flags : List Bool
  pub useful : AreUseful a flags
  pub is : made ≡ between flags a

-- Trimming of an automaton to the states that are reached.
use Rattle.std.specs.Prelude.{◌≡◌, ℕ, Bool, List, filter, length, map, take}
use Rattle.aut_base.specs.Automaton.{Automaton, LabelledEdge}
use Rattle.aut_ops.specs.Satisfiable.{between, passable_arcs}
use Rattle.aut_ops.specs.declared.reached.ReachedSize.{ReachedSize}
use Rattle.graph_walk.specs.Reach.{AreReachFlags}

-- the number of flagged states before this one
abbrev pub flagged_before : List Bool → ℕ → ℕ
flagged_before flags q = length (filter (λ flag. flag) (take q flags))

-- the flagged states, numbered from 0 in their order
abbrev pub renumbered : List Bool → Automaton → Automaton
renumbered flags a = record a {
  starts = map (flagged_before flags) a.starts;
  states = flagged_before flags a.states;
  edges = map (λ (e : LabelledEdge). record e { from = flagged_before flags e.from; to = flagged_before flags e.to }) a.edges;
}

-- The automaton `made` is `a` with nothing but its reached states, renumbered. A state is reached where a path of edges with
-- satisfiable labels leads to it from a start. Law: there is at most one such automaton.
pub record IsTrimmed (a made : Automaton) : Type 0 where
  pub flags : List Bool
  pub reached : AreReachFlags a.states (passable_arcs a) a.starts flags
  pub is : made ≡ renumbered flags (between flags a)

-- the numbers of states and edges of the trimmed automaton
pub record IsReachedSize (a : Automaton) (size : ReachedSize) : Type 0 where
  pub trimmed : Automaton
  pub is_trimmed : IsTrimmed a trimmed
  pub states : size.states ≡ trimmed.states
  pub edges : size.edges ≡ length trimmed.edges

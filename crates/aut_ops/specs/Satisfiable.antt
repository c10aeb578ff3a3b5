-- Edges with satisfiable labels, and an automaton with nothing but those between some of its states.
use Rattle.std.specs.Prelude.{ℕ, Bool, false, not, ◌&&◌, List, filter, length, map}
use Rattle.std.specs.List.{slice_index_or}
use Rattle.aut_base.specs.Automaton.{Automaton, LabelledEdge}
use Rattle.aut_ops.specs.Labels.{is_never}

-- the label of the edge, over n propositions, is satisfiable
abbrev pub is_satisfiable : ℕ → LabelledEdge → Bool
is_satisfiable n e = not (is_never n e.label)

abbrev pub satisfiable_edges : Automaton → List LabelledEdge
satisfiable_edges a = filter (is_satisfiable (length a.names)) a.edges

-- the graph of the edges with satisfiable labels
abbrev pub passable_arcs : Automaton → List (ℕ × ℕ)
passable_arcs a = map (λ e. (e.from, e.to)) (satisfiable_edges a)

-- the flag of the state is set
abbrev pub is_flagged : List Bool → ℕ → Bool
is_flagged flags q = slice_index_or flags q false

-- The automaton with nothing but its flagged starts and its edges with satisfiable labels between flagged states. The states
-- keep their numbers.
abbrev pub between : List Bool → Automaton → Automaton
between flags a = record a {
  starts = filter (is_flagged flags) a.starts;
  edges = filter (λ e. is_satisfiable (length a.names) e && (is_flagged flags e.from && is_flagged flags e.to)) a.edges;
}

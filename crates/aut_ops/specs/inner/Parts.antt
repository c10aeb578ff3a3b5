-- Parts of the public definitions, under names that contracts of inner functions and proofs use.
use Rattle.std.specs.Prelude.{ℕ, ◌&&◌, Bool, if◌then◌else◌, List, [], ◌∷◌, ◌++◌, flat_map, fold, length, map}
use Rattle.aut_base.specs.Automaton.{Automaton, LabelledEdge}
use Rattle.aut_core.specs.Surveys.{edges_from}
use Rattle.aut_ops.specs.Completion.{gap_edges, is_met_unmarked}
use Rattle.aut_ops.specs.Satisfiable.{is_flagged, is_satisfiable}
use Rattle.aut_ops.specs.Trimming.{flagged_before}
use Rattle.exploration.specs.Turns.{with_new}

-- the items in the order of their first occurrence, each once
abbrev pub once : {X : Type 0} → (X → X → Bool) → List X → List X
once same xs = fold (with_new same) [] xs

-- the edges of a state, and after them the one to the sink
abbrev pub filled_edges : Automaton → ℕ → List LabelledEdge
filled_edges a state = edges_from state a.edges ++ gap_edges (length a.names) state a.states (edges_from state a.edges)

-- the marks of the sink's loop: the fresh set, which no other edge is in, where there is one
abbrev pub sink_marks : Automaton → List ℕ
sink_marks a = if is_met_unmarked a.formula then a.sets ∷ [] else []

-- each of the first with each of the second, in the order of the first
abbrev pub all_pairs : List ℕ → List ℕ → List (ℕ × ℕ)
all_pairs ps qs = flat_map (λ p. map (λ q. (p, q)) qs) ps

-- an edge as an arc
abbrev pub arc_of : LabelledEdge → ℕ × ℕ
arc_of e = (e.from, e.to)

-- the label of the edge is satisfiable, and both of its states are flagged
abbrev pub is_kept_edge : ℕ → List Bool → LabelledEdge → Bool
is_kept_edge n flags e = is_satisfiable n e && (is_flagged flags e.from && is_flagged flags e.to)

-- the edge between the new numbers of its states
abbrev pub renumbered_edge : List Bool → LabelledEdge → LabelledEdge
renumbered_edge flags e = record { from = flagged_before flags e.from; label = e.label; to = flagged_before flags e.to; marks = e.marks }

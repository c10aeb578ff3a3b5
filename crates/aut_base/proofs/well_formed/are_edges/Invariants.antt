-- The edges so far are edges of the automaton.
use Rattle.std.proofs.Common.{ℕ, ◌<◌, get_or}
use Rattle.aut_base.specs.Automaton.{labelled_edge, automaton, IsEdgeOf}
use Rattle.aut_base.specs.declared.description.Edge.{Edge}
use Rattle.aut_base.proofs.well_formed.are_edges.Given as goal

abbrev pub invariant-edges : goal.invariant-edges
invariant-edges l = (k : ℕ) (d : Edge) → k < l.edge-index → IsEdgeOf (automaton l.description) (labelled_edge (get_or l.edges k d))

-- The list that a `RawEdges` holds, whichever way it is stored.
use Rattle.std.specs.Prelude.{List, [], ◌∷◌}
use Rattle.hoa_parser.specs.declared.edges.HeldEdges.{HeldEdges}
use Rattle.hoa_parser.specs.declared.edges.HeldEdges.TheVariants.{None, One, More}
use Rattle.hoa_parser.specs.declared.raw.RawEdge.{RawEdge}

-- the edges, in order
abbrev pub held_edges : HeldEdges → List RawEdge
held_edges None = []
held_edges (One edge) = edge ∷ []
held_edges (More edges) = edges

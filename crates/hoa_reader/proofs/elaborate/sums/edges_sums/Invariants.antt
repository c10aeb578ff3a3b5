use Rattle.std.proofs.Common.{◌≡◌, drop, map}
use Rattle.hoa_parser.specs.Raw.{written_edge}
use Rattle.hoa_reader.proofs.counting.BodySums.{Fits}
use Rattle.hoa_reader.specs.inner.Sums.{beside, edges_sums}
use Rattle.hoa_reader.proofs.elaborate.sums.edges_sums.Given as goal

abbrev pub invariant-edges : goal.invariant-edges
invariant-edges l = record { fits : Fits l.all; sums : beside l.all (edges_sums (map written_edge (drop l.edge-index l.edges))) ≡ edges_sums (map written_edge l.edges) }

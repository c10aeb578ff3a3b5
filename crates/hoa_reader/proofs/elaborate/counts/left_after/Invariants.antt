use Rattle.std.proofs.Common.{◌≡◌, ◌+◌, map, drop}
use Rattle.std.specs.Prelude.{sum_by}
use Rattle.hoa_parser.specs.Raw.{written_edge, written_state}
use Rattle.hoa_reader.specs.inner.Weighing.{edge_counted, state_counted}
use Rattle.hoa_reader.proofs.elaborate.counts.left_after.Given as goal

abbrev pub invariant-edges : goal.invariant-edges
invariant-edges l = l.left + state_counted l.known (written_state l.state) ≡ l.most + sum_by (edge_counted l.known (written_state l.state)) (map written_edge (drop l.edge-index l.state.edges))

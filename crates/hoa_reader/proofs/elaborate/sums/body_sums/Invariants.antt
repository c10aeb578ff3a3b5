use Rattle.std.proofs.Common.{◌≡◌, drop, map}
use Rattle.hoa_parser.specs.Raw.{written_state}
use Rattle.hoa_reader.proofs.counting.BodySums.{Fits}
use Rattle.hoa_reader.specs.inner.Sums.{beside, body_sums}
use Rattle.hoa_reader.proofs.elaborate.sums.body_sums.Given as goal

abbrev pub invariant-states : goal.invariant-states
invariant-states l = record {
  fits : Fits l.all;
  sums : beside l.all (body_sums l.names (map written_state (drop l.state-index l.states))) ≡ body_sums l.names (map written_state l.states);
}

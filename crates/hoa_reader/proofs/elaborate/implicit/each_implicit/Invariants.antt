use Rattle.std.proofs.Common.{◌≡◌, drop, map}
use Rattle.hoa_parser.specs.Raw.{written_state}
use Rattle.hoa_reader.specs.inner.Implicit.{each_implicit}
use Rattle.hoa_reader.proofs.elaborate.implicit.each_implicit.Given as goal

abbrev pub invariant-states : goal.invariant-states
invariant-states l = record {
  number : l.number ≡ l.state-index;
  each : each_implicit l.names l.number (map written_state (drop l.state-index l.states)) ≡ each_implicit l.names 0 (map written_state l.states);
}

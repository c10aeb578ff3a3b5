use Rattle.std.proofs.Common.{◌≡◌, map, drop}
use Rattle.hoa_reader.specs.inner.PickedOut.{numbers}
use Rattle.hoa_reader.specs.inner.Rising.{rises_from}
use Rattle.hoa_parser.specs.Raw.{written_state}
use Rattle.hoa_reader.proofs.elaborate.rules.numbers_rise.Given as goal

abbrev pub invariant-states : goal.invariant-states
invariant-states l = rises_from l.least (numbers (map written_state (drop l.state-index l.states))) ≡ rises_from 0 (numbers (map written_state l.states))

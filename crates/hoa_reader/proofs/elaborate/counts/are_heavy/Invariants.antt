use Rattle.std.proofs.Common.{◌≡◌, map, drop, nat_lt}
use Rattle.hoa_parser.specs.Raw.{written_state}
use Rattle.hoa_reader.specs.inner.Weighing.{states_counted}
use Rattle.hoa_reader.proofs.elaborate.counts.are_heavy.Given as goal

abbrev pub invariant-states : goal.invariant-states
invariant-states l = nat_lt l.left (states_counted l.known (map written_state (drop l.state-index l.states))) ≡ nat_lt l.most (states_counted l.known (map written_state l.states))

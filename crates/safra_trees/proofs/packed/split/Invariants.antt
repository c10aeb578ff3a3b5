use Rattle.std.proofs.Common.{◌≡◌, ◌^◌, filter, take}
use Rattle.safra_trees.specs.Flat.{is_high, is_low}
use Rattle.safra_trees.proofs.packed.split.Given as goal

abbrev pub invariant-states : goal.invariant-states
invariant-states l = record {
  low : l.low.items ≡ filter (is_low (2 ^ 16)) (take l.state-index l.states);
  rest : l.rest.items ≡ filter (is_high (2 ^ 16)) (take l.state-index l.states);
}

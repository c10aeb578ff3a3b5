use Rattle.std.proofs.Common.{◌≡◌, map}
use Rattle.std.specs.List.{range_with_len}
use Rattle.aut_ops.specs.Trimming.{flagged_before}
use Rattle.aut_ops.proofs.renumbering.number_flagged.Given as goal

abbrev pub invariant-states : goal.invariant-states
invariant-states l = record {
  ranks : l.ranks ≡ map (flagged_before l.flags) (range_with_len 0 l.flag-index);
  count : l.count ≡ flagged_before l.flags l.flag-index;
}

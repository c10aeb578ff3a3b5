use Rattle.std.proofs.Common.{◌≡◌, map}
use Rattle.std.specs.List.{range_with_len}
use Rattle.safra_trees.specs.inner.Names.{rank}
use Rattle.safra_trees.specs.inner.Passes.{flag}
use Rattle.safra_trees.proofs.passes.new_names.Given as goal

abbrev pub invariant-names : goal.invariant-names
invariant-names l = record {
  ranks : l.ranks.items ≡ map (rank (flag l.stay)) (range_with_len 0 l.name);
  count : l.count ≡ rank (flag l.stay) l.name;
}

use Rattle.std.proofs.Common.{◌≡◌, ◌≤◌, ◌^◌, ◌-◌, ◌+◌, max, map, drop}
use Rattle.hoa_reader.specs.inner.Growing.{cap, capped_heights, capped_sizes, heights_in, sizes_in}
use Rattle.hoa_parser.specs.Raw.{raw_tree, raw_trees}
use Rattle.hoa_reader.proofs.elaborate.aliases.+growth.Given as goal

abbrev pub invariant-all_growth-labels : goal.invariant-all_growth-labels
invariant-all_growth-labels l = record {
  fits : l.all.size ≤ 2 ^ 64 - 1;
  height : max l.all.height (capped_heights (heights_in l.known) (raw_trees (map raw_tree (drop l.label-index l.labels)))) ≡ capped_heights (heights_in l.known) (raw_trees (map raw_tree l.labels));
  size : cap (l.all.size + capped_sizes (sizes_in l.known) (raw_trees (map raw_tree (drop l.label-index l.labels)))) ≡ capped_sizes (sizes_in l.known) (raw_trees (map raw_tree l.labels));
}

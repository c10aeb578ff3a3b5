use Rattle.std.proofs.Common.{◌≡◌, ◌≤◌, ◌^◌, ◌-◌, ◌+◌, ◌&&◌, [], true, max, map, drop}
use Rattle.hoa_parser.specs.Raw.{RawTrees, raw_tree, raw_trees}
use Rattle.hoa_reader.specs.Validity.{all_leaves_pass}
use Rattle.hoa_reader.specs.inner.Places.{is_listed}
use Rattle.hoa_reader.specs.inner.Growing.{cap, capped_heights, capped_sizes}
use Rattle.hoa_reader.specs.inner.Sums.{all_props_after, one_sign}
use Rattle.hoa_reader.proofs.elaborate.shape.+shape.Given as goal

abbrev pub invariant-shape_of_all-labels : goal.invariant-shape_of_all-labels
invariant-shape_of_all-labels l =
    let rest : RawTrees = raw_trees (map raw_tree (drop l.label-index l.labels)) in
    let whole : RawTrees = raw_trees (map raw_tree l.labels) in
    record {
      fits : l.all.size ≤ 2 ^ 64 - 1;
      props : max l.all.props (all_props_after rest) ≡ all_props_after whole;
      plain : (l.all.plain && all_leaves_pass (λ i. true) (is_listed []) rest) ≡ all_leaves_pass (λ i. true) (is_listed []) whole;
      height : max l.all.height (capped_heights one_sign rest) ≡ capped_heights one_sign whole;
      size : cap (l.all.size + capped_sizes one_sign rest) ≡ capped_sizes one_sign whole;
    }

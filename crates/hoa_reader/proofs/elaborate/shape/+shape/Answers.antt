use Rattle.std.proofs.Common.{◌≡◌, ◌∙◌, ◌+◌, ◌&&◌, Bool, List, [], true, max, map, drop, arith, ap, sym}
use Rattle.std.proofs.lemmas.List.{drop_all}
use Rattle.aut_base.proofs.lists.Lists.{drop-at}
use Rattle.hoa_parser.specs.Raw.{RawTrees, raw_tree, raw_trees}
use Rattle.hoa_parser.specs.declared.raw.RawLabel.{RawLabel}
use Rattle.hoa_reader.proofs.counting.BodySums.{and_in_turn, and_true}
use Rattle.hoa_reader.proofs.labels.CubeShapes.{cube_leaves, cube_said}
use Rattle.hoa_reader.proofs.labels.Meanings.{sizes_fit}
use Rattle.hoa_reader.specs.Validity.{aliases_among, all_leaves_pass}
use Rattle.hoa_reader.specs.inner.Places.{is_listed}
use Rattle.hoa_reader.specs.inner.Growing.{cap, capped_height, capped_heights, capped_size, capped_sizes}
use Rattle.hoa_reader.specs.inner.Sums.{all_props_after, one_sign, props_after}
use Rattle.hoa_reader.proofs.elaborate.shape.+shape.Goals as goal

abbrev trees_of : List RawLabel → RawTrees
trees_of labels = raw_trees (map raw_tree labels)

abbrev are_plain : RawTrees → Bool
are_plain ts = all_leaves_pass (λ i. true) (is_listed []) ts

pub shape_of_all-labels-init : goal.shape_of_all-labels-init
shape_of_all-labels-init t c =
    let all = trees_of c.args.labels.now in
    let fit = sizes_fit one_sign all in
    let none = c.none-all.ensures in
    record {
      fits = omega (arith, none.size);
      props = omega (arith, none.props);
      plain = ap (λ b. b && are_plain all) none.plain;
      height = omega (arith, none.height);
      size = omega (arith, fit, none.size);
    }

pub shape_of_all-labels-preserved : goal.shape_of_all-labels-preserved
shape_of_all-labels-preserved t c =
    let labels = c.args.labels.now in
    let i = c.labels.label-index in
    let label = c.label-item.result in
    let rest = trees_of (drop (i + 1) labels) in
    let split : trees_of (drop i labels) ≡ RawTrees.more (raw_tree label) rest = ap trees_of (drop-at labels i label c.labels-test.true c.label-item.is) in
    let one = c.shape_of.ensures in
    let now = c.both-all.ensures in
    let before = c.labels.invariant in
    let props : all_props_after (trees_of (drop i labels)) ≡ max (props_after (raw_tree label)) (all_props_after rest) = ap all_props_after split in
    let height : capped_heights one_sign (trees_of (drop i labels)) ≡ max (capped_height one_sign (raw_tree label)) (capped_heights one_sign rest) = ap (capped_heights one_sign) split in
    let size : capped_sizes one_sign (trees_of (drop i labels)) ≡ cap (capped_size one_sign (raw_tree label) + capped_sizes one_sign rest) = ap (capped_sizes one_sign) split in
    record {
      fits = omega (arith, now.size);
      props = omega (arith, props, one.props, now.props, before.props);
      plain =
          ap (λ b. b && are_plain rest) (now.plain ∙ ap (λ b. c.labels.all.plain && b) one.plain)
          ∙ and_in_turn c.labels.all.plain (aliases_among [] (raw_tree label)) (are_plain rest)
          ∙ ap (λ ts. c.labels.all.plain && are_plain ts) (sym split) ∙ before.plain;
      height = omega (arith, height, one.height, now.height, before.height);
      size = omega (arith, size, one.size, now.size, before.size);
    }

pub shape_of_all-returns-clause-props : goal.shape_of_all-returns-clause-props
shape_of_all-returns-clause-props t c =
    let gone : all_props_after (trees_of (drop c.labels.label-index c.args.labels.now)) ≡ 0 =
    ap (λ ls. all_props_after (trees_of ls)) (drop_all c.labels.label-index c.args.labels.now c.labels-test.false) in
    omega (arith, gone, c.labels.invariant.props)

pub shape_of_all-returns-clause-plain : goal.shape_of_all-returns-clause-plain
shape_of_all-returns-clause-plain t c =
    let gone : are_plain (trees_of (drop c.labels.label-index c.args.labels.now)) ≡ true = ap (λ ls. are_plain (trees_of ls)) (drop_all c.labels.label-index c.args.labels.now c.labels-test.false) in
    sym (and_true c.labels.all.plain) ∙ ap (λ b. c.labels.all.plain && b) (sym gone) ∙ c.labels.invariant.plain

pub shape_of_all-returns-clause-height : goal.shape_of_all-returns-clause-height
shape_of_all-returns-clause-height t c =
    let gone : capped_heights one_sign (trees_of (drop c.labels.label-index c.args.labels.now)) ≡ 0 =
    ap (λ ls. capped_heights one_sign (trees_of ls)) (drop_all c.labels.label-index c.args.labels.now c.labels-test.false) in
    omega (arith, gone, c.labels.invariant.height)

pub shape_of_all-returns-clause-size : goal.shape_of_all-returns-clause-size
shape_of_all-returns-clause-size t c =
    let gone : capped_sizes one_sign (trees_of (drop c.labels.label-index c.args.labels.now)) ≡ 0 =
    ap (λ ls. capped_sizes one_sign (trees_of ls)) (drop_all c.labels.label-index c.args.labels.now c.labels-test.false) in
    omega (arith, gone, c.labels.invariant.size, c.labels.invariant.fits)

pub shape_of-returns-in-Cube-clause-props : goal.shape_of-returns-in-Cube-clause-props
shape_of-returns-in-Cube-clause-props t c = cube_said props_after c.args.label.now _ _ _ c.in-Cube.is c.cube_shape.ensures.props

pub shape_of-returns-in-Cube-clause-plain : goal.shape_of-returns-in-Cube-clause-plain
shape_of-returns-in-Cube-clause-plain t c = cube_said (aliases_among []) c.args.label.now _ _ _ c.in-Cube.is (c.cube_shape.ensures.plain ∙ sym (cube_leaves (is_listed []) _ _))

pub shape_of-returns-in-Cube-clause-height : goal.shape_of-returns-in-Cube-clause-height
shape_of-returns-in-Cube-clause-height t c = cube_said (capped_height one_sign) c.args.label.now _ _ _ c.in-Cube.is (c.cube_shape.ensures.height one_sign)

pub shape_of-returns-in-Cube-clause-size : goal.shape_of-returns-in-Cube-clause-size
shape_of-returns-in-Cube-clause-size t c = cube_said (capped_size one_sign) c.args.label.now _ _ _ c.in-Cube.is (c.cube_shape.ensures.size one_sign)

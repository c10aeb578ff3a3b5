use Rattle.std.proofs.Common.{◌≡◌, ◌+◌, map, drop, List, ℕ, arith, ap}
use Rattle.std.proofs.lemmas.List.{drop_all}
use Rattle.hoa_reader.proofs.labels.Meanings.{sizes_fit}
use Rattle.hoa_reader.specs.inner.Growing.{cap, capped_height, capped_size, capped_sizes, heights_in, sizes_in}
use Rattle.hoa_parser.specs.Raw.{raw_tree, raw_trees}
use Rattle.hoa_parser.specs.declared.raw.RawLabel.{RawLabel}
use Rattle.hoa_reader.proofs.labels.CubeShapes.{cube_said}
use Rattle.hoa_reader.proofs.elaborate.aliases.+growth.Goals as goal

pub all_growth-labels-init : goal.all_growth-labels-init
all_growth-labels-init t c =
    let fit = sizes_fit (sizes_in c.args.known.now) (raw_trees (map raw_tree c.args.labels.now)) in
    record { fits = omega arith; height = omega arith; size = omega (arith, fit) }

pub all_growth-returns-clause-size : goal.all_growth-returns-clause-size
all_growth-returns-clause-size t c =
    let S : List RawLabel → ℕ = λ ls. capped_sizes (sizes_in c.args.known.now) (raw_trees (map raw_tree ls)) in
    let gone : S (drop c.labels.label-index c.args.labels.now) ≡ 0 = ap S (drop_all c.labels.label-index c.args.labels.now c.labels-test.false) in
    let all : cap (c.labels.all.size + S (drop c.labels.label-index c.args.labels.now)) ≡ S c.args.labels.now = c.labels.invariant.size in
    omega (arith, gone, all, c.labels.invariant.fits)

pub growth_of-returns-in-Cube-clause-height : goal.growth_of-returns-in-Cube-clause-height
growth_of-returns-in-Cube-clause-height t c =
    cube_said (capped_height (heights_in c.args.known.now)) c.args.label.now _ _ _ c.in-Cube.is (c.cube_growth.ensures.height (heights_in c.args.known.now))

pub growth_of-returns-in-Cube-clause-size : goal.growth_of-returns-in-Cube-clause-size
growth_of-returns-in-Cube-clause-size t c =
    cube_said (capped_size (sizes_in c.args.known.now)) c.args.label.now _ _ _ c.in-Cube.is (c.cube_growth.ensures.size (sizes_in c.args.known.now))

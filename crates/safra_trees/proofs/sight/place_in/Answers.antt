use Rattle.std.proofs.Common.{arith}
use Rattle.safra_trees.proofs.flat_step.Sight.{found_place, not_missing}
use Rattle.safra_trees.proofs.sight.place_in.Goals as goal

pub overflow_cast-result : goal.overflow_cast-result
overflow_cast-result c =
    let low = found_place c.args.sight.now c.args.state c.in-Ok.place c.requires.rises c.in-Ok.ensures.position in
    omega (arith, low, c.ranges.state.fits)

pub unreachable-requires : goal.unreachable-requires
unreachable-requires c = not_missing c.args.sight.now c.args.state c.in-Err.field-0 c.requires.rises c.requires.there c.in-Err.ensures.position

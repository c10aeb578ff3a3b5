use Rattle.hoa_reader.proofs.labels.CubeShapes.{cube_below}
use Rattle.hoa_reader.proofs.elaborate.leaves.+props_below.Goals as goal

pub props_below-returns-in-Cube : goal.props_below-returns-in-Cube
props_below-returns-in-Cube t c = cube_below c.args.label.now _ _ c.args.names _ c.in-Cube.is c.cube_shape.ensures.props

use Rattle.hoa_reader.proofs.labels.CubeShapes.{cube_no_alias, cube_said}
use Rattle.hoa_reader.specs.inner.Growing.{alias_name}
use Rattle.hoa_reader.proofs.elaborate.aliases.alias_in.Goals as goal

pub returns-in-Cube : goal.returns-in-Cube
returns-in-Cube c = cube_said alias_name c.args.label.now _ _ _ c.in-Cube.is (cube_no_alias _ _)

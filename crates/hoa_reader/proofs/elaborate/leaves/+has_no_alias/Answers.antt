use Rattle.std.proofs.Common.{[], sym}
use Rattle.hoa_reader.proofs.labels.CubeShapes.{cube_leaves, cube_said}
use Rattle.hoa_reader.specs.Validity.{aliases_among}
use Rattle.hoa_reader.specs.inner.Places.{is_listed}
use Rattle.hoa_reader.proofs.elaborate.leaves.+has_no_alias.Goals as goal

pub has_no_alias-returns-in-Cube : goal.has_no_alias-returns-in-Cube
has_no_alias-returns-in-Cube t c = cube_said (aliases_among []) c.args.label.now _ _ _ c.in-Cube.is (sym (cube_leaves (is_listed []) _ _))

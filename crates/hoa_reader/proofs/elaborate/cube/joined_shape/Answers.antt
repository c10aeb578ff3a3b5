use Rattle.std.proofs.Common.{arith}
use Rattle.hoa_reader.proofs.labels.CubeShapes.{tells_joined_more, tells_joined_one}
use Rattle.hoa_reader.proofs.elaborate.cube.joined_shape.Goals as goal

pub returns-in-1 : goal.returns-in-1
returns-in-1 c ts size tells = let is = c.in-1.is in tells_joined_one c.args.all ts (omega (arith, size, is)) tells

pub returns-in_default : goal.returns-in_default
returns-in_default c ts size tells =
    let more = c.in_default in
    tells_joined_more c.args.all c.one_more.result ts (omega (arith, size, more)) c.one_more.ensures.props c.one_more.ensures.plain c.one_more.ensures.height c.one_more.ensures.size tells

use Rattle.hoa_parser.proofs.plain.Cubes.{no_literals}
use Rattle.hoa_parser.proofs.parse.cube.no_literal.Goals as goal

pub returns-clause-literals : goal.returns-clause-literals
returns-clause-literals c = no_literals

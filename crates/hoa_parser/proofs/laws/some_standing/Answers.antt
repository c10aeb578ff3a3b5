use Rattle.hoa_parser.proofs.standing.SomeStanding.{some_standing}
use Rattle.hoa_parser.proofs.laws.some_standing.Goals as goal

pub returns : goal.returns
returns c = some_standing

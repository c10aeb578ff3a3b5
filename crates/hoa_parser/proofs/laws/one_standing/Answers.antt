use Rattle.hoa_parser.proofs.standing.OneStanding.{one_standing}
use Rattle.hoa_parser.proofs.laws.one_standing.Goals as goal

pub returns : goal.returns
returns c = one_standing

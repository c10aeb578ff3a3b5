use Rattle.hoa_parser.proofs.standing.Settled.{settled_stays}
use Rattle.hoa_parser.proofs.laws.settled_stays.Goals as goal

pub returns : goal.returns
returns c = settled_stays

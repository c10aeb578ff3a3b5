use Rattle.hoa_parser.proofs.standing.Settled.{bad_is_hopeless}
use Rattle.hoa_parser.proofs.laws.bad_is_hopeless.Goals as goal

pub returns : goal.returns
returns c = bad_is_hopeless

use Rattle.unambiguous.proofs.parting.Decided.{parted_decides}
use Rattle.unambiguous.proofs.law.parted_decides.Goals as goal

pub returns : goal.returns
returns c = parted_decides

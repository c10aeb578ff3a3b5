use Rattle.unambiguous.proofs.tracks.Accepted as law
use Rattle.unambiguous.proofs.law.runs_are_acceptance.Goals as goal

pub returns : goal.returns
returns c = law.runs_are_acceptance

use Rattle.unambiguous.proofs.tracks.Deterministic as law
use Rattle.unambiguous.proofs.law.deterministic_is_unambiguous.Goals as goal

pub returns : goal.returns
returns c = law.deterministic_is_unambiguous

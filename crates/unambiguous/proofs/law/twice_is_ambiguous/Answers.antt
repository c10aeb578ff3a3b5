use Rattle.unambiguous.proofs.tracks.Deterministic as law
use Rattle.unambiguous.proofs.law.twice_is_ambiguous.Goals as goal

pub returns : goal.returns
returns c = law.twice_is_ambiguous

use Rattle.unambiguous.proofs.tracks.Starts as law
use Rattle.unambiguous.proofs.law.places_fix_start.Goals as goal

pub returns : goal.returns
returns c = law.places_fix_start

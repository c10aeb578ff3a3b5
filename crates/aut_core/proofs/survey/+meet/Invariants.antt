use Rattle.std.proofs.Common.{length}
use Rattle.aut_core.proofs.survey.+meet.Given as goal

abbrev pub decreases-meet : goal.decreases-meet
decreases-meet l = length l.links.now

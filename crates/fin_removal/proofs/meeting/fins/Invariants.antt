use Rattle.std.proofs.Common.{◌≡◌, take}
use Rattle.fin_removal.specs.Meeting.{fins}
use Rattle.fin_removal.proofs.meeting.fins.Given as goal

abbrev pub invariant-literals : goal.invariant-literals
invariant-literals l = l.found ≡ fins (take l.literal-index l.literal-items)

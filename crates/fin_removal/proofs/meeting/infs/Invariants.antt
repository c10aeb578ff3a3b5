use Rattle.std.proofs.Common.{◌≡◌, take}
use Rattle.fin_removal.specs.Meeting.{infs}
use Rattle.fin_removal.proofs.meeting.infs.Given as goal

abbrev pub invariant-literals : goal.invariant-literals
invariant-literals l = l.found ≡ infs (take l.literal-index l.literal-items)

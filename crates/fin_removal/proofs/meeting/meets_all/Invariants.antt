use Rattle.std.proofs.Common.{◌≡◌, true, take}
use Rattle.std.specs.List.{list_all}
use Rattle.fin_removal.specs.Meeting.{meets}
use Rattle.fin_removal.proofs.meeting.meets_all.Given as goal

abbrev pub invariant-literals : goal.invariant-literals
invariant-literals l = list_all (meets l.marks) (take l.literal-index l.literal-items) ≡ true

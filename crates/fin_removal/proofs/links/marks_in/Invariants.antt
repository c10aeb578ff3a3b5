use Rattle.std.proofs.Common.{◌≡◌, ◌+◌, filter, map}
use Rattle.std.specs.List.{range_with_len}
use Rattle.fin_removal.specs.Meeting.{meets_at}
use Rattle.fin_removal.proofs.links.marks_in.Given as goal

abbrev pub invariant-places : goal.invariant-places
invariant-places l = l.found ≡ map (λ place. l.copy.first + place) (filter (λ place. meets_at l.copy.infs place l.marks) (range_with_len 0 l.place))

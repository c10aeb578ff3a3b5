use Rattle.std.proofs.Common.{◌≡◌, take}
use Rattle.std.specs.List.{sum_by}
use Rattle.fin_removal.specs.Meeting.{literal_places}
use Rattle.fin_removal.proofs.term_copy.all_sets.Given as goal

abbrev pub invariant-copies : goal.invariant-copies
invariant-copies l = l.all ≡ sum_by (λ copy. literal_places copy.infs) (take l.copy-index l.copy-items)

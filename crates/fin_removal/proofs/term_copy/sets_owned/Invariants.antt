use Rattle.std.proofs.Common.{◌≡◌, map, take}
use Rattle.fin_removal.specs.Copies.{owned}
use Rattle.fin_removal.proofs.term_copy.sets_owned.Given as goal

abbrev pub invariant-copies : goal.invariant-copies
invariant-copies l = l.owned ≡ map owned (take l.copy-index l.copy-items)

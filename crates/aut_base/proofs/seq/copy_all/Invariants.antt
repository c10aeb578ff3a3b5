use Rattle.std.proofs.Common.{◌≡◌, take}
use Rattle.aut_base.proofs.seq.copy_all.Given as goal

abbrev pub invariant-texts : goal.invariant-texts
invariant-texts l = l.copies ≡ take l.text-index l.texts

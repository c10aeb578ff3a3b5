-- The parts so far are copied.
use Rattle.std.proofs.Common.{◌≡◌, map, take}
use Rattle.aut_base.specs.Label.{label_tree}
use Rattle.aut_base.proofs.label.+label_copy.Given as goal

abbrev pub invariant-copy_all-parts : goal.invariant-copy_all-parts
invariant-copy_all-parts l = map label_tree l.copies.items ≡ map label_tree (take l.part-index l.parts)

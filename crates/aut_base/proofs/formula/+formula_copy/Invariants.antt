-- The parts so far are copied.
use Rattle.std.proofs.Common.{◌≡◌, map, take}
use Rattle.aut_base.specs.Formula.{formula_tree}
use Rattle.aut_base.proofs.formula.+formula_copy.Given as goal

abbrev pub invariant-copy_all-parts : goal.invariant-copy_all-parts
invariant-copy_all-parts l = map formula_tree l.copies.items ≡ map formula_tree (take l.part-index l.parts)

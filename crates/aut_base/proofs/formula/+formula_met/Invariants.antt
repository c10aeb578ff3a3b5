-- The rest of the list decides, since the parts so far don't.
use Rattle.std.proofs.Common.{◌≡◌, map, drop}
use Rattle.aut_base.specs.Formula.{all_met, some_met, trees, formula_tree}
use Rattle.aut_base.proofs.formula.+formula_met.Given as goal

abbrev pub invariant-all_met-parts : goal.invariant-all_met-parts
invariant-all_met-parts l = all_met l.cycle (trees (map formula_tree (drop l.part-index l.parts))) ≡ all_met l.cycle (trees (map formula_tree l.parts))

abbrev pub invariant-some_met-parts : goal.invariant-some_met-parts
invariant-some_met-parts l = some_met l.cycle (trees (map formula_tree (drop l.part-index l.parts))) ≡ some_met l.cycle (trees (map formula_tree l.parts))

-- The sets of the parts so far are below the number, so the rest of the list decides.
use Rattle.std.proofs.Common.{◌↔◌, map, drop}
use Rattle.aut_base.specs.Formula.{EachSetsBelow, trees, formula_tree}
use Rattle.aut_base.proofs.formula.+formula_below.Given as goal

abbrev pub invariant-all_below-parts : goal.invariant-all_below-parts
invariant-all_below-parts l = EachSetsBelow l.sets (trees (map formula_tree (drop l.part-index l.parts))) ↔ EachSetsBelow l.sets (trees (map formula_tree l.parts))

-- The propositions of the parts so far are below the number, so the rest of the list decides.
use Rattle.std.proofs.Common.{◌↔◌, map, drop}
use Rattle.aut_base.specs.Label.{EachBelow, trees, label_tree}
use Rattle.aut_base.proofs.label.+label_below.Given as goal

abbrev pub invariant-all_below-parts : goal.invariant-all_below-parts
invariant-all_below-parts l = EachBelow l.names (trees (map label_tree (drop l.part-index l.parts))) ↔ EachBelow l.names (trees (map label_tree l.parts))

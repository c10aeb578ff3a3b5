-- The rest of the list decides, since the parts so far don't.
use Rattle.std.proofs.Common.{◌≡◌, length, map, drop}
use Rattle.aut_base.specs.Label.{EachBelow, holds_at, all_true, some_true, trees, label_tree}
use Rattle.aut_base.proofs.label.+label_holds.Given as goal

abbrev pub invariant-all_hold-parts : goal.invariant-all_hold-parts
invariant-all_hold-parts l = record {
  below : EachBelow (length l.names) (trees (map label_tree (drop l.part-index l.parts)));
  decides : all_true (holds_at l.names l.letter) (trees (map label_tree (drop l.part-index l.parts))) ≡ all_true (holds_at l.names l.letter) (trees (map label_tree l.parts));
}

abbrev pub invariant-some_hold-parts : goal.invariant-some_hold-parts
invariant-some_hold-parts l = record {
  below : EachBelow (length l.names) (trees (map label_tree (drop l.part-index l.parts)));
  decides : some_true (holds_at l.names l.letter) (trees (map label_tree (drop l.part-index l.parts))) ≡ some_true (holds_at l.names l.letter) (trees (map label_tree l.parts));
}

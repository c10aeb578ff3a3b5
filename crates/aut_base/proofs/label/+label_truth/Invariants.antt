-- The rest of the list decides, since the parts so far don't.
use Rattle.std.proofs.Common.{◌≡◌, false, length, map, drop}
use Rattle.std.specs.List.{slice_index_or}
use Rattle.aut_base.specs.Label.{EachBelow, all_true, some_true, trees, label_tree}
use Rattle.aut_base.proofs.label.+label_truth.Given as goal

abbrev pub invariant-all_true-parts : goal.invariant-all_true-parts
invariant-all_true-parts l = record {
  below : EachBelow (length l.on) (trees (map label_tree (drop l.part-index l.parts)));
  decides : all_true (λ i. slice_index_or l.on i false) (trees (map label_tree (drop l.part-index l.parts))) ≡ all_true (λ i. slice_index_or l.on i false) (trees (map label_tree l.parts));
}

abbrev pub invariant-some_true-parts : goal.invariant-some_true-parts
invariant-some_true-parts l = record {
  below : EachBelow (length l.on) (trees (map label_tree (drop l.part-index l.parts)));
  decides : some_true (λ i. slice_index_or l.on i false) (trees (map label_tree (drop l.part-index l.parts))) ≡ some_true (λ i. slice_index_or l.on i false) (trees (map label_tree l.parts));
}

-- A part is smaller than the label that it is of.
use Rattle.std.proofs.Common.{◌+◌, ◌*◌, ◌≤◌, drop, length}
use Rattle.aut_base.specs.Label.{all_true, label_list, label_size, label_tree, labels_size, some_true, trees}
use Rattle.label_guards.specs.Nodes.{Grows}
use Rattle.label_guards.specs.Operations.{IsPlaceOf}
use Rattle.label_guards.proofs.guards.Guards.+place_of.Given as goal

abbrev pub decreases-place_of : goal.decreases-place_of
decreases-place_of l = 3 * label_size (label_tree l.label.now)

abbrev pub decreases-place_of_not : goal.decreases-place_of_not
decreases-place_of_not l = 3 * label_size (label_tree l.label.now) + 1

abbrev pub decreases-meet : goal.decreases-meet
decreases-meet l = 3 * label_size (label_tree l.label.now) + 1

abbrev pub decreases-join : goal.decreases-join
decreases-join l = 3 * label_size (label_tree l.label.now) + 1

abbrev pub decreases-place_of_all : goal.decreases-place_of_all
decreases-place_of_all l = 3 * labels_size (trees (label_list l.parts.now)) + 2

abbrev pub decreases-place_of_some : goal.decreases-place_of_some
decreases-place_of_some l = 3 * labels_size (trees (label_list l.parts.now)) + 2

abbrev pub decreases-place_of_all-parts : goal.decreases-place_of_all-parts
decreases-place_of_all-parts l = l.left

abbrev pub decreases-place_of_some-parts : goal.decreases-place_of_some-parts
decreases-place_of_some-parts l = l.left

abbrev pub invariant-place_of_all-parts : goal.invariant-place_of_all-parts
invariant-place_of_all-parts l = record {
  grows : Grows l.fn.self l.self;
  left : l.left ≤ length (label_list l.parts);
  place : IsPlaceOf l.self (λ on. all_true on (trees (drop l.left (label_list l.parts)))) l.place;
}

abbrev pub invariant-place_of_some-parts : goal.invariant-place_of_some-parts
invariant-place_of_some-parts l = record {
  grows : Grows l.fn.self l.self;
  left : l.left ≤ length (label_list l.parts);
  place : IsPlaceOf l.self (λ on. some_true on (trees (drop l.left (label_list l.parts)))) l.place;
}

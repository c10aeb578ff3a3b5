-- A part is smaller than the label that it is of, and what stands for an alias is none.
use Rattle.std.proofs.Common.{◌+◌, ◌*◌, ◌≤◌, drop, length, map}
use Rattle.aut_base.specs.Label.{all_true, label_size, labels_size, some_true, trees}
use Rattle.hoa_parser.specs.Raw.{raw_list, raw_tree}
use Rattle.hoa_reader.specs.inner.Growing.{alias_bit, alias_name}
use Rattle.hoa_reader.specs.inner.TreeEdges.{parts_replaced, replaced}
use Rattle.label_guards.specs.Guards.{IsGuardOf}
use Rattle.label_guards.specs.Store.{Keeps}
use Rattle.hoa_reader.proofs.elaborate.written.+guard_written.Given as goal

abbrev pub decreases-guard_written : goal.decreases-guard_written
decreases-guard_written l = 4 * label_size (replaced l.shared.now (raw_tree l.label.now)) + alias_bit (alias_name (raw_tree l.label.now))

abbrev pub decreases-met : goal.decreases-met
decreases-met l = 4 * label_size (replaced l.shared.now (raw_tree l.label.now)) + alias_bit (alias_name (raw_tree l.label.now)) + 1

abbrev pub decreases-joined : goal.decreases-joined
decreases-joined l = 4 * label_size (replaced l.shared.now (raw_tree l.label.now)) + alias_bit (alias_name (raw_tree l.label.now)) + 1

abbrev pub decreases-guard_of_all : goal.decreases-guard_of_all
decreases-guard_of_all l = 4 * labels_size (parts_replaced l.shared.now l.parts.now) + 3

abbrev pub decreases-guard_of_some : goal.decreases-guard_of_some
decreases-guard_of_some l = 4 * labels_size (parts_replaced l.shared.now l.parts.now) + 3

abbrev pub decreases-guard_of_all-parts : goal.decreases-guard_of_all-parts
decreases-guard_of_all-parts l = l.left

abbrev pub decreases-guard_of_some-parts : goal.decreases-guard_of_some-parts
decreases-guard_of_some-parts l = l.left

abbrev pub invariant-guard_of_all-parts : goal.invariant-guard_of_all-parts
invariant-guard_of_all-parts l = record {
  keeps : Keeps l.fn.guards l.guards;
  left : l.left ≤ length (raw_list l.parts);
  guard : IsGuardOf l.guards (λ on. all_true on (trees (drop l.left (map (replaced l.shared) (raw_list l.parts))))) l.all;
}

abbrev pub invariant-guard_of_some-parts : goal.invariant-guard_of_some-parts
invariant-guard_of_some-parts l = record {
  keeps : Keeps l.fn.guards l.guards;
  left : l.left ≤ length (raw_list l.parts);
  guard : IsGuardOf l.guards (λ on. some_true on (trees (drop l.left (map (replaced l.shared) (raw_list l.parts))))) l.some;
}

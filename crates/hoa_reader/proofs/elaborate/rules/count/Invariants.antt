use Rattle.std.proofs.Common.{◌≡◌, ◌≤◌, count_by, map, take}
use Rattle.hoa_parser.specs.Raw.{written_item}
use Rattle.hoa_reader.specs.inner.PickedOut.{is_line}
use Rattle.hoa_reader.proofs.elaborate.rules.count.Given as goal

abbrev pub invariant-items : goal.invariant-items
invariant-items l = record { counted : l.count ≡ count_by (is_line l.line) (map written_item (take l.item-index l.items)); few : l.count ≤ l.item-index }

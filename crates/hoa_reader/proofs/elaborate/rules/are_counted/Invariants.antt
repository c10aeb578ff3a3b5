use Rattle.std.proofs.Common.{◌≡◌, map, drop, nat_le}
use Rattle.std.specs.Prelude.{filter_map}
use Rattle.std.specs.List.{list_all}
use Rattle.hoa_parser.specs.Raw.{written_item}
use Rattle.hoa_reader.specs.Validity.{states_item}
use Rattle.hoa_reader.proofs.elaborate.rules.are_counted.Given as goal

abbrev pub invariant-items : goal.invariant-items
invariant-items l = list_all (nat_le l.after) (filter_map states_item (map written_item (drop l.item-index l.items))) ≡ list_all (nat_le l.after) (filter_map states_item (map written_item l.items))

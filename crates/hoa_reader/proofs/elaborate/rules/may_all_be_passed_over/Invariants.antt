use Rattle.std.proofs.Common.{◌≡◌, map, drop}
use Rattle.std.specs.List.{list_all}
use Rattle.hoa_parser.specs.Raw.{written_item}
use Rattle.hoa_reader.specs.Validity.{may_be_passed_over}
use Rattle.hoa_reader.proofs.elaborate.rules.may_all_be_passed_over.Given as goal

abbrev pub invariant-items : goal.invariant-items
invariant-items l = list_all may_be_passed_over (map written_item (drop l.item-index l.items)) ≡ list_all may_be_passed_over (map written_item l.items)

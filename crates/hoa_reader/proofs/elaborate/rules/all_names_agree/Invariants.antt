use Rattle.std.proofs.Common.{◌≡◌, map, drop}
use Rattle.std.specs.List.{list_all}
use Rattle.hoa_parser.specs.Raw.{written_item}
use Rattle.hoa_reader.specs.Validity.{names_agree}
use Rattle.hoa_reader.proofs.elaborate.rules.all_names_agree.Given as goal

abbrev pub invariant-items : goal.invariant-items
invariant-items l = list_all names_agree (map written_item (drop l.item-index l.items)) ≡ list_all names_agree (map written_item l.items)

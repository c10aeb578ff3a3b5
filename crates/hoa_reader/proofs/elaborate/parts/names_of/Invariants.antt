use Rattle.std.proofs.Common.{◌≡◌, map, filter_map, drop}
use Rattle.hoa_parser.specs.Raw.{written_item}
use Rattle.hoa_reader.specs.Validity.{names_item}
use Rattle.hoa_reader.proofs.elaborate.parts.names_of.Given as goal

abbrev pub invariant-items : goal.invariant-items
invariant-items l = filter_map names_item (map written_item (drop l.item-index l.items)) ≡ filter_map names_item (map written_item l.items)

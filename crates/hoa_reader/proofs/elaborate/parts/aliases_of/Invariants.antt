use Rattle.std.proofs.Common.{◌≡◌, ◌++◌, map, filter_map, drop}
use Rattle.hoa_parser.specs.Raw.{written_item}
use Rattle.hoa_reader.specs.Validity.{alias_item}
use Rattle.hoa_reader.specs.inner.PickedOut.{alias_def}
use Rattle.hoa_reader.proofs.elaborate.parts.aliases_of.Given as goal

abbrev pub invariant-items : goal.invariant-items
invariant-items l = map alias_def l.defs.items ++ filter_map alias_item (map written_item (drop l.item-index l.items)) ≡ filter_map alias_item (map written_item l.items)

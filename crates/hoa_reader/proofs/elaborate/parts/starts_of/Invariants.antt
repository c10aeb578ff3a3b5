use Rattle.std.proofs.Common.{◌≡◌, ◌++◌, map, filter_map, drop}
use Rattle.hoa_parser.specs.Raw.{written_item}
use Rattle.hoa_reader.specs.Validity.{start_item}
use Rattle.hoa_reader.proofs.elaborate.parts.starts_of.Given as goal

abbrev pub invariant-items : goal.invariant-items
invariant-items l = map (λ s. s.now) l.starts.items ++ filter_map start_item (map written_item (drop l.item-index l.items)) ≡ filter_map start_item (map written_item l.items)

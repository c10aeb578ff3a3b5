use Rattle.std.proofs.Common.{◌≡◌, drop, filter_map, map, slice_get}
use Rattle.hoa_parser.specs.Naming.{name_item, name_of}
use Rattle.hoa_parser.specs.Raw.{written, written_item}
use Rattle.hoa_parser.proofs.raw.Raw.name.Given as goal

-- the items that are left have the name
abbrev pub invariant-items : goal.invariant-items
invariant-items l =
    slice_get (filter_map name_item (map written_item (drop l.item-index l.self.items))) 0 ≡ name_of (written l.self)

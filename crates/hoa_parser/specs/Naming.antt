-- The name that an automaton is given.
use Rattle.std.specs.Prelude.{ℕ, List, filter_map, slice_get, Option, Some, None}
use Rattle.hoa_parser.specs.Raw.{Written, WrittenItem, Name}

abbrev pub name_item : WrittenItem → Option (List ℕ)
name_item (Name text) = Some text
name_item _ = None

-- the text of the first `name:` of the header
abbrev pub name_of : Written → Option (List ℕ)
name_of w = slice_get (filter_map name_item w.items) 0

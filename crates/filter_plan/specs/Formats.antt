-- The format of a line of figures, which `--stats` prints.
use Rattle.std.specs.Prelude.{◌≡◌, ◌==◌, ℕ, List, [], ◌∷◌, flat_map, if◌then◌else◌, codes}
use Rattle.filter_plan.specs.declared.format.Piece.{Piece}
use Rattle.filter_plan.specs.declared.format.Piece.TheVariants.{Byte, States, Edges, Sets, Word}

-- how a piece is written: a byte as itself, but `%` twice
abbrev pub piece_text : Piece → List ℕ
piece_text (Byte b) = if b == 37 then codes "%%" else b ∷ []
piece_text States = codes "%s"
piece_text Edges = codes "%e"
piece_text Sets = codes "%a"
piece_text Word = codes "%w"

-- the text spells these pieces, one after the other
abbrev pub IsFormat : List ℕ → List Piece → Type 0
IsFormat text pieces = text ≡ flat_map piece_text pieces

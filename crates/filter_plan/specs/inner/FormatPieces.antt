-- The first piece of a format.
use Rattle.std.specs.Prelude.{◌==◌, ℕ, List, [], ◌∷◌, Option, Some, None, if◌then◌else◌}
use Rattle.std.specs.Option.{option_map}
use Rattle.filter_plan.specs.declared.format.Piece.{Piece}
use Rattle.filter_plan.specs.declared.format.Piece.TheVariants.{Byte, States, Edges, Sets, Word}

-- the piece that `%` and this byte spell
abbrev pub escape : ℕ → Option Piece
escape c = if c == 37 then Some (Byte 37)
    else (if c == 115 then Some States
    else (if c == 101 then Some Edges
    else (if c == 97 then Some Sets
    else (if c == 119 then Some Word else None))))

abbrev pub escape_piece : List ℕ → Option (Piece × List ℕ)
escape_piece [] = None
escape_piece (c ∷ rest) = option_map (λ p. (p, rest)) (escape c)

-- the first piece, and the rest of the text after it
abbrev pub first_piece : List ℕ → Option (Piece × List ℕ)
first_piece [] = None
first_piece (b ∷ rest) = if b == 37 then escape_piece rest else Some (Byte b, rest)

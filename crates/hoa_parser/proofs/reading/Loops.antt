-- What the loops of the descent keep, and why they end.
use Rattle.std.proofs.Common.{ℕ, ◌+◌, ◌-◌, [], ◌∷◌}
use Rattle.hoa_lexer.specs.Reading.{held_count}
use Rattle.hoa_lexer.specs.declared.lexer.Lexer.{Lexer}
use Rattle.hoa_parser.specs.inner.Expecting.{Part}
use Rattle.hoa_parser.specs.inner.Parsing.{ReadsTo, Relation, State}

-- the part is expected as before, and this is true of what was read
abbrev pub GoesOn : Part → Relation → State → State → Type 0
GoesOn part A = ReadsTo (part ∷ []) (part ∷ []) A

-- one more than the bytes that may still be used
abbrev pub bytes_left : Lexer → ℕ
bytes_left lexer = lexer.most + 1 - (lexer.taken - held_count lexer.held)

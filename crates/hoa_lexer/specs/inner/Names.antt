-- The bytes of a name, wherever they are stored.
use Rattle.std.specs.Prelude.{ℕ, List}
use Rattle.hoa_lexer.specs.declared.name.Held.{Held}
use Rattle.hoa_lexer.specs.declared.name.Held.TheVariants.{Short, Long}

-- the bytes, in order
abbrev pub held_bytes : Held → List ℕ
held_bytes (Short bytes) = bytes
held_bytes (Long list) = list.items

-- The kinds of bytes.
use Rattle.std.specs.Prelude.{ℕ, Bool, ◌||◌, ◌==◌}
pub use Rattle.aut_base.specs.Bytes.{is_digit, is_letter, is_space}

-- a letter, a digit or `-`: what an identifier or an alias goes on with
abbrev pub is_word : ℕ → Bool
is_word b = is_letter b || (is_digit b || (b == 45))

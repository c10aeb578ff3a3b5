-- Texts, which are lists of bytes.
use Rattle.std.specs.Prelude.{ℕ, Bool, ◌==◌, List, [], ◌∷◌, ◌++◌}
use Rattle.std.specs.Cmp.Lexicographic.{pointwise}

-- both texts have the same bytes
abbrev pub same_text : List ℕ → List ℕ → Bool
same_text = pointwise ◌==◌

-- the bytes and a line feed
abbrev pub line : List ℕ → List ℕ
line bytes = bytes ++ 10 ∷ []

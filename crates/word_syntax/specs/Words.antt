-- Uniqueness of reduced lasso words.
use Rattle.std.specs.Prelude.{◌≡◌, ◌<◌, List, length}
use Rattle.aut_base.specs.Word.{IsReduced, NameSet, SpellsSame}

-- An infinite word has at most one reduced lasso word.
abbrev pub OneReducedLasso : Type 0
OneReducedLasso = (u v x y : List NameSet) → 0 < length v → 0 < length y → IsReduced u v → IsReduced x y → SpellsSame u v x y → (u ≡ x) × (v ≡ y)

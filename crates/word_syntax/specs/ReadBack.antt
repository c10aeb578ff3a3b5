-- Reading a printed word back: the pattern that it writes, and the words that match that.
use Rattle.std.specs.Prelude.{◌≡◌, ◌≢◌, ℕ, ◌<◌, ◌^◌, ◌↔◌, AllPairs, Contains, List, [], ◌∷◌, ◌++◌, length}
use Rattle.std.specs.FinSet.{contains}
use Rattle.aut_base.specs.Word.{NameSet, SpellsSame, copies}
use Rattle.word_syntax.specs.Grammar.{WordPattern}
use Rattle.word_syntax.specs.Matching.{Matches}
use Rattle.word_syntax.specs.Printing.{word_text}
use Rattle.word_syntax.specs.Writing.{WritesWord}

-- each of these names is in both letters or in neither
abbrev pub AgreesOn : List (List ℕ) → NameSet → NameSet → Type 0
AgreesOn names x y = (name : List ℕ) → Contains names name → contains x name ≡ contains y name

-- the lists of letters are of one length, and agree at each index
abbrev pub AllAgree : List (List ℕ) → List NameSet → List NameSet → Type 0
AllAgree names [] [] = Unit {0}
AllAgree names [] (y ∷ ys) = ⊥
AllAgree names (x ∷ xs) [] = ⊥
AllAgree names (x ∷ xs) (y ∷ ys) = AgreesOn names x y × AllAgree names xs ys

-- The lasso word x, y agrees on these names with an unrolling of u, v: some copies of the cycle v are added to the stem u, and the
-- new cycle is one or more copies of v. The unrolling is a lasso word of the same infinite word.
pub record AgreesUnrolled (names : List (List ℕ)) (u v x y : List NameSet) : Type 0 where
  pub stem_rounds : ℕ
  pub cycle_rounds : ℕ
  pub some : 0 < cycle_rounds
  pub same : SpellsSame (u ++ copies stem_rounds v) (copies cycle_rounds v) u v
  pub stem : AllAgree names x (u ++ copies stem_rounds v)
  pub cycle : AllAgree names y (copies cycle_rounds v)

-- The printed text writes a pattern over these names. The words that match it are those that agree on these names with an unrolling
-- of the printed word.
pub record IsReadBack (names : List (List ℕ)) (u v : List NameSet) : Type 0 where
  pub pattern : WordPattern
  pub writes : WritesWord (word_text names u v) pattern
  pub names_are : pattern.names ≡ names
  pub matches : (x y : List NameSet) → Matches pattern x y ↔ AgreesUnrolled names u v x y

abbrev pub PrintedIsReadBack : Type 0
PrintedIsReadBack = (names : List (List ℕ)) (u v : List NameSet) → AllPairs (λ a b. a ≢ b) names → 0 < length v → length (word_text names u v) < 2 ^ 32 → IsReadBack names u v

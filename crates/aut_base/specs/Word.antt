-- Letters and lasso words (ultimately periodic words).
use Rattle.std.specs.Prelude.{◌≡◌, ◌≢◌, ℕ, zero, suc, ◌-◌, ◌%◌, ◌≤◌, List, [], ◌∷◌, ◌++◌, length, Option, nat_lt, if◌then◌else◌, slice_get}
use Rattle.std.specs.Cmp.Lexicographic.{slice_cmp}
use Rattle.std.specs.FinSet.{FinSet}
use Rattle.std.specs.Ordering.{nat_cmp}

-- A letter: the names of the propositions that hold at one position of a word. A name is a list of bytes.
abbrev pub NameSet : Type 0
NameSet = FinSet (slice_cmp nat_cmp)

-- the list repeated this many times
abbrev pub copies : {A : Type 0} → ℕ → List A → List A
copies zero v = []
copies (suc k) v = v ++ copies k v

-- the n-th of the list that is `stem` and then `cycle` again and again, from n = 0
abbrev pub nth : {A : Type 0} → List A → List A → ℕ → Option A
nth stem cycle n = if nat_lt n (length stem) then slice_get stem n else slice_get cycle ((n - length stem) % length cycle)

-- The n-th letter of the word that is `u` and then `v` again and again.
abbrev pub letter_at : List NameSet → List NameSet → ℕ → Option NameSet
letter_at u v n = nth u v n

-- both lasso words spell the same infinite word
abbrev pub SpellsSame : List NameSet → List NameSet → List NameSet → List NameSet → Type 0
SpellsSame u v x y = (n : ℕ) → letter_at u v n ≡ letter_at x y n

-- no lasso word with a shorter stem or cycle spells the same infinite word
pub record IsReduced (u v : List NameSet) : Type 0 where
  -- the cycle is not two or more copies of a list
  pub primitive : (w : List NameSet) (k : ℕ) → 2 ≤ k → v ≢ copies k w
  -- the stem is empty, or ends in a letter other than the cycle's last
  pub stem : (x y : List NameSet) (a b : NameSet) → u ≡ x ++ a ∷ [] → v ≡ y ++ b ∷ [] → a ≢ b

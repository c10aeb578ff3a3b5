-- Which bytes a reader by blocks has left, and which it gives.
use Rattle.std.specs.Prelude.{◌≡◌, ⊤, ℕ, ◌-◌, List, [], ◌∷◌, drop, take, Option, Some, None, Result, Ok, Err}

-- the bytes of the block that were not given yet
abbrev pub held : List ℕ → ℕ → ℕ → List ℕ
held block place end = take (end - place) (drop place block)

-- The first of the bytes that are left is given, and the others stay; None is given where there are none. A failed read gives
-- and takes nothing.
abbrev pub GivesFirst : {E : Type 0} → Option (List ℕ) → Option (List ℕ) → Result (Option ℕ) E → Type 0
GivesFirst None new result = ⊤
GivesFirst (Some bytes) new (Err e) = new ≡ Some bytes
GivesFirst (Some bytes) new (Ok None) = (bytes ≡ []) × (new ≡ Some [])
GivesFirst (Some bytes) new (Ok (Some byte)) = (rest : List ℕ) × (bytes ≡ byte ∷ rest) × (new ≡ Some rest)

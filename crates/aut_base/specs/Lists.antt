-- What several definitions ask of a list.
use Rattle.std.specs.Prelude.{◌≡◌, Bool, List, [], ◌∷◌, ◌++◌, filter, not}
use Rattle.std.specs.List.{AllByRecursion}

-- x stands in the list, and each item before it passes.
pub record FirstIn {X : Type 0} (Passes : X → Type 0) (list : List X) (x : X) : Type 0 where
  pub before : List X
  pub after : List X
  pub all : list ≡ before ++ x ∷ after
  pub earlier : AllByRecursion Passes before

-- the items in the order of their first occurrence, each once
abbrev pub distinct : {X : Type 0} → (X → X → Bool) → List X → List X
distinct same [] = []
distinct same (x ∷ xs) = x ∷ filter (λ y. not (same x y)) (distinct same xs)

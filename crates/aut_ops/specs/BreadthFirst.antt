-- Reachability by steps, and the list of what is reached in breadth-first order.
use Rattle.std.specs.Prelude.{◌≡◌, Bool, List, [], ◌∷◌, ◌++◌, All, Contains, flat_map, fold}
use Rattle.exploration.specs.Turns.{with_new}

-- steps lead from one item to another, by these items in turn
abbrev pub LeadsBy : {X : Type 0} → (X → List X) → X → List X → X → Type 0
LeadsBy next x [] y = x ≡ y
LeadsBy next x (z ∷ zs) y = Contains (next x) z × LeadsBy next z zs y

-- steps lead to the item from one of the starts
pub record IsReachedFrom {X : Type 0} (starts : List X) (next : X → List X) (y : X) : Type 0 where
  pub start : X
  pub is_start : Contains starts start
  pub path : List X
  pub leads : LeadsBy next start path y

-- The list of what is reached in breadth-first order: the starts, and then the successors of each item of the list in turn,
-- each once, at its first occurrence, and nothing that isn't reached. Law: there is at most one such list.
pub record IsBreadthFirst {X : Type 0} (same : X → X → Bool) (starts : List X) (next : X → List X) (list : List X) : Type 0 where
  pub in_turn : list ≡ fold (with_new same) [] (starts ++ flat_map next list)
  pub reached : All (IsReachedFrom starts next) list

-- When the values of an option can't be read.
use Rattle.std.proofs.Common.{◌≡◌, ℕ, List, [], ◌∷◌, Option, Some, None, subst}
use Rattle.filter_plan.specs.Table.{ReadsOption}

-- an option with one value that spells nothing can't be read
pub refused_one : {X : Type 0} (IsRead : List ℕ → X → Type 0) (values : List (List ℕ)) (value : List ℕ) → values ≡ value ∷ [] → ((x : X) → IsRead value x → ⊥) → (found : Option X)
    → ReadsOption IsRead values found → ⊥
refused_one {X} IsRead values value is none found reads = go found (subst (λ vs. ReadsOption IsRead vs found) is reads)
  where
    go : (o : Option X) → ReadsOption IsRead (value ∷ []) o → ⊥
    go None h = h
    go (Some x) h = none x h

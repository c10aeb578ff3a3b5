-- An item of a list that lacks a property, where all before it have the property.
use Rattle.std.proofs.Common.{◌≡◌, ◌∷◌, ◌++◌, List, [], subst}
use Rattle.std.specs.List.{AllByRecursion}

-- there is only one
pub one_first_in : {X : Type 0} (P : X → Type 0) (before after ahead behind : List X) (x y : X) → before ++ x ∷ after ≡ ahead ++ y ∷ behind → AllByRecursion P before → AllByRecursion P ahead
    → (P x → ⊥) → (P y → ⊥) → x ≡ y
one_first_in P [] after [] behind x y e all each lacks fails = cc
one_first_in P [] after (z ∷ ahead) behind x y e all each lacks fails = absurd (lacks (subst P (let same : z ≡ x = cc in same) each.0))
one_first_in P (z ∷ before) after [] behind x y e all each lacks fails = absurd (fails (subst P (let same : z ≡ y = cc in same) all.0))
one_first_in P (z ∷ before) after (v ∷ ahead) behind x y e all each lacks fails =
    one_first_in P before after ahead behind x y (let same : before ++ x ∷ after ≡ ahead ++ y ∷ behind = cc in same) all.1 each.1 lacks fails

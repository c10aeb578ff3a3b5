-- Indices into a list whose first two items are stored apart.
use Rattle.std.proofs.Common.{◌≡◌, ℕ, ◌<◌, ◌≤◌, ◌-◌, ◌∙◌, List, ◌∷◌, length, map, Some, get_or, slice_get, refl, ap, arith}
use Rattle.std.proofs.lemmas.List.{length-map}
use Rattle.std.proofs.lemmas.Option.{slice_get_read, slice_get-map}
use Rattle.std.specs.Option.{option_map}
use Rattle.aut_base.proofs.lists.Lists.{slice_get-behind_two}

-- the tree of an item after the first two
pub tree_behind_two : {A B : Type 0} (tree : A → B) (a b : B) (xs : List A) (list : List B) (place : ℕ) (x : A) → list ≡ a ∷ b ∷ map tree xs → 2 ≤ place → place < length list
    → x ≡ get_or xs (place - 2) x → slice_get list place ≡ Some (tree x)
tree_behind_two tree a b xs list place x e h within read =
    let same : length list ≡ length (a ∷ b ∷ map tree xs) = ap length e in
    let all : length (map tree xs) ≡ length xs = length-map xs tree in
    ap (λ l. slice_get l place) e ∙ (slice_get-behind_two a b (map tree xs) place h
    ∙ (slice_get-map tree xs (place - 2) ∙ ap (option_map tree) (slice_get_read xs (length xs) (place - 2) x refl (omega arith) read)))

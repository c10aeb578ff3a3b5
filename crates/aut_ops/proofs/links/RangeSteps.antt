-- The list of a function's values at the numbers below a bound, made number by number.
use Rattle.std.proofs.Common.{◌≡◌, ◌∙◌, ◌+◌, ℕ, List, [], ◌∷◌, ◌++◌, ap, arith, map, sym}
use Rattle.std.proofs.lemmas.List.{map-append}
use Rattle.std.specs.List.{range_with_len}
use Rattle.aut_base.proofs.lists.Lists.{range_more}

pub mapped_more : {X : Type 0} (f : ℕ → X) (old new : List X) (i : ℕ) (x : X) → old ≡ map f (range_with_len 0 i) → x ≡ f i → new ≡ old ++ x ∷ [] → new ≡ map f (range_with_len 0 (i + 1))
mapped_more f old new i x so_far is pushed =
    let e : i ≡ 0 + i = omega arith in
    pushed ∙ (ap (λ ys. ys ++ x ∷ []) so_far ∙ (ap (λ y. map f (range_with_len 0 i) ++ y ∷ []) (is ∙ ap f e)
    ∙ (sym (map-append f (range_with_len 0 i) ((0 + i) ∷ [])) ∙ ap (map f) (sym (range_more 0 i)))))

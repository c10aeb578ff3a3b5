-- Lists of which each item is in some relation to each later one.
use Rattle.std.proofs.Common.{zero, suc, List, [], ◌∷◌, ◌++◌, All, AllPairs, arith, map}
use Rattle.std.proofs.lemmas.List.Elements.{All-append, All-map, All-tail}
use Rattle.std.proofs.lemmas.List.Kept.{AllPairs-cons}

pub pairs_first : {X : Type 0} (R : X → X → Type 0) (x : X) (xs : List X) → AllPairs R (x ∷ xs) → All (R x) xs
pairs_first R x xs h k d within = h zero (suc k) d (omega arith) (omega (arith, within))

pub pairs_rest : {X : Type 0} (R : X → X → Type 0) (x : X) (xs : List X) → AllPairs R (x ∷ xs) → AllPairs R xs
pairs_rest R x xs h i j d less within = h (suc i) (suc j) d (omega (arith, less)) (omega (arith, within))

pub pairs_append : {X : Type 0} (R : X → X → Type 0) (xs ys : List X) → AllPairs R xs → AllPairs R ys → All (λ x. All (R x) ys) xs → AllPairs R (xs ++ ys)
pairs_append R [] ys first second across = second
pairs_append R (x ∷ xs) ys first second across =
    AllPairs-cons R x (xs ++ ys) (All-append (R x) xs ys (pairs_first R x xs first) (across 0 x (omega arith)))
    (pairs_append R xs ys (pairs_rest R x xs first) second (All-tail (λ y. All (R y) ys) x xs across))

pub pairs_map : {X Y : Type 0} (R : Y → Y → Type 0) (f : X → Y) (xs : List X) → AllPairs (λ x y. R (f x) (f y)) xs → AllPairs R (map f xs)
pairs_map R f [] h = λ i j d less within. absurd (omega (arith, within))
pairs_map R f (x ∷ xs) h = AllPairs-cons R (f x) (map f xs) (All-map (R (f x)) f xs (pairs_first (λ y z. R (f y) (f z)) x xs h)) (pairs_map R f xs (pairs_rest (λ y z. R (f y) (f z)) x xs h))

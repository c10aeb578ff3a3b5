-- Marks that are added to others one by one, each raised by a number.
use Rattle.std.proofs.Common.{◌≡◌, ◌+◌, ◌<◌, ℕ, List, ◌++◌, All, AllPairs, arith, get_or, length, map, subst, sym, take}
use Rattle.std.proofs.lemmas.List.{get_or-take, get_or_default, length-take}
use Rattle.std.proofs.lemmas.List.Elements.{All-append, All-map, All-weaker}

-- the next of increasing marks, raised, is above those so far
pub joint_below : (marks others all : List ℕ) (by_cases i mark : ℕ) → All (λ m. m < by_cases) marks → AllPairs (λ m n. m < n) others → i < length others → get_or others i 0 ≡ mark
    → all ≡ marks ++ map (λ m. m + by_cases) (take i others) → All (λ m. m < mark + by_cases) all
joint_below marks others all by_cases i mark low rise within is so_far = subst (All (λ m. m < mark + by_cases)) (sym so_far)
    (All-append (λ m. m < mark + by_cases) marks (map (λ m. m + by_cases) (take i others))
    (All-weaker (λ m. m < by_cases) (λ m. m < mark + by_cases) (λ m l. omega (arith, l)) marks low)
    (All-map (λ m. m < mark + by_cases) (λ m. m + by_cases) (take i others) (λ k d less.
    let early : k < i = omega (arith, less, length-take i others) in
    let up = rise k i 0 early within in
    let at = get_or-take i others k d early in
    let same = get_or_default others k d 0 (omega (arith, early, within)) in
    omega (arith, up, at, same, is))))

-- Strictly increasing lists of numbers: two with the same members are equal.
use Rattle.std.proofs.Common.{◌≡◌, ◌+◌, ◌<◌, ◌≤◌, ℕ, suc, AllPairs, Bool, true, Contains, List, [], ◌∷◌, arith, filter, get_or, inl, inr, length, refl, subst, sym}
use Rattle.std.proofs.lemmas.List.Kept.{AllPairs-from_increasing}
use Rattle.std.specs.List.{range_with_len}
use Rattle.std.specs.List.Sorted.{IsStrictlyIncreasing}
use Rattle.aut_base.proofs.lists.Members.{first_there, from_filter, from_range, later_there, none_there, there_cases, there_filter, there_range_zero}
use Rattle.aut_base.proofs.order.Rising.{Increases, increases_kept, increases_range}

from_low : (low : ℕ) (xs : List ℕ) → Increases low xs → (q : ℕ) → Contains xs q → low ≤ q
from_low low [] c q there = absurd (none_there q there)
from_low low (x ∷ xs) c q there = elim (there_cases x xs q there) [
  | inl e ↦ omega (arith, c.0, e)
  | inr later ↦ (let more = from_low (x + 1) xs c.1 q later in omega (arith, more, c.0))
]

same_members : (low : ℕ) (xs ys : List ℕ) → Increases low xs → Increases low ys → ((q : ℕ) → Contains xs q → Contains ys q) → ((q : ℕ) → Contains ys q → Contains xs q) → xs ≡ ys
same_members low [] [] c d to back = refl
same_members low [] (y ∷ ys) c d to back = absurd (none_there y (back y (first_there y ys)))
same_members low (x ∷ xs) [] c d to back = absurd (none_there x (to x (first_there x xs)))
same_members low (x ∷ xs) (y ∷ ys) c d to back =
    let up = from_low y (y ∷ ys) (omega arith, d.1) x (to x (first_there x xs)) in
    let down = from_low x (x ∷ xs) (omega arith, c.1) y (back y (first_there y ys)) in
    let first : x ≡ y = omega (arith, up, down) in
    let rest = same_members (x + 1) xs ys c.1 (subst (λ n. Increases (n + 1) ys) (sym first) d.1)
    (λ q there. later y ys q (omega (arith, from_low (x + 1) xs c.1 q there, first)) (to q (later_there x xs q there)))
    (λ q there. later x xs q (omega (arith, from_low (y + 1) ys d.1 q there, first)) (back q (later_there y ys q there))) in
    λ i. first i ∷ rest i
  where
    later : (z : ℕ) (zs : List ℕ) (q : ℕ) → z < q → Contains (z ∷ zs) q → Contains zs q
    later z zs q less there = elim (there_cases z zs q there) [
      | inl e ↦ absurd (omega (arith, less, e))
      | inr after ↦ after
    ]

increases_of : (low : ℕ) (xs : List ℕ) → AllPairs (λ x y. x < y) xs → ((d : ℕ) → 0 < length xs → low ≤ get_or xs 0 d) → Increases low xs
increases_of low [] rises first = tt
increases_of low (x ∷ xs) rises first = (
  first 0 (omega arith),
  increases_of (x + 1) xs (λ i j d l w. rises (suc i) (suc j) d (omega (arith, l)) (omega (arith, w))) (λ d some. omega (arith, rises 0 1 d (omega arith) (omega (arith, some)))),
)

pub same_rising : (xs ys : List ℕ) → AllPairs (λ x y. x < y) xs → AllPairs (λ x y. x < y) ys → ((q : ℕ) → Contains xs q → Contains ys q) → ((q : ℕ) → Contains ys q → Contains xs q) → xs ≡ ys
same_rising xs ys one other = same_members 0 xs ys (increases_of 0 xs one (λ d some. omega arith)) (increases_of 0 ys other (λ d some. omega arith))

-- one whose members are the numbers below n that pass a test
pub kept_of_range : (p : ℕ → Bool) (n : ℕ) (xs : List ℕ) → IsStrictlyIncreasing xs → ((q : ℕ) → Contains xs q → (q < n) × (p q ≡ true)) → ((q : ℕ) → q < n → p q ≡ true → Contains xs q)
    → xs ≡ filter p (range_with_len 0 n)
kept_of_range p n xs rises to back = same_members 0 xs (filter p (range_with_len 0 n)) (increases_of 0 xs (AllPairs-from_increasing xs rises) (λ d some. omega arith))
    (increases_kept p 0 (range_with_len 0 n) (increases_range 0 n))
    (λ q there. (let h = to q there in there_filter p (range_with_len 0 n) q (there_range_zero n q h.0) h.1))
    (λ q there. (
    let h = from_filter p (range_with_len 0 n) q there in
    let bounds = from_range 0 n q h.0 in
    back q (omega (arith, bounds.1)) h.1
    ))

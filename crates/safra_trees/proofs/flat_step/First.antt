-- The tree before a word.
use Rattle.std.proofs.Common.{◌≡◌, ◌∙◌, ◌<◌, ◌==◌, ℕ, suc, Bool, true, cond, List, [], ◌∷◌, AllPairs, Contains, ap, arith, filter, inl, inr, length, min, refl, replicate, subst, sym, All}
use Rattle.std.proofs.lemmas.Bool.{cases_Bool, cond-false, cond-true, eq-eqb, eqb-true, or_left}
use Rattle.std.proofs.lemmas.List.Elements.{All-contains}
use Rattle.std.proofs.lemmas.List.Kept.{AllPairs-from_increasing}
use Rattle.std.specs.List.{list_any, range_with_len}
use Rattle.std.specs.List.Sorted.{IsStrictlyIncreasing}
use Rattle.aut_base.proofs.lists.Members.{any_found, any_from, each_there, first_there, from_filter, none_there, there_cases, there_filter}
use Rattle.aut_base.proofs.order.RisingLists.{kept_of_range}
use Rattle.safra_trees.proofs.list_step.Ranks.{names_below}
use Rattle.safra_trees.proofs.flat_step.Placed.{placed_all, stored_root}
use Rattle.safra_trees.proofs.list_step.Over.{over_self}
use Rattle.safra_trees.specs.Flat.{IsStored, at, is_over, nodes_of, placed}
use Rattle.safra_trees.specs.inner.Names.{has, names_where}
use Rattle.safra_trees.specs.Trees.{Node, first_tree, root_states}

abbrev first_parents : List ℕ → List ℕ
first_parents [] = []
first_parents (s ∷ found) = 0 ∷ []

abbrev zeros : List ℕ → List ℕ
zeros [] = []
zeros (s ∷ found) = 0 ∷ zeros found

parents_are : (found : List ℕ) → replicate (min (length found) 1) 0 ≡ first_parents found
parents_are [] = let e : min (length {A = ℕ} []) 1 ≡ 0 = omega arith in ap (λ n. replicate n 0) e
parents_are (s ∷ found) = let e : min (length (s ∷ found)) 1 ≡ 1 = omega arith in ap (λ n. replicate n 0) e

zeros_are : (found : List ℕ) → replicate (length found) 0 ≡ zeros found
zeros_are [] = refl
zeros_are (s ∷ found) = ap (λ xs. 0 ∷ xs) (zeros_are found)

zeros_length : (found : List ℕ) → length (zeros found) ≡ length found
zeros_length [] = refl
zeros_length (s ∷ found) = ap suc (zeros_length found)

zero_there : (found : List ℕ) (x : ℕ) → Contains (zeros found) x → x ≡ 0
zero_there [] x there = absurd (none_there x there)
zero_there (s ∷ found) x there = elim (there_cases 0 (zeros found) x there) [ inl here ↦ sym here | inr later ↦ zero_there found x later ]

zero_has : (found : List ℕ) (x : ℕ) → has (zeros found) x ≡ true → x ≡ 0
zero_has found x is =
    let got = any_found (λ y. y == x) (zeros found) is in
    sym (eqb-true got.0 x got.2) ∙ zero_there found got.0 got.1

stored_first : (found : List ℕ) → AllPairs (λ a b. a < b) found → IsStored (first_parents found) found (zeros found)
stored_first [] rising = record {
  few = omega arith;
  root = refl;
  lower = λ x more less. absurd (omega (arith, less));
  rising = rising;
  each = refl;
  below = λ k d within. absurd (omega (arith, within));
  own = λ x less. absurd (omega (arith, less));
}
stored_first (s ∷ found) rising = record {
  few = omega arith;
  root = refl;
  lower = λ x more less. absurd (omega (arith, more, less));
  rising = rising;
  each = zeros_length (s ∷ found);
  below = each_there (λ x. x < 1) (zeros (s ∷ found)) (λ x there. omega (arith, zero_there (s ∷ found) x there));
  own = λ x less. or_left (0 == x) (has (zeros found) x) (eq-eqb 0 x (omega (arith, less)));
}

nodes_first : (p : ℕ → Bool) (xs found : List ℕ) → found ≡ filter p xs → nodes_of (first_parents found) found (zeros found) ≡ cond (list_any p xs)
    (record { parent = 0; states = filter p xs } ∷ []) []
nodes_first p xs [] is = elim (cases_Bool (list_any p xs)) [
  | inl some ↦ (
      let got = any_found p xs some in
      absurd (none_there got.0 (subst (λ ys. Contains ys got.0) (sym is) (there_filter p xs got.0 got.1 got.2))))
  | inr none ↦ sym (cond-false (list_any p xs) (record { parent = 0; states = filter p xs } ∷ []) [] none)
]
nodes_first p xs (s ∷ found) is =
    let there : Contains (filter p xs) s = subst (λ ys. Contains ys s) is (first_there s found) in
    let parts = from_filter p xs s there in
    let some : list_any p xs ≡ true = any_from p xs s parts.0 parts.1 in
    let all : placed (is_over (at (0 ∷ [])) 0) (s ∷ found) (zeros (s ∷ found)) ≡ filter p xs =
    placed_all (is_over (at (0 ∷ [])) 0) (s ∷ found) (zeros (s ∷ found)) (zeros_length (s ∷ found))
    (λ x has_it. subst (λ y. is_over (at (0 ∷ [])) 0 y ≡ true) (sym (zero_has (s ∷ found) x has_it)) (over_self (at (0 ∷ [])) 0)) ∙ is in
    let made : List ℕ → List Node = λ ys. record { parent = 0; states = ys } ∷ [] in
    ap made all
    ∙ sym (cond-true (list_any p xs) (record { parent = 0; states = filter p xs } ∷ []) [] some)

-- the starts in their order are those of the states below n that are starts
pub started_names : (n : ℕ) (starts found : List ℕ) → IsStrictlyIncreasing found → ((q : ℕ) → Contains starts q → Contains found q) → ((q : ℕ) → Contains found q → Contains starts q)
    → All (λ s. s < n) starts → found ≡ names_where (has starts) n
started_names n starts found rises keeps adds_none all = kept_of_range (has starts) n found rises
    (λ q there. (
    let start = adds_none q there in
    (All-contains (λ s. s < n) starts q all start, any_from (λ x. x == q) starts q start (eq-eqb q q refl))))
    (λ q less is. (
    let got = any_found (λ x. x == q) starts is in
    keeps q (subst (λ x. Contains starts x) (eqb-true got.0 q got.2) got.1)))

pub started_stored : (found parents places : List ℕ) → IsStrictlyIncreasing found → parents ≡ replicate (min (length found) 1) 0 → places ≡ replicate (length found) 0
    → IsStored parents found places
started_stored found parents places rises one other =
    let made = stored_first found (AllPairs-from_increasing found rises) in
    let first = subst (λ xs. IsStored xs found (zeros found)) (sym (one ∙ parents_are found)) made in
    subst (λ xs. IsStored parents found xs) (sym (other ∙ zeros_are found)) first

pub started_tree : (n : ℕ) (starts found parents places : List ℕ) → found ≡ names_where (has starts) n → parents ≡ replicate (min (length found) 1) 0 → places ≡ replicate (length found) 0
    → nodes_of parents found places ≡ first_tree n starts
started_tree n starts found parents places is one other =
    ap (λ xs. nodes_of xs found places) (one ∙ parents_are found)
    ∙ (ap (nodes_of (first_parents found) found) (other ∙ zeros_are found) ∙ nodes_first (has starts) (range_with_len 0 n) found is)

pub started_below : (n : ℕ) (starts found parents places : List ℕ) → IsStored parents found places → found ≡ names_where (has starts) n → All (λ s. s < n) (root_states (nodes_of parents found places))
started_below n starts found parents places stored is =
    subst (λ xs. All (λ s. s < n) xs) (sym (stored_root parents found places stored ∙ is)) (names_below (has starts) n)

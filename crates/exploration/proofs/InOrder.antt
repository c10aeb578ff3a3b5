-- The edges of an explored system are in the order of the states that they leave.
use Rattle.std.proofs.Common.{◌≡◌, ◌<◌, ◌≤◌, ℕ, AllPairs, List, ap, arith, get_or, inl, inr, length, map}
use Rattle.std.proofs.lemmas.Bool.{cases_lt}
use Rattle.std.proofs.lemmas.List.{get_or-map, length-map}
use Rattle.std.specs.List.Sorted.{IsNonDecreasing}
use Rattle.exploration.proofs.Edges.{ArrowBefore}
use Rattle.exploration.specs.Turns.{Transition}

-- the state that an edge leaves, read from the list of all such states
from_at : (rows : List Transition) (i : ℕ) (e : Transition) (d : ℕ) → i < length rows → get_or (map (λ (a : Transition). a.from) rows) i d ≡ (get_or rows i e).from
from_at rows i e d within = get_or-map (λ (a : Transition). a.from) rows i e d within

none : Transition
none = record { from = 0; class = 0; to = 0 }

before_le : (a b : Transition) → ArrowBefore a b → a.from ≤ b.from
before_le a b (inl less) = omega (arith, less)
before_le a b (inr same) = let e = same.0 in omega (arith, e)

pub froms_rise : (rows : List Transition) → AllPairs ArrowBefore rows → IsNonDecreasing (map (λ (a : Transition). a.from) rows)
froms_rise rows rise i j d order within =
    let size = length-map rows (λ (a : Transition). a.from) in
    let inside : j < length rows = omega (arith, within, size) in
    let first = from_at rows i none d (omega (arith, order, inside)) in
    let second = from_at rows j none d inside in
    elim (cases_lt i j) [
      | inl less ↦ (let le = before_le (get_or rows i none) (get_or rows j none) (rise i j none less inside) in omega (arith, le, first, second))
      | inr more ↦ (
          let same : i ≡ j = omega (arith, order, more) in
          let e : get_or (map (λ (a : Transition). a.from) rows) i d ≡ get_or (map (λ (a : Transition). a.from) rows) j d = ap (λ k. get_or (map (λ (a : Transition). a.from) rows) k d) same in
          omega (arith, e)
          )
    ]

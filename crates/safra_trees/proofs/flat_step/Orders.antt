-- Of the nodes that hold a state the first in the order is its place.
use Rattle.std.proofs.Common.{◌≡◌, ◌∙◌, ◌⊎◌, ◌+◌, ◌-◌, ◌<◌, ◌≤◌, ◌==◌, ◌||◌, ℕ, zero, suc, true, List, ap, arith, inl, inr, length, nat_lt, refl, subst, sym}
use Rattle.std.proofs.lemmas.Bool.{and_from, and_parts, both_ways, cases_Bool, cases_eq, cases_lt, cond-false, cond-true, eq-eqb, le-ltb, lt-ltb, or_right}
use Rattle.safra_trees.proofs.list_step.Forests.{IsForest}
use Rattle.safra_trees.specs.inner.Free.{owner_below, takes}
use Rattle.safra_trees.proofs.list_step.KeptPlaces.{taken_from}
use Rattle.safra_trees.proofs.list_step.Over.{IsLower, over_cases, over_root}
use Rattle.safra_trees.proofs.list_step.Places.{place_leaves, place_takes}
use Rattle.safra_trees.specs.Flat.{at, is_over}
use Rattle.safra_trees.specs.Step.{Forest}
use Rattle.safra_trees.specs.inner.Claims.{key}
use Rattle.safra_trees.specs.inner.Order.{IsOrder}

-- c is the first in the order of the names below k that hold the state, or comes after all names where none does
pub record IsFirst (f : Forest) (order : ℕ → ℕ) (k s c : ℕ) : Type 0 where
  pub from : (c ≡ f.size) ⊎ ((c < k) × (f.holds c s ≡ true))
  pub first : (y : ℕ) → y < k → f.holds y s ≡ true → order c ≤ order y

pub place_first : (f : Forest) → IsForest f → (order : ℕ → ℕ) → IsOrder f.size f.parent order → order f.size ≡ f.size → (s k : ℕ) → k ≤ f.size → IsFirst f order k s (owner_below f k s)
place_first f is order ordered last s zero fit = record { from = inl refl; first = λ y less holds. absurd (omega (arith, less)) }
place_first f is order ordered last s (suc k) fit =
    let before = place_first f is order ordered last s k (omega (arith, fit)) in
    elim (cases_Bool (takes f k s)) [
      | inl took ↦ (
          let now : owner_below f (suc k) s ≡ k = place_takes f k s took in
          let held : f.holds k s ≡ true = (and_parts (f.holds k s) ((k == 0) || (owner_below f k s == f.parent k)) took).0 in
          record {
            from = inr (omega (arith, now), subst (λ w. f.holds w s ≡ true) (sym now) held);
            first = λ y less holds. elim (cases_eq y k) [
              | inl same ↦ (let e : order (owner_below f (suc k) s) ≡ order y = ap order (now ∙ sym same) in omega (arith, e))
              | inr other ↦ (
                  let more : 0 < k = omega (arith, less, other) in
                  let e : order (owner_below f (suc k) s) ≡ order k = ap order now in
                  let up : order (owner_below f k s) ≡ order (f.parent k) = ap order (taken_from f k s took more) in
                  omega (arith, e, up, ordered.over k more (omega (arith, fit)), before.first y (omega (arith, less, other)) holds))
            ];
          })
      | inr left ↦ (
          let now : owner_below f (suc k) s ≡ owner_below f k s = place_leaves f k s left in
          let e : order (owner_below f (suc k) s) ≡ order (owner_below f k s) = ap order now in
          record {
            from = elim before.from [
              | inl none ↦ inl (now ∙ none)
              | inr found ↦ inr (omega (arith, now, found.0), subst (λ w. f.holds w s ≡ true) (sym now) found.1)
            ];
            first = λ y less holds. elim (cases_eq y k) [
              | inl same ↦ (
                  let held : f.holds k s ≡ true = subst (λ w. f.holds w s ≡ true) same holds in
                  let at_y : order y ≡ order k = ap order same in
                  elim (cases_eq k 0) [
                    | inl root ↦ absurd (both_ways (takes f k s) left
                        (and_from (f.holds k s) ((k == 0) || (owner_below f k s == f.parent k)) held (ap (λ b. b || (owner_below f k s == f.parent k)) (eq-eqb k 0 root))))
                    | inr more' ↦ (
                        let more : 0 < k = omega (arith, more') in
                        let low : f.parent k < k = is.lower k more (omega (arith, fit)) in
                        let up : f.holds (f.parent k) s ≡ true = is.inside k s more (omega (arith, fit)) held in
                        let ahead : order (owner_below f k s) ≤ order (f.parent k) = before.first (f.parent k) low up in
                        let bound : order (f.parent k) < f.size = ordered.below (f.parent k) (omega (arith, low, fit)) in
                        elim before.from [
                          | inl none ↦ (let gone : order (owner_below f k s) ≡ order f.size = ap order none in absurd (omega (arith, gone, last, ahead, bound)))
                          | inr found ↦ (elim (cases_eq (owner_below f k s) (f.parent k)) [
                            | inl at ↦ absurd (both_ways (takes f k s) left
                                (and_from (f.holds k s) ((k == 0) || (owner_below f k s == f.parent k)) held
                                (or_right (k == 0) (owner_below f k s == f.parent k) (eq-eqb (owner_below f k s) (f.parent k) at))))
                            | inr away ↦ (elim (cases_eq (order (owner_below f k s)) (order (f.parent k))) [
                              | inl alike ↦ absurd (away (ordered.apart (owner_below f k s) (f.parent k) (omega (arith, found.0, fit)) (omega (arith, low, fit)) alike))
                              | inr less' ↦ omega (arith, e, at_y, ordered.next k (owner_below f k s) (omega (arith, fit)) found.0 (omega (arith, ahead, less')))
                            ])
                          ])
                        ])
                  ])
              | inr other ↦ omega (arith, e, before.first y (omega (arith, less, other)) holds)
            ];
          })
    ]

pub first_alike : (f : Forest) (order : ℕ → ℕ) → IsOrder f.size f.parent order → order f.size ≡ f.size → (s c d : ℕ) → IsFirst f order f.size s c → IsFirst f order f.size s d → c ≡ d
first_alike f order ordered last s c d one other = elim one.from [
  | inl none ↦ (elim other.from [
    | inl also ↦ none ∙ sym also
    | inr found ↦ (let e : order c ≡ order f.size = ap order none in absurd (omega (arith, e, last, one.first d found.0 found.1, ordered.below d found.0)))
  ])
  | inr here ↦ (elim other.from [
    | inl none ↦ (let e : order d ≡ order f.size = ap order none in absurd (omega (arith, e, last, other.first c here.0 here.1, ordered.below c here.0)))
    | inr found ↦ ordered.apart c d here.0 found.0 (omega (arith, one.first d found.0 found.1, other.first c here.0 here.1))
  ])
]

-- the order rises towards the root
order_over_to : (k m : ℕ) (parent order : ℕ → ℕ) → IsLower parent m → IsOrder m parent order → (x z : ℕ) → z ≤ k → z < m → is_over parent x z ≡ true → order z ≤ order x
order_over_to k m parent order lower ordered x zero low less over = let e : order 0 ≡ order x = ap order (over_root parent x over) in omega (arith, e)
order_over_to zero m parent order lower ordered x (suc z) low less over = absurd (omega (arith, low))
order_over_to (suc k) m parent order lower ordered x (suc z) low less over =
    let more : 0 < suc z = omega arith in
    let up : parent (suc z) < suc z = lower (suc z) more less in
    elim (over_cases parent m lower x (suc z) more less over) [
      | inl here ↦ (let e : order (suc z) ≡ order x = ap order here in omega (arith, e))
      | inr over' ↦ omega (arith, ordered.over (suc z) more less, order_over_to k m parent order lower ordered x (parent (suc z)) (omega (arith, up, low)) (omega (arith, up, less)) over')
    ]

pub order_over : (m : ℕ) (parent order : ℕ → ℕ) → IsLower parent m → IsOrder m parent order → (x z : ℕ) → z < m → is_over parent x z ≡ true → order z ≤ order x
order_over m parent order lower ordered x z = order_over_to z m parent order lower ordered x z (omega arith)

-- the order of old and fresh names
pub key_old : (order : List ℕ) (y : ℕ) → y < length order → key order y ≡ suc (at order y + at order y)
key_old order y less = cond-true (nat_lt y (length order)) _ _ (lt-ltb y (length order) less)

pub key_fresh : (order : List ℕ) (y : ℕ) → length order ≤ y → y < length order + length order → key order y ≡ at order (y - length order) + at order (y - length order)
key_fresh order y more less = cond-false (nat_lt y (length order)) _ _ (le-ltb y (length order) more) ∙ cond-true (nat_lt y (length order + length order)) _ _
    (lt-ltb y (length order + length order) less)

pub key_end : (order : List ℕ) → key order (length order + length order) ≡ length order + length order
key_end order = ends (length order + length order) (omega arith) (omega arith)
  where
    ends : (y : ℕ) → length order ≤ y → length order + length order ≤ y → key order y ≡ length order + length order
    ends y more past = cond-false (nat_lt y (length order)) _ _ (le-ltb y (length order) more) ∙ cond-false (nat_lt y (length order + length order)) _ _ (le-ltb y (length order + length order) past)

-- the parents of old and fresh names
pub record IsGrown (m : ℕ) (parent grown : ℕ → ℕ) : Type 0 where
  pub old : (y : ℕ) → y < m → grown y ≡ parent y
  pub fresh : (y : ℕ) → m ≤ y → grown y ≡ y - m

key_apart : (order : List ℕ) (parent : ℕ → ℕ) → IsOrder (length order) parent (at order) → (x y : ℕ) → x < length order + length order → y < length order + length order
    → key order x ≡ key order y → x ≡ y
key_apart order parent ordered x y lx ly same = elim (cases_lt x (length order)) [
  | inl old ↦ (elim (cases_lt y (length order)) [
    | inl also ↦ ordered.apart x y old also (omega (arith, key_old order x old, key_old order y also, same))
    | inr fresh ↦ absurd (omega (arith, key_old order x old, key_fresh order y fresh ly, same))
  ])
  | inr fresh ↦ (elim (cases_lt y (length order)) [
    | inl old ↦ absurd (omega (arith, key_fresh order x fresh lx, key_old order y old, same))
    | inr also ↦ (
        let one : x - length order ≡ y - length order = ordered.apart (x - length order) (y - length order) (omega (arith, lx, fresh)) (omega (arith, ly, also))
        (omega (arith, key_fresh order x fresh lx, key_fresh order y also ly, same)) in
        omega (arith, one, fresh, also))
  ])
]

pub key_order : (order : List ℕ) (parent grown : ℕ → ℕ) → IsLower parent (length order) → IsOrder (length order) parent (at order) → IsGrown (length order) parent grown → IsOrder
    (length order + length order) grown (key order)
key_order order parent grown lower ordered is = record {
  below = λ x less. elim (cases_lt x (length order)) [
    | inl old ↦ omega (arith, key_old order x old, ordered.below x old)
    | inr fresh ↦ omega (arith, key_fresh order x fresh less, ordered.below (x - length order) (omega (arith, less, fresh)))
  ];
  apart = key_apart order parent ordered;
  over = λ y more less. elim (cases_lt y (length order)) [
    | inl old ↦ (
        let up : parent y < y = lower y more old in
        let e : key order (grown y) ≡ key order (parent y) = ap (key order) (is.old y old) in
        omega (arith, e, key_old order y old, key_old order (parent y) (omega (arith, up, old)), ordered.over y more old))
    | inr fresh ↦ (
        let e : key order (grown y) ≡ key order (y - length order) = ap (key order) (is.fresh y fresh) in
        omega (arith, e, key_fresh order y fresh less, key_old order (y - length order) (omega (arith, less, fresh))))
  ];
  next = λ y z less before ahead. elim (cases_lt y (length order)) [
    | inl old ↦ (elim (cases_eq y 0) [
      | inl root ↦ absurd (omega (arith, root, before))
      | inr more' ↦ (
          let more : 0 < y = omega (arith, more') in
          let up : parent y < y = lower y more old in
          let e : key order (grown y) ≡ key order (parent y) = ap (key order) (is.old y old) in
          let z_old : z < length order = omega (arith, before, old) in
          let far : at order z < at order (parent y) = omega (arith, ahead, e, key_old order z z_old, key_old order (parent y) (omega (arith, up, old))) in
          omega (arith, key_old order z z_old, key_old order y old, ordered.next y z old before far))
    ])
    | inr fresh ↦ (
        let e : key order (grown y) ≡ key order (y - length order) = ap (key order) (is.fresh y fresh) in
        let top : key order (y - length order) ≡ suc (at order (y - length order) + at order (y - length order)) = key_old order (y - length order) (omega (arith, less, fresh)) in
        elim (cases_eq (key order z) (key order y)) [
          | inl same ↦ absurd (omega (arith, before, key_apart order parent ordered z y (omega (arith, before, less)) less same))
          | inr away ↦ omega (arith, away, ahead, e, top, key_fresh order y fresh less)
        ])
  ];
}

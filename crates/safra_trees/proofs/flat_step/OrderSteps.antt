-- The loop over names that computes the order of claims, one name at a time.
use Rattle.std.proofs.Common.{◌≡◌, ◌≢◌, ◌∙◌, ◌+◌, ◌<◌, ◌≤◌, ℕ, zero, suc, List, [], ◌∷◌, ◌++◌, ap, arith, inl, inr, length, refl, slice_set, sym, take}
use Rattle.std.proofs.lemmas.Bool.{cases_eq, cases_lt}
use Rattle.std.proofs.lemmas.List.{get_or-set_other, get_or-set_same, get_or_append_left}
use Rattle.std.proofs.Math.Seq.{get_or-append_seam}
use Rattle.safra_trees.specs.Flat.{at}
use Rattle.safra_trees.specs.inner.Order.{IsOrder, IsShifted}

pub shifted_more : (number i v : ℕ) (old now : List ℕ) → i < length now → at now i ≡ at old i → (at old i < number → v ≡ at old i) → (number ≤ at old i → v ≡ at old i + 1)
    → ((z : ℕ) → z < i → IsShifted number (at old) (at now) z) → (z : ℕ) → z < i + 1 → IsShifted number (at old) (at (slice_set now i v)) z
shifted_more number i v old now within same low high done z less = elim (cases_eq z i) [
  | inl here ↦ (
      let new : at (slice_set now i v) z ≡ v = ap (at (slice_set now i v)) here ∙ get_or-set_same now i v 0 within in
      let was : at old z ≡ at old i = ap (at old) here in
      record { low = λ before. omega (arith, new, was, low (omega (arith, was, before))); high = λ from. omega (arith, new, was, high (omega (arith, was, from))) })
  | inr other ↦ (
      let new : at (slice_set now i v) z ≡ at now z = get_or-set_other now i z v 0 other in
      let was = done z (omega (arith, less, other)) in
      record { low = λ before. new ∙ was.low before; high = λ from. new ∙ was.high from })
]

pub shifted_rest : (i v : ℕ) (old now : List ℕ) → ((z : ℕ) → i ≤ z → at now z ≡ at old z) → (z : ℕ) → i + 1 ≤ z → at (slice_set now i v) z ≡ at old z
shifted_rest i v old now rest z more = let other : z ≢ i = λ e. omega (arith, e, more) in get_or-set_other now i z v 0 other ∙ rest z (omega (arith, more))

-- the number of the new name
pub record IsNumber (k : ℕ) (parent order : ℕ → ℕ) (number : ℕ) : Type 0 where
  pub first : k ≡ 0 → number ≡ 0
  pub later : 0 < k → number ≡ order (parent k)

pub push_before : (xs : List ℕ) (k y z : ℕ) → length xs ≡ k → z < k → at (xs ++ y ∷ []) z ≡ at xs z
push_before xs k y z size less = get_or_append_left xs (y ∷ []) 0 z (omega (arith, size, less))

pub push_at : (xs : List ℕ) (k y : ℕ) → length xs ≡ k → at (xs ++ y ∷ []) k ≡ y
push_at xs k y size = ap (at (xs ++ y ∷ [])) (sym size) ∙ get_or-append_seam xs y [] 0

pub order_more : (k number : ℕ) (parent : ℕ → ℕ) (order shifted pushed : List ℕ) → ((y : ℕ) → 0 < y → y < k + 1 → parent y < y) → IsOrder k parent (at order) → length shifted ≡ k
    → ((z : ℕ) → z < k → IsShifted number (at order) (at shifted) z) → pushed ≡ shifted ++ number ∷ [] → IsNumber k parent (at order) number → IsOrder (k + 1) parent (at pushed)
order_more k number parent order shifted pushed lower ordered size moved is numbered = record {
  below = λ x less. elim (cases_eq x k) [
    | inl last ↦ (elim (cases_eq k 0) [
      | inl none ↦ omega (arith, end x last, numbered.first none)
      | inr some ↦ omega (arith, end x last, numbered.later (omega (arith, some)), ordered.below (parent k) (lower k (omega (arith, some)) (omega arith)))
    ])
    | inr other ↦ (let low : x < k = omega (arith, less, other) in omega (arith, front x low, bound x low, ordered.below x low))
  ];
  apart = λ x y lx ly same. elim (cases_eq x k) [
    | inl last ↦ (elim (cases_eq y k) [
      | inl also ↦ last ∙ sym also
      | inr other ↦ (let low : y < k = omega (arith, ly, other) in absurd (gap y low (omega (arith, same, end x last, front y low))))
    ])
    | inr other ↦ (
        let low : x < k = omega (arith, lx, other) in
        elim (cases_eq y k) [
          | inl last ↦ absurd (gap x low (omega (arith, same, end y last, front x low)))
          | inr too ↦ (let down : y < k = omega (arith, ly, too) in ordered.apart x y low down (back x y low down (omega (arith, same, front x low, front y down))))
        ])
  ];
  over = λ y more less. elim (cases_eq y k) [
    | inl last ↦ (
        let up : parent k < k = lower k (omega (arith, more, last)) (omega arith) in
        let e : at pushed (parent y) ≡ at pushed (parent k) = ap (λ v. at pushed (parent v)) last in
        omega (arith, e, end y last, front (parent k) up, (moved (parent k) up).high (omega (arith, numbered.later (omega (arith, more, last)))), numbered.later (omega (arith, more, last))))
    | inr other ↦ (
        let low : y < k = omega (arith, less, other) in
        let up : parent y < y = lower y more less in
        omega (arith, front y low, front (parent y) (omega (arith, up, low)), rises y (parent y) low (omega (arith, up, low)) (ordered.over y more low)))
  ];
  next = λ y z less before ahead. elim (cases_eq y k) [
    | inl last ↦ (
        let z_low : z < k = omega (arith, before, last) in
        let up : parent k < k = lower k (omega (arith, before, last)) (omega arith) in
        let e : at pushed (parent y) ≡ at pushed (parent k) = ap (λ v. at pushed (parent v)) last in
        let top : at shifted (parent k) ≡ number + 1 = omega
        (arith, (moved (parent k) up).high (omega (arith, numbered.later (omega (arith, before, last)))), numbered.later (omega (arith, before, last))) in
        elim (cases_eq (at shifted z) number) [
          | inl same ↦ absurd (gap z z_low same)
          | inr away ↦ omega (arith, away, end y last, front z z_low, front (parent k) up, e, top, ahead)
        ])
    | inr other ↦ (
        let low : y < k = omega (arith, less, other) in
        let z_low : z < k = omega (arith, before, low) in
        let up : parent y < y = lower y (omega (arith, before)) less in
        let was : at order z < at order (parent y) = falls z (parent y) z_low (omega (arith, up, low)) (omega (arith, ahead, front z z_low, front (parent y) (omega (arith, up, low)))) in
        omega (arith, front z z_low, front y low, rises z y z_low low (ordered.next y z low before was)))
  ];
}
  where
    front : (z : ℕ) → z < k → at pushed z ≡ at shifted z
    front z less = ap (λ (xs : List ℕ). at xs z) is ∙ push_before shifted k number z size less

    end : (z : ℕ) → z ≡ k → at pushed z ≡ number
    end z last = ap (at pushed) last ∙ (ap (λ (xs : List ℕ). at xs k) is ∙ push_at shifted k number size)

    bound : (z : ℕ) → z < k → at shifted z ≤ at order z + 1
    bound z less = elim (cases_lt (at order z) number) [
      | inl low ↦ omega (arith, (moved z less).low low)
      | inr high ↦ omega (arith, (moved z less).high high)
    ]

    gap : (z : ℕ) → z < k → at shifted z ≡ number → ⊥
    gap z less same = elim (cases_lt (at order z) number) [
      | inl low ↦ omega (arith, (moved z less).low low, same, low)
      | inr high ↦ omega (arith, (moved z less).high high, same, high)
    ]

    rises : (x y : ℕ) → x < k → y < k → at order x < at order y → at shifted x < at shifted y
    rises x y lx ly less = elim (cases_lt (at order x) number) [
      | inl low ↦ (elim (cases_lt (at order y) number) [
        | inl also ↦ omega (arith, (moved x lx).low low, (moved y ly).low also, less)
        | inr high ↦ omega (arith, (moved x lx).low low, (moved y ly).high high, less)
      ])
      | inr high ↦ omega (arith, (moved x lx).high high, (moved y ly).high (omega (arith, high, less)), less)
    ]

    falls : (x y : ℕ) → x < k → y < k → at shifted x < at shifted y → at order x < at order y
    falls x y lx ly less = elim (cases_lt (at order x) (at order y)) [
      | inl yes' ↦ yes'
      | inr no' ↦ (elim (cases_eq (at order x) (at order y)) [
        | inl same ↦ (let e : at shifted x ≡ at shifted y = ap (at shifted) (ordered.apart x y lx ly same) in absurd (omega (arith, e, less)))
        | inr other ↦ absurd (omega (arith, rises y x ly lx (omega (arith, no', other)), less))
      ])
    ]

    back : (x y : ℕ) → x < k → y < k → at shifted x ≡ at shifted y → at order x ≡ at order y
    back x y lx ly same = elim (cases_lt (at order x) (at order y)) [
      | inl low ↦ absurd (omega (arith, rises x y lx ly low, same))
      | inr no' ↦ (elim (cases_lt (at order y) (at order x)) [
        | inl low ↦ absurd (omega (arith, rises y x ly lx low, same))
        | inr also ↦ omega (arith, no', also)
      ])
    ]

pub take_front : (n : ℕ) (xs ys : List ℕ) → n ≡ length xs → take n (xs ++ ys) ≡ xs
take_front zero [] ys size = refl
take_front zero (x ∷ xs) ys size = absurd (omega (arith, size))
take_front (suc n) [] ys size = absurd (omega (arith, size))
take_front (suc n) (x ∷ xs) ys size = ap (λ zs. x ∷ zs) (take_front n xs ys (omega (arith, size)))

-- Parity min odd on a cycle whose edges have one mark each.
use Rattle.std.proofs.Common.{◌≡◌, ◌∙◌, ◌+◌, ◌%◌, ◌/◌, ◌==◌, ◌||◌, ◌<◌, ℕ, Bool, true, false, List, [], ◌∷◌, Contains, ap, arith, inl, inr, length, map, refl, subst, sym}
use Rattle.std.proofs.lemmas.Bool.{cases_lt, eq-eqb, eqb-true, or_cases, true≢false}
use Rattle.aut_base.proofs.lists.Members.{any_found, any_from, first_there, from_map, there_map}
use Rattle.aut_base.specs.Formula.{met}
use Rattle.aut_base.specs.Marks.{is_in}
use Rattle.acc_forms.proofs.ParityLaw.{met-parity_means, met-parity_says}
use Rattle.acc_forms.specs.Parity.{IsCarried, is_odd, parity_min_odd}
use Rattle.safra_laws.proofs.parity.Least.{lowest_is, lowest_low, lowest_most}
use Rattle.safra_laws.specs.Priorities.{IsOdd, lowest}

-- these marks, each on an edge of its own
abbrev pub single : List ℕ → List (List ℕ)
single ms = map (λ m. m ∷ []) ms

carried_from : (ms : List ℕ) (k : ℕ) → Contains ms k → IsCarried (single ms) k
carried_from ms k there = any_from (is_in k) (single ms) (k ∷ []) (there_map (λ (m : ℕ). m ∷ []) ms k there) (in_one k k refl)
  where
    in_one : (m k : ℕ) → m ≡ k → is_in k (m ∷ []) ≡ true
    in_one m k e = ap (λ (c : Bool). c || false) (eq-eqb m k e)

carried_tells : (ms : List ℕ) (k : ℕ) → IsCarried (single ms) k → Contains ms k
carried_tells ms k carried =
    let found = any_found (is_in k) (single ms) carried in
    let from = from_map (λ (m : ℕ). m ∷ []) ms found.0 found.1 in
    let inside : is_in k (from.0 ∷ []) ≡ true = ap (is_in k) from.2 ∙ found.2 in
    elim (or_cases (from.0 == k) false inside) [
      | inl same ↦ subst (Contains ms) (eqb-true from.0 k same) from.1
      | inr none ↦ absurd (true≢false (sym none))
    ]

odd_is : (x : ℕ) → IsOdd x → is_odd x ≡ true
odd_is x odd = let e = odd.is in let rest : x % 2 ≡ 1 = omega (arith, e) in eq-eqb (x % 2) 1 rest

not_double : (x y : ℕ) → is_odd x ≡ true → x ≡ y + y → ⊥
not_double x y h e = let rest : x % 2 ≡ 1 = eqb-true (x % 2) 1 h in omega (arith, rest, e)

half_of : (x : ℕ) → is_odd x ≡ true → IsOdd x
half_of x h = let rest : x % 2 ≡ 1 = eqb-true (x % 2) 1 h in record { half = x / 2; is = omega (arith, rest) }

pub odd_met : (most : ℕ) (ms : List ℕ) → IsOdd (lowest (most + most) ms) → met (single ms) (parity_min_odd (most + most + 1)) ≡ true
odd_met most ms odd =
    let least = lowest (most + most) ms in
    met-parity_means (single ms) (most + most + 1) (omega arith) (elim (lowest_is (most + most) ms) [
      | inl last ↦ absurd (omega (arith, last, odd.is))
      | inr there ↦ inl (record {
        set = least;
        below = omega (arith, lowest_most (most + most) ms);
        least = record { carried = carried_from ms least there; least = λ k less carried. omega (arith, less, lowest_low (most + most) ms k (carried_tells ms k carried)) };
        odd = odd_is least odd;
      })
    ])

-- some mark is carried, where each is one of the sets
some_carried : (most : ℕ) (ms : List ℕ) → 0 < length ms → ((m : ℕ) → Contains ms m → m < most + most + 1) → ((k : ℕ) → k < most + most + 1 → IsCarried (single ms) k → ⊥) → ⊥
some_carried most [] some high none = omega (arith, some)
some_carried most (m ∷ ms) some high none = none m (high m (first_there m ms)) (carried_from (m ∷ ms) m (first_there m ms))

pub met_odd : (most : ℕ) (ms : List ℕ) → 0 < length ms → ((m : ℕ) → Contains ms m → m < most + most + 1)
    → met (single ms) (parity_min_odd (most + most + 1)) ≡ true → IsOdd (lowest (most + most) ms)
met_odd most ms some high holds = elim (met-parity_says (single ms) (most + most + 1) (omega arith) holds) [
  | inl found ↦ (
      let low = lowest_low (most + most) ms found.set (carried_tells ms found.set found.least.carried) in
      elim (lowest_is (most + most) ms) [
        | inl last ↦ absurd (not_double found.set most found.odd (omega (arith, last, low, found.below)))
        | inr there ↦ (elim (cases_lt (lowest (most + most) ms) found.set) [
          | inl less ↦ absurd (found.least.least (lowest (most + most) ms) less (carried_from ms (lowest (most + most) ms) there))
          | inr more ↦ (let same : found.set ≡ lowest (most + most) ms = omega (arith, low, more) in subst IsOdd same (half_of found.set found.odd))
        ])
      ])
  | inr none ↦ absurd (some_carried most ms some high none.none_carried)
]

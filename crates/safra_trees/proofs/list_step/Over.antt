-- A name and its ancestors.
use Rattle.std.proofs.Common.{◌≡◌, ◌∙◌, ◌⊎◌, ◌<◌, ◌≤◌, ◌==◌, ◌||◌, ℕ, zero, suc, true, false, ◌∷◌, ap, arith, inl, inr, refl, subst, sym}
use Rattle.std.proofs.lemmas.Bool.{eq-eqb, eqb-true, or_cases, or_left, or_right}
use Rattle.safra_trees.proofs.list_step.Forests.{above_same}
use Rattle.safra_trees.specs.Flat.{is_over}
use Rattle.safra_trees.specs.Step.{above}
use Rattle.safra_trees.specs.inner.Names.{has}

abbrev pub IsLower : (ℕ → ℕ) → ℕ → Type 0
IsLower parent size = (y : ℕ) → 0 < y → y < size → parent y < y

pub over_up : (parent : ℕ → ℕ) (size : ℕ) → IsLower parent size → (x z : ℕ) → 0 < z → z < size → is_over parent x z ≡ ((z == x) || is_over parent x (parent z))
over_up parent size lower x zero more less = absurd (omega (arith, more))
over_up parent size lower x (suc y) more less =
    let low : parent (suc y) < suc y = lower (suc y) more less in
    ap (λ ws. (suc y == x) || has (parent (suc y) ∷ ws) x) (above_same parent size lower y (parent (suc y)) (parent (suc y)) (omega (arith, low)) (omega arith) (omega (arith, less, low)))

pub over_self : (parent : ℕ → ℕ) (z : ℕ) → is_over parent z z ≡ true
over_self parent z = or_left (z == z) (has (above parent z z) z) (eq-eqb z z refl)

pub over_cases : (parent : ℕ → ℕ) (size : ℕ) → IsLower parent size → (x z : ℕ) → 0 < z → z < size → is_over parent x z ≡ true → (z ≡ x) ⊎ (is_over parent x (parent z) ≡ true)
over_cases parent size lower x z more less over = elim (or_cases (z == x) (is_over parent x (parent z)) (sym (over_up parent size lower x z more less) ∙ over)) [
  | inl here ↦ inl (eqb-true z x here)
  | inr up ↦ inr up
]

pub over_from : (parent : ℕ → ℕ) (size : ℕ) → IsLower parent size → (x z : ℕ) → 0 < z → z < size → is_over parent x (parent z) ≡ true → is_over parent x z ≡ true
over_from parent size lower x z more less over = over_up parent size lower x z more less ∙ or_right (z == x) (is_over parent x (parent z)) over

-- only the root is over the root
pub over_root : (parent : ℕ → ℕ) (x : ℕ) → is_over parent x 0 ≡ true → 0 ≡ x
over_root parent x over = elim (or_cases (0 == x) false over) [ inl here ↦ eqb-true 0 x here | inr none ↦ absurd (let e : false ≡ true = none in cc) ]

over_low_to : (k : ℕ) (parent : ℕ → ℕ) (size : ℕ) → IsLower parent size → (x z : ℕ) → z ≤ k → z < size → is_over parent x z ≡ true → x ≤ z
over_low_to k parent size lower x zero low less over = omega (arith, over_root parent x over)
over_low_to zero parent size lower x (suc z) low less over = absurd (omega (arith, low))
over_low_to (suc k) parent size lower x (suc z) low less over =
    let more : 0 < suc z = omega arith in
    let up : parent (suc z) < suc z = lower (suc z) more less in
    elim (over_cases parent size lower x (suc z) more less over) [
      | inl here ↦ omega (arith, here)
      | inr over' ↦ omega (arith, up, over_low_to k parent size lower x (parent (suc z)) (omega (arith, up, low)) (omega (arith, up, less)) over')
    ]

pub over_low : (parent : ℕ → ℕ) (size : ℕ) → IsLower parent size → (x z : ℕ) → z < size → is_over parent x z ≡ true → x ≤ z
over_low parent size lower x z = over_low_to z parent size lower x z (omega arith)

over_top_to : (k : ℕ) (parent : ℕ → ℕ) (size : ℕ) → IsLower parent size → (z : ℕ) → z ≤ k → z < size → is_over parent 0 z ≡ true
over_top_to k parent size lower zero low less = over_self parent 0
over_top_to zero parent size lower (suc z) low less = absurd (omega (arith, low))
over_top_to (suc k) parent size lower (suc z) low less =
    let more : 0 < suc z = omega arith in
    let up : parent (suc z) < suc z = lower (suc z) more less in
    over_from parent size lower 0 (suc z) more less (over_top_to k parent size lower (parent (suc z)) (omega (arith, up, low)) (omega (arith, up, less)))

-- the root is over all names
pub over_top : (parent : ℕ → ℕ) (size : ℕ) → IsLower parent size → (z : ℕ) → z < size → is_over parent 0 z ≡ true
over_top parent size lower z = over_top_to z parent size lower z (omega arith)

over_then_to : (k : ℕ) (parent : ℕ → ℕ) (size : ℕ) → IsLower parent size → (x y z : ℕ) → z ≤ k → z < size → is_over parent x y ≡ true → is_over parent y z ≡ true → is_over parent x z ≡ true
over_then_to k parent size lower x y zero low less first second = subst (λ w. is_over parent x w ≡ true) (sym (over_root parent y second)) first
over_then_to zero parent size lower x y (suc z) low less first second = absurd (omega (arith, low))
over_then_to (suc k) parent size lower x y (suc z) low less first second =
    let more : 0 < suc z = omega arith in
    let up : parent (suc z) < suc z = lower (suc z) more less in
    elim (over_cases parent size lower y (suc z) more less second) [
      | inl here ↦ subst (λ w. is_over parent x w ≡ true) (sym here) first
      | inr over ↦ over_from parent size lower x (suc z) more less (over_then_to k parent size lower x y (parent (suc z)) (omega (arith, up, low)) (omega (arith, up, less)) first over)
    ]

pub over_then : (parent : ℕ → ℕ) (size : ℕ) → IsLower parent size → (x y z : ℕ) → z < size → is_over parent x y ≡ true → is_over parent y z ≡ true → is_over parent x z ≡ true
over_then parent size lower x y z = over_then_to z parent size lower x y z (omega arith)

-- the parent of what is over a name is over it too
pub over_parent : (parent : ℕ → ℕ) (size : ℕ) → IsLower parent size → (y z : ℕ) → 0 < y → y < size → z < size → is_over parent y z ≡ true → is_over parent (parent y) z ≡ true
over_parent parent size lower y z more within less over =
    over_then parent size lower (parent y) y z less (over_from parent size lower (parent y) y more within (over_self parent (parent y))) over

over_chain_to : (k : ℕ) (parent : ℕ → ℕ) (size : ℕ) → IsLower parent size → (x y z : ℕ) → z ≤ k → z < size → is_over parent x z ≡ true → is_over parent y z ≡ true → x ≤ y → is_over parent x y ≡ true
over_chain_to k parent size lower x y zero low less first second before =
    subst (λ w. is_over parent x w ≡ true) (over_root parent y second) first
over_chain_to zero parent size lower x y (suc z) low less first second before = absurd (omega (arith, low))
over_chain_to (suc k) parent size lower x y (suc z) low less first second before =
    let more : 0 < suc z = omega arith in
    let up : parent (suc z) < suc z = lower (suc z) more less in
    elim (over_cases parent size lower y (suc z) more less second) [
      | inl here ↦ subst (λ w. is_over parent x w ≡ true) here first
      | inr over ↦ (
          let low_y : y ≤ parent (suc z) = over_low parent size lower y (parent (suc z)) (omega (arith, up, less)) over in
          elim (over_cases parent size lower x (suc z) more less first) [
            | inl same ↦ absurd (omega (arith, same, before, low_y, up))
            | inr also ↦ over_chain_to k parent size lower x y (parent (suc z)) (omega (arith, up, low)) (omega (arith, up, less)) also over before
          ])
    ]

-- of two names over a third the lower one is over the other
pub over_chain : (parent : ℕ → ℕ) (size : ℕ) → IsLower parent size → (x y z : ℕ) → z < size → is_over parent x z ≡ true → is_over parent y z ≡ true → x ≤ y → is_over parent x y ≡ true
over_chain parent size lower x y z = over_chain_to z parent size lower x y z (omega arith)

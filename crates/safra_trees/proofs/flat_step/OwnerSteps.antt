-- The loop over names that computes owners, one name at a time.
use Rattle.std.proofs.Common.{◌≡◌, ◌∙◌, ◌+◌, ◌-◌, ◌<◌, ◌≤◌, ◌==◌, ◌&&◌, ◌||◌, ℕ, Bool, List, [], ◌∷◌, ◌++◌, ap, arith, cond, inl, inr, length, nat_lt, refl, subst, sym}
use Rattle.std.proofs.lemmas.Bool.{cases_eq, cases_lt, cond-false, cond-true, le-ltb, lt-ltb}
use Rattle.safra_trees.proofs.flat_step.OrderSteps.{push_at, push_before}
use Rattle.safra_trees.specs.Flat.{at}
use Rattle.safra_trees.specs.inner.Claims.{grown_parent}
use Rattle.safra_trees.specs.inner.Passes.{AreOwners, flag, is_owner}

-- the owner of x, where that of its parent is v
abbrev home_from : List Bool → (ℕ → ℕ) → ℕ → ℕ → ℕ
home_from own parent x v = cond ((x == 0) || ((v == parent x) && flag own (parent x))) x v

home_pushed : (own : List Bool) (parent : ℕ → ℕ) (owners pushed : List ℕ) (k owner : ℕ) → length owners ≡ k → pushed ≡ owners ++ owner ∷ [] → (x : ℕ) → (0 < x → parent x < k) → (v : ℕ)
    → v ≡ home_from own parent x (at owners (parent x)) → v ≡ home_from own parent x (at pushed (parent x))
home_pushed own parent owners pushed k owner size is x low v before = elim (cases_eq x 0) [
  | inl root ↦ before ∙ (root_home x root (at owners (parent x)) ∙ sym (root_home x root (at pushed (parent x))))
  | inr other ↦ before ∙ ap (home_from own parent x) (sym (ap (λ (xs : List ℕ). at xs (parent x)) is ∙ push_before owners k owner (parent x) size (low (omega (arith, other)))))
]
  where
    root_home : (x : ℕ) → x ≡ 0 → (v : ℕ) → home_from own parent x v ≡ x
    root_home x e v = subst (λ w. home_from own parent w v ≡ w) (sym e) refl

pub homes_more : (own : List Bool) (parent : ℕ → ℕ) (owners pushed : List ℕ) (k owner : ℕ) → length owners ≡ k → pushed ≡ owners ++ owner ∷ [] → ((x : ℕ) → 0 < x → x < k + 1 → parent x < x)
    → AreOwners own parent k owners
    → owner ≡ cond (is_owner own parent owners k) k (at owners (parent k)) → AreOwners own parent (k + 1) pushed
homes_more own parent owners pushed k owner size is lower before here x less = elim (cases_eq x k) [
  | inl last ↦ (
      let now : at pushed k ≡ owner = ap (λ (xs : List ℕ). at xs k) is ∙ push_at owners k owner size in
      subst (λ y. at pushed y ≡ home_from own parent y (at pushed (parent y))) (sym last)
      (now ∙ home_pushed own parent owners pushed k owner size is k (λ more. lower k more (omega arith)) owner here))
  | inr other ↦ (
      let low : x < k = omega (arith, less, other) in
      let now : at pushed x ≡ at owners x = ap (λ (xs : List ℕ). at xs x) is ∙ push_before owners k owner x size low in
      now ∙ home_pushed own parent owners pushed k owner size is x (λ more. omega (arith, lower x more less, low)) (at owners x) (before x low))
]

pub low_more : (owners pushed : List ℕ) (k owner : ℕ) → length owners ≡ k → pushed ≡ owners ++ owner ∷ [] → ((x : ℕ) → x < k → at owners x ≤ x) → owner ≤ k → (x : ℕ) → x < k + 1 → at pushed x ≤ x
low_more owners pushed k owner size is before here x less = elim (cases_eq x k) [
  | inl last ↦ (
      let now : at pushed x ≡ owner = ap (at pushed) last ∙ (ap (λ (xs : List ℕ). at xs k) is ∙ push_at owners k owner size) in
      omega (arith, now, last, here))
  | inr other ↦ (
      let low : x < k = omega (arith, less, other) in
      let now : at pushed x ≡ at owners x = ap (λ (xs : List ℕ). at xs x) is ∙ push_before owners k owner x size low in
      omega (arith, now, before x low))
]

pub grown_lower : (parents : List ℕ) → ((x : ℕ) → 0 < x → x < length parents → at parents x < x) → (x : ℕ) → 0 < x → x < length parents + length parents → grown_parent parents x < x
grown_lower parents lower x more less = elim (cases_lt x (length parents)) [
  | inl old ↦ omega (arith, lower x more old, cond-true (nat_lt x (length parents)) (at parents x) (x - length parents) (lt-ltb x (length parents) old))
  | inr fresh ↦ omega (arith, fresh, less, cond-false (nat_lt x (length parents)) (at parents x) (x - length parents) (le-ltb x (length parents) fresh))
]

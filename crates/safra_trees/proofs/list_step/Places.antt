-- The pass that keeps only the place of each state gives what the definition of the step says.
use Rattle.std.proofs.Common.{◌≡◌, ◌∙◌, ◌⊎◌, ◌+◌, ◌<◌, ◌≤◌, ◌==◌, ◌&&◌, ◌||◌, ℕ, zero, suc, Bool, true, false, not, List, [], ◌∷◌, ap, arith, inl, inr, nat_lt, refl, subst, sym}
use Rattle.std.proofs.lemmas.Bool.{and_from, and_parts, both_ways, cases_Bool, cases_eq, cond-false, cond-true, eq-eqb, eqb-true, ltb-true, lt-ltb, ne_eqb, or_cases, false_from_ne_true}
use Rattle.std.specs.List.{list_any, range_with_len}
use Rattle.safra_trees.proofs.list_step.Forests.{IsForest, none_any}
use Rattle.safra_trees.proofs.list_step.Local.{covered_left, free_more, keeps_local, keeps_root}
use Rattle.aut_base.proofs.lists.Members.{from_range}
use Rattle.safra_trees.specs.inner.Free.{free, given, owner_below, takes}
use Rattle.safra_trees.specs.Step.{Forest, covered, is_child, retains}

pub place_takes : (f : Forest) (y s : ℕ) → takes f y s ≡ true → owner_below f (suc y) s ≡ y
place_takes f y s h = cond-true (takes f y s) y (owner_below f y s) h

pub place_leaves : (f : Forest) (y s : ℕ) → takes f y s ≡ false → owner_below f (suc y) s ≡ owner_below f y s
place_leaves f y s h = cond-false (takes f y s) y (owner_below f y s) h

place_low : (f : Forest) (y s : ℕ) → (owner_below f y s < y) ⊎ (owner_below f y s ≡ f.size)
place_low f zero s = inr refl
place_low f (suc y) s = elim (cases_Bool (takes f y s)) [
  | inl took ↦ inl (omega (arith, place_takes f y s took))
  | inr left ↦ (elim (place_low f y s) [
    | inl low ↦ inl (omega (arith, place_leaves f y s left, low))
    | inr none ↦ inr (place_leaves f y s left ∙ none)
  ])
]

-- for all names x below y: a state is free at x exactly where the pass has it there
abbrev Placed : Forest → ℕ → ℕ → Type 0
Placed f y s = (x : ℕ) → x < y → free f x y s ≡ (owner_below f y s == x)

takes_of : (f : Forest) → IsForest f → (y s : ℕ) → y < f.size → Placed f y s → retains f y s ≡ takes f y s
takes_of f is zero s less before = keeps_root f s ∙ whole (f.holds 0 s) (owner_below f 0 s == f.parent 0)
  where
    whole : (h b : Bool) → h ≡ (h && (true || b))
    whole true b = refl
    whole false b = refl
takes_of f is (suc y) s less before =
    let more : 0 < suc y = omega arith in
    let first : (suc y == 0) ≡ false = ne_eqb (suc y) 0 (λ e. omega (arith, e)) in
    keeps_local f is (suc y) s more less
    ∙ (ap (λ b. f.holds (suc y) s && b) (before (f.parent (suc y)) (is.lower (suc y) more less))
    ∙ ap (λ b. f.holds (suc y) s && (b || (owner_below f (suc y) s == f.parent (suc y)))) (sym first))

none_given : (f : Forest) → IsForest f → (y s : ℕ) → y < f.size → given f y (suc y) s ≡ false
none_given f is y s less = none_any (λ z. is_child f y z && retains f z s) (range_with_len 0 (suc y)) (λ z there. false_from_ne_true (is_child f y z && retains f z s) (λ both. (
    let ones = and_parts (nat_lt 0 z) (f.parent z == y) (and_parts (is_child f y z) (retains f z s) both).0 in
    let more : 0 < z = ltb-true 0 z ones.0 in
    let low : z < suc y = omega (arith, (from_range 0 (suc y) z there).1) in
    let parent : f.parent z ≡ y = eqb-true (f.parent z) y ones.1 in
    omega (arith, low, parent, is.lower z more (omega (arith, low, less))))))

placed_more : (f : Forest) → IsForest f → (y s : ℕ) → y < f.size → Placed f y s → Placed f (suc y) s
placed_more f is y s less before x low = elim (cases_Bool (takes f y s)) [
  | inl took ↦ (
      let kept : retains f y s ≡ true = takes_of f is y s less before ∙ took in
      elim (cases_eq x y) [
        | inl here ↦ subst (λ w. free f w (suc y) s ≡ (owner_below f (suc y) s == w)) (sym here)
            (and_from (retains f y s) (not (given f y (suc y) s)) kept (ap not (none_given f is y s less)) ∙ sym (eq-eqb (owner_below f (suc y) s) y (place_takes f y s took)))
        | inr other ↦ (
            let below : x < y = omega (arith, low, other) in
            let next : suc y ≡ y + 1 = omega arith in
            let gone : (owner_below f (suc y) s == x) ≡ false = ne_eqb (owner_below f (suc y) s) x (λ e. other (sym e ∙ place_takes f y s took)) in
            let at : (y == 0) ≡ true ⊎ (owner_below f y s == f.parent y) ≡ true = or_cases (y == 0) (owner_below f y s == f.parent y)
            (and_parts (f.holds y s) ((y == 0) || (owner_below f y s == f.parent y)) took).1 in
            let up : owner_below f y s ≡ f.parent y = elim at [ inl z ↦ absurd (omega (arith, below, eqb-true y 0 z)) | inr e ↦ eqb-true (owner_below f y s) (f.parent y) e ] in
            ap (λ k. free f x k s) next ∙ (free_more f x y s ∙ (false_from_ne_true (free f x y s && not (is_child f x y && retains f y s)) (λ both. (
            let parts = and_parts (free f x y s) (not (is_child f x y && retains f y s)) both in
            let here : owner_below f y s ≡ x = eqb-true (owner_below f y s) x (sym (before x below) ∙ parts.0) in
            let child : is_child f x y ≡ true = and_from (nat_lt 0 y) (f.parent y == x) (lt-ltb 0 y (omega (arith, below))) (eq-eqb (f.parent y) x (sym up ∙ here)) in
            both_ways (not (is_child f x y && retains f y s)) (ap not (and_from (is_child f x y) (retains f y s) child kept)) parts.1)) ∙ sym gone)))
      ])
  | inr left ↦ (
      let lost : retains f y s ≡ false = takes_of f is y s less before ∙ left in
      elim (cases_eq x y) [
        | inl here ↦ subst (λ w. free f w (suc y) s ≡ (owner_below f (suc y) s == w)) (sym here)
            (ap (λ b. b && not (given f y (suc y) s)) lost
            ∙ sym (ne_eqb (owner_below f (suc y) s) y (λ e. elim (place_low f y s) [
              | inl lower ↦ omega (arith, lower, e, place_leaves f y s left)
              | inr none ↦ omega (arith, none, e, place_leaves f y s left, less)
            ])))
        | inr other ↦ (
            let below : x < y = omega (arith, low, other) in
            let next : suc y ≡ y + 1 = omega arith in
            ap (λ k. free f x k s) next ∙ (free_more f x y s
            ∙ (ap (λ b. free f x y s && not (is_child f x y && b)) lost
            ∙ (whole (free f x y s) (is_child f x y)
            ∙ (before x below ∙ ap (λ p. p == x) (sym (place_leaves f y s left)))))))
      ])
]
  where
    whole : (b c : Bool) → (b && not (c && false)) ≡ b
    whole true true = refl
    whole true false = refl
    whole false c = refl

pub placed : (f : Forest) → IsForest f → (y s : ℕ) → y ≤ f.size → Placed f y s
placed f is zero s less = λ x low. absurd (omega (arith, low))
placed f is (suc y) s less = placed_more f is y s (omega (arith, less)) (placed f is y s (omega (arith, less)))

-- a name keeps what it takes in the pass
pub keeps_takes : (f : Forest) → IsForest f → (y s : ℕ) → y < f.size → retains f y s ≡ takes f y s
keeps_takes f is y s less = takes_of f is y s less (placed f is y s (omega (arith, less)))

pub any_same : (p q : ℕ → Bool) → ((x : ℕ) → p x ≡ q x) → (xs : List ℕ) → list_any p xs ≡ list_any q xs
any_same p q same [] = refl
any_same p q same (x ∷ xs) = ap (λ b. b || list_any p xs) (same x) ∙ ap (λ b. q x || b) (any_same p q same xs)

-- and is covered where the pass leaves no state at it
pub covered_placed : (f : Forest) → IsForest f → (x : ℕ) → x < f.size → covered f x ≡ not (list_any (λ s. owner_below f f.size s == x) (range_with_len 0 f.bound))
covered_placed f is x less = covered_left f x ∙ ap not (any_same (free f x f.size) (λ s. owner_below f f.size s == x) (λ s. placed f is f.size s (omega arith) x less) (range_with_len 0 f.bound))

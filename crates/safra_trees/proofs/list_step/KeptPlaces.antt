-- A node keeps a state exactly where it is the state's place or an ancestor of that.
use Rattle.std.proofs.Common.{◌≡◌, ◌∙◌, ◌<◌, ◌≤◌, ◌==◌, ◌||◌, ℕ, zero, suc, true, arith, inl, inr, subst, sym}
use Rattle.std.proofs.lemmas.Bool.{and_parts, cases_Bool, cases_eq, eqb-true, or_cases}
use Rattle.safra_trees.proofs.list_step.Forests.{IsForest, keeps_up}
use Rattle.safra_trees.specs.inner.Free.{owner_below, takes}
use Rattle.safra_trees.proofs.list_step.Over.{over_cases, over_from, over_root, over_self}
use Rattle.safra_trees.proofs.list_step.Places.{keeps_takes, place_leaves, place_takes}
use Rattle.safra_trees.specs.Flat.{is_over}
use Rattle.safra_trees.specs.Step.{Forest, retains}

-- a name that takes a state is the root, or its parent had it
pub taken_from : (f : Forest) (y s : ℕ) → takes f y s ≡ true → 0 < y → owner_below f y s ≡ f.parent y
taken_from f y s took more = elim (or_cases (y == 0) (owner_below f y s == f.parent y) (and_parts (f.holds y s) ((y == 0) || (owner_below f y s == f.parent y)) took).1) [
  | inl zero' ↦ absurd (omega (arith, more, eqb-true y 0 zero'))
  | inr is ↦ eqb-true (owner_below f y s) (f.parent y) is
]

pub record IsUnder (f : Forest) (y k s : ℕ) : Type 0 where
  pub low : owner_below f k s < k
  pub over : is_over f.parent y (owner_below f k s) ≡ true

under_from : (f : Forest) → IsForest f → (y s k : ℕ) → y < k → k ≤ f.size → retains f y s ≡ true → IsUnder f y k s
under_from f is y s zero less fit kept = absurd (omega (arith, less))
under_from f is y s (suc k) less fit kept = elim (cases_eq y k) [
  | inl same ↦ (
      let took : owner_below f (suc k) s ≡ k = place_takes f k s (sym (keeps_takes f is k s (omega (arith, fit))) ∙ subst (λ w. retains f w s ≡ true) same kept) in
      record { low = omega (arith, took); over = subst (λ w. is_over f.parent y w ≡ true) (same ∙ sym took) (over_self f.parent y) })
  | inr other ↦ (
      let before = under_from f is y s k (omega (arith, less, other)) (omega (arith, fit)) kept in
      elim (cases_Bool (takes f k s)) [
        | inl took ↦ (
            let now : owner_below f (suc k) s ≡ k = place_takes f k s took in
            let more : 0 < k = omega (arith, less, other) in
            record {
              low = omega (arith, now);
              over = subst (λ w. is_over f.parent y w ≡ true) (sym now)
                  (over_from f.parent f.size is.lower y k more (omega (arith, fit)) (subst (λ w. is_over f.parent y w ≡ true) (taken_from f k s took more) before.over));
            })
        | inr left ↦ (
            let now : owner_below f (suc k) s ≡ owner_below f k s = place_leaves f k s left in
            record { low = omega (arith, now, before.low); over = subst (λ w. is_over f.parent y w ≡ true) (sym now) before.over })
      ])
]

pub kept_under : (f : Forest) → IsForest f → (y s : ℕ) → y < f.size → retains f y s ≡ true → IsUnder f y f.size s
kept_under f is y s less kept = under_from f is y s f.size less (omega arith) kept

pub place_keeps : (f : Forest) → IsForest f → (s k : ℕ) → k ≤ f.size → owner_below f k s < f.size → retains f (owner_below f k s) s ≡ true
place_keeps f is s zero fit less = absurd (omega (arith, less))
place_keeps f is s (suc k) fit less = elim (cases_Bool (takes f k s)) [
  | inl took ↦ subst (λ w. retains f w s ≡ true) (sym (place_takes f k s took)) (keeps_takes f is k s (omega (arith, fit)) ∙ took)
  | inr left ↦ (
      let now : owner_below f (suc k) s ≡ owner_below f k s = place_leaves f k s left in
      subst (λ w. retains f w s ≡ true) (sym now) (place_keeps f is s k (omega (arith, fit)) (omega (arith, now, less))))
]

over_kept_to : (k : ℕ) (f : Forest) → IsForest f → (y z s : ℕ) → z ≤ k → z < f.size → is_over f.parent y z ≡ true → retains f z s ≡ true → retains f y s ≡ true
over_kept_to k f is y zero s low less over kept = subst (λ w. retains f w s ≡ true) (over_root f.parent y over) kept
over_kept_to zero f is y (suc z) s low less over kept = absurd (omega (arith, low))
over_kept_to (suc k) f is y (suc z) s low less over kept =
    let more : 0 < suc z = omega arith in
    let up : f.parent (suc z) < suc z = is.lower (suc z) more less in
    elim (over_cases f.parent f.size is.lower y (suc z) more less over) [
      | inl here ↦ subst (λ w. retains f w s ≡ true) here kept
      | inr over' ↦ over_kept_to k f is y (f.parent (suc z)) s (omega (arith, up, low)) (omega (arith, up, less)) over' (keeps_up f is (suc z) s more less kept)
    ]

-- the ancestors of a name that keeps a state keep it too
pub over_kept : (f : Forest) → IsForest f → (y z s : ℕ) → z < f.size → is_over f.parent y z ≡ true → retains f z s ≡ true → retains f y s ≡ true
over_kept f is y z s = over_kept_to z f is y z s (omega arith)

pub under_kept : (f : Forest) → IsForest f → (y s : ℕ) → owner_below f f.size s < f.size → is_over f.parent y (owner_below f f.size s) ≡ true → retains f y s ≡ true
under_kept f is y s less over = over_kept f is y (owner_below f f.size s) s less over (place_keeps f is s f.size (omega arith) less)

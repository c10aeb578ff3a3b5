-- For any property of the numbers below n, it isn't so that there is no list of flags that are set exactly where it holds.
use Rattle.std.proofs.Common.{◌≡◌, ◌∙◌, ◌↔◌, ◌+◌, ◌<◌, ℕ, zero, suc, Bool, true, false, IsTrue, List, [], ◌∷◌, ◌++◌, arith, inl, inr, length, length-append, refl, sym, subst}
use Rattle.std.proofs.lemmas.Bool.{cases_lt, false≢true}
use Rattle.std.proofs.lemmas.List.{get_or_append_left, get_or_push}
use Rattle.aut_ops.specs.Laws.{PrunedExists, TrimmedExists}
use Rattle.aut_ops.specs.Satisfiable.{between, is_flagged}
use Rattle.aut_ops.specs.Pruning.{IsUseful}
use Rattle.aut_ops.specs.Satisfiable.{passable_arcs}
use Rattle.aut_ops.specs.Trimming.{renumbered}
use Rattle.graph_walk.specs.Reach.{ReachedFrom}

module _ (Is : ℕ → Type 0) where
  abbrev AreExact : ℕ → List Bool → Type 0
  AreExact n flags = (length flags ≡ n) × ((q : ℕ) → q < n → IsTrue (is_flagged flags q) ↔ Is q)

  -- another flag
  exact_more : (n : ℕ) (flags : List Bool) (flag : Bool) → AreExact n flags → IsTrue flag ↔ Is n → AreExact (suc n) (flags ++ flag ∷ [])
  exact_more n flags flag are here = (
    (let size : length (flags ++ flag ∷ []) ≡ length flags + 1 = length-append flags (flag ∷ []) in let before = are.0 in omega (arith, size, before)),
    λ q less. elim (cases_lt q n) [
      | inl l ↦ subst (λ (b : Bool). IsTrue b ↔ Is q) (sym (get_or_append_left flags (flag ∷ []) false q (let size = are.0 in omega (arith, l, size)))) (are.1 q l)
      | inr g ↦ (
          let same : n ≡ q = omega (arith, less, g) in
          let size : length flags ≡ q = are.0 ∙ same in
          subst (λ (b : Bool). IsTrue b ↔ Is q) (sym (get_or_push flags flag false q size)) (subst (λ (k : ℕ). IsTrue flag ↔ Is k) same here)
          )
    ],
  )

  pub some_flags : (n : ℕ) → ((flags : List Bool) → AreExact n flags → ⊥) → ⊥
  some_flags zero none = none [] (refl, λ q less. absurd (omega (arith, less)))
  some_flags (suc n) none = some_flags n (λ flags are. no_flag flags are (λ is. set flags are is))
    where
      set : (flags : List Bool) → AreExact n flags → Is n → ⊥
      set flags are is = none (flags ++ true ∷ []) (exact_more n flags true are (λ _. is, λ _. refl))

      no_flag : (flags : List Bool) → AreExact n flags → (Is n → ⊥) → ⊥
      no_flag flags are isnt = none (flags ++ false ∷ []) (exact_more n flags false are (λ e. absurd (false≢true e), λ is. absurd (isnt is)))

pub trimmed_exists : TrimmedExists
trimmed_exists a none = some_flags (λ q. ReachedFrom (passable_arcs a) a.starts q) a.states (λ flags are.
    none (renumbered flags (between flags a)) (record { flags = flags; reached = record { size = are.0; exact = are.1 }; is = refl }))

pub pruned_exists : PrunedExists
pruned_exists a none = some_flags (λ q. IsUseful a q) a.states (λ flags are. none (between flags a) (record { flags = flags; useful = record { size = are.0; exact = are.1 }; is = refl }))

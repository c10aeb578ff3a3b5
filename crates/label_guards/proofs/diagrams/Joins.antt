-- The results of operations, as the diagrams are gone through together.
use Rattle.std.proofs.Common.{◌≡◌, ◌⊎◌, ℕ, ◌<◌, ◌≤◌, min, ◌∙◌, Bool, true, false, if◌then◌else◌, sym, refl, ap, inl, inr, zero, suc, arith}
use Rattle.label_guards.specs.declared.guards.Operation.{Operation}
use Rattle.label_guards.specs.Nodes.{level, IsReducedDiagram, Grows, IsChoice, AreSides}
use Rattle.label_guards.specs.Operations.{joins, IsShort, IsJoin}
use Rattle.label_guards.specs.Store.{Store, HasPlace, outcome}
use Rattle.label_guards.proofs.diagrams.Growth.{has_kept, level_kept, outcome_kept, grows_on}
use Rattle.label_guards.proofs.diagrams.Outcomes.{outcome-false, outcome-true}
use Rattle.label_guards.proofs.diagrams.Reduced.{level_most}

pub join_kept : {old new : Store} → Grows old new → (operation : Operation) (g h place : ℕ) → IsJoin old operation g h place → IsJoin new operation g h place
join_kept {old} {new} grows operation g h place is =
    let a = level_kept grows g is.left in
    let b = level_kept grows h is.right in
    let c = level_kept grows place is.has in
    let d = is.later in
    record {
      left = has_kept grows g is.left;
      right = has_kept grows h is.right;
      has = has_kept grows place is.has;
      later = omega arith;
      truth = λ on. outcome_kept grows on place is.has ∙ (is.truth on ∙ (λ i. joins operation (sym (outcome_kept grows on g is.left) i) (sym (outcome_kept grows on h is.right) i)));
    }

-- a result that needs no look
pub join_short : (s : Store) → IsReducedDiagram s.names s.nodes → (operation : Operation) (g h place : ℕ) → HasPlace s g → HasPlace s h → IsShort operation g h place → IsJoin s operation g h place
join_short s is operation g h place left right short = record {
  left = left;
  right = right;
  has = has short.one_of;
  later = later short.one_of;
  truth = λ on. short.joins (outcome s.nodes on) (outcome-false s.nodes on) (outcome-true s.nodes on);
}
  where
    has : ((place ≡ g) ⊎ (place ≡ h)) ⊎ (place < 2) → HasPlace s place
    has (inl (inl e)) = omega arith
    has (inl (inr e)) = omega arith
    has (inr e) = omega arith

    level_of : (a b : ℕ) → a ≡ b → level s a ≡ level s b
    level_of a b e = ap (level s) e

    terminal : (p : ℕ) → p < 2 → level s p ≡ s.names
    terminal zero h = refl
    terminal (suc zero) h = refl
    terminal (suc (suc p)) h = absurd (omega arith)

    later : ((place ≡ g) ⊎ (place ≡ h)) ⊎ (place < 2) → min (level s g) (level s h) ≤ level s place
    later (inl (inl e)) = let f = level_of place g e in omega arith
    later (inl (inr e)) = let f = level_of place h e in omega arith
    later (inr e) = let f = terminal place e in let m = level_most s is g left in omega arith

-- what is at the sides, joined, lies behind the proposition
pub side_later : {s t u : Store} → Grows s t → Grows t u → (operation : Operation) (prop a b place : ℕ) → HasPlace s a → HasPlace s b → prop < level s a → prop < level s b
    → IsJoin t operation a b place → prop < level u place
side_later {s} {t} {u} first second operation prop a b place has_a has_b later_a later_b is =
    let x = level_kept first a has_a in
    let y = level_kept first b has_b in
    let z = level_kept second place is.has in
    let w = is.later in
    omega arith

-- the results at both sides give the result
pub join_step : {s t u v : Store} → Grows s t → Grows t u → Grows u v → (operation : Operation) (g h prop g_low g_high h_low h_high low high place : ℕ)
    → HasPlace s g → HasPlace s h → prop ≡ min (level s g) (level s h) → AreSides s prop g g_low g_high → AreSides s prop h h_low h_high
    → IsJoin t operation g_low h_low low → IsJoin u operation g_high h_high high → IsChoice v prop low high place → IsJoin v operation g h place
join_step {s} {t} {u} {v} first second third operation g h prop g_low g_high h_low h_high low high place left right least g_sides h_sides low_is high_is choice =
    let a = level_kept all g left in
    let b = level_kept all h right in
    let c = choice.later in
    record {
      left = has_kept all g left;
      right = has_kept all h right;
      has = choice.has;
      later = omega arith;
      truth = λ on. choice.truth on ∙ by_cases on (on prop) refl;
    }
  where
    one : Grows s u
    one = grows_on first second

    all : Grows s v
    all = grows_on one third

    by_cases : (on : ℕ → Bool) (b : Bool) → on prop ≡ b → (if on prop then outcome v.nodes on high else outcome v.nodes on low) ≡ joins operation (outcome v.nodes on g) (outcome v.nodes on h)
    by_cases on true e =
        let a = g_sides.high_bound in
        let b = h_sides.high_bound in
        let g_is : outcome u.nodes on g_high ≡ outcome v.nodes on g = outcome_kept one on g_high (omega arith)
        ∙ sym (outcome_kept all on g left ∙ (g_sides.truth on ∙ ap (λ c. if c then outcome s.nodes on g_high else outcome s.nodes on g_low) e)) in
        let h_is : outcome u.nodes on h_high ≡ outcome v.nodes on h = outcome_kept one on h_high (omega arith)
        ∙ sym (outcome_kept all on h right ∙ (h_sides.truth on ∙ ap (λ c. if c then outcome s.nodes on h_high else outcome s.nodes on h_low) e)) in
        ap (λ c. if c then outcome v.nodes on high else outcome v.nodes on low) e ∙ (outcome_kept third on high high_is.has ∙ (high_is.truth on ∙ (λ i. joins operation (g_is i) (h_is i))))
    by_cases on false e =
        let a = g_sides.low_bound in
        let b = h_sides.low_bound in
        let later = grows_on second third in
        let g_is : outcome t.nodes on g_low ≡ outcome v.nodes on g = outcome_kept first on g_low (omega arith)
        ∙ sym (outcome_kept all on g left ∙ (g_sides.truth on ∙ ap (λ c. if c then outcome s.nodes on g_high else outcome s.nodes on g_low) e)) in
        let h_is : outcome t.nodes on h_low ≡ outcome v.nodes on h = outcome_kept first on h_low (omega arith)
        ∙ sym (outcome_kept all on h right ∙ (h_sides.truth on ∙ ap (λ c. if c then outcome s.nodes on h_high else outcome s.nodes on h_low) e)) in
        ap (λ c. if c then outcome v.nodes on high else outcome v.nodes on low) e ∙ (outcome_kept later on low low_is.has ∙ (low_is.truth on ∙ (λ i. joins operation (g_is i) (h_is i))))

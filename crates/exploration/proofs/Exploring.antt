-- The loop over the states, which expands one after another.
use Rattle.std.proofs.Common.{◌≡◌, ◌∙◌, ◌+◌, ◌-◌, ◌<◌, ◌≤◌, ℕ, Bool, cond, List, Option, Some, ap, arith, inl, inr, leb, length, map, refl, slice_get, subst, sym}
use Rattle.std.proofs.lemmas.Bool.{le-leb, lt-leb}
use Rattle.std.proofs.lemmas.Option.{same_Some, slice_get_past}
use Rattle.exploration.proofs.Spreading.{keeps_then}
use Rattle.exploration.proofs.Turning.{comes_then, comes_turn, turn, turn_take}
use Rattle.exploration.specs.Explorations.{IsFaultMet, IsSound, Spreads, transition_of, rules_of, stage_of}
use Rattle.exploration.specs.TransitionFunctions.{AreClassHandles, KeepsSystem, TransitionFunction}
use Rattle.exploration.specs.Turns.{Comes, Finished, EndsWith, Running, LimitMet, Rules, ExplorationState, begin, turn_taken}
use Rattle.exploration.specs.declared.exploration.Edge.{Edge}
use Rattle.exploration.specs.declared.fault.Fault.{Fault}
use Rattle.exploration.specs.declared.fault.Fault.TheVariants as fault
use Rattle.exploration.specs.declared.limits.Limits.{Limits}

module _ {X C N : Type 0} (told : X → ℕ → N → Type 0) (same : X → X → Bool) (l : Limits) (m : TransitionFunction X) (f : X → Type 0) (is : X → ℕ → C → Type 0) (first : ExplorationState X) where
  abbrev r : Rules X
  r = rules_of same m l

  -- the invariant of the loop over the states
  pub record IsExploring (m' : TransitionFunction X) (f' : X → Type 0) (is' : X → ℕ → C → Type 0) (done total : ℕ) (xs : List X) (es : List (Edge C N)) : Type 0 where
    pub keeps : KeepsSystem m m' f f' is is'
    pub sound : IsSound f' is' told l.states xs es
    pub within : done ≤ length xs
    pub few : total ≤ l.classes
    pub current : Option (X × ℕ)
    pub idle : turn r (stage_of xs es total done current) ≡ turn_taken r (stage_of xs es total done current) (slice_get xs done)
    pub comes : Comes r first (Running (stage_of xs es total done current))

  module _ (m' : TransitionFunction X) (f' : X → Type 0) (is' : X → ℕ → C → Type 0) (done total : ℕ) (xs : List X) (es : List (Edge C N)) (so : IsExploring m' f' is' done total xs es) where
    pub exploring_all : length xs ≤ done → (start : X) → first ≡ begin start → EndsWith r start xs (map transition_of es)
    exploring_all all start begun = record {
      reached = stage_of xs es total done so.current;
      listed = refl;
      made = refl;
      ends = subst (λ (s : ExplorationState X). Comes r s (Finished (stage_of xs es total done so.current))) begun
          (comes_turn r first (stage_of xs es total done so.current) (Finished (stage_of xs es total done so.current)) so.comes
          (so.idle ∙ ap (turn_taken r (stage_of xs es total done so.current)) (slice_get_past xs done all)));
    }

    module _ (x : X) (here : slice_get xs done ≡ Some x) where
      abbrev next : ExplorationState X
      next = stage_of xs es (total + m.count x) (done + 1) (Some (x, 0))

      turn_is : turn r (stage_of xs es total done so.current) ≡ cond (leb (total + m.count x) l.classes) (Running next) (LimitMet fault.Classes)
      turn_is = so.idle ∙ ap (turn_taken r (stage_of xs es total done so.current)) here

      pub exploring_beyond : l.classes - total < m'.count x → IsFaultMet r first fault.Classes
      exploring_beyond many =
          let now : m'.count x ≡ m.count x = ap (λ (w : TransitionFunction X). w.count x) so.keeps.moves in
          inr (comes_turn r first (stage_of xs es total done so.current) (LimitMet fault.Classes) so.comes
          (turn_is ∙ ap (λ (b : Bool). cond b (Running next) (LimitMet fault.Classes)) (lt-leb (total + m.count x) l.classes (omega (arith, many, now, so.few)))))

      taken_is : m'.count x ≤ l.classes - total → Comes r first (Running next)
      taken_is few =
          let now : m'.count x ≡ m.count x = ap (λ (w : TransitionFunction X). w.count x) so.keeps.moves in
          comes_turn r first (stage_of xs es total done so.current) (Running next) so.comes
          (turn_is ∙ ap (λ (b : Bool). cond b (Running next) (LimitMet fault.Classes)) (le-leb (total + m.count x) l.classes (omega (arith, few, now, so.few))))

      module _ (m1 : TransitionFunction X) (f1 : X → Type 0) (is1 : X → ℕ → C → Type 0) (keeps1 : KeepsSystem m' m1 f' f1 is' is1) (few : m'.count x ≤ l.classes - total) where
        pub exploring_met : (g : Fault) → ((y : X) (sum : ℕ) → slice_get xs done ≡ Some y → IsFaultMet (rules_of same m1 l) (stage_of xs es sum (done + 1) (Some (y, 0))) g)
            → IsFaultMet r first g
        exploring_met g met = elim (subst (λ (w : TransitionFunction X). IsFaultMet (rules_of same w l) next g) (keeps1.moves ∙ so.keeps.moves) (met x (total + m.count x) here)) [
          | inl e ↦ inl e
          | inr c ↦ inr (comes_then r first next (LimitMet g) (taken_is few) c)
        ]

        pub exploring_more : (m2 : TransitionFunction X) (f2 : X → Type 0) (is2 : X → ℕ → C → Type 0) (n : ℕ) (xs' : List X) (es' : List (Edge C N)) → KeepsSystem m1 m2 f1 f2 is1 is2 → n ≡ m'.count x
            → Spreads (rules_of same m1 l) done 0 n xs es xs' es' → IsSound f2 is2 told l.states xs' es' → done < length xs → length xs ≤ length xs'
            → IsExploring m2 f2 is2 (done + 1) (total + n) xs' es'
        exploring_more m2 f2 is2 n xs' es' keeps2 size spreads sound inside longer =
            let now : m'.count x ≡ m.count x = ap (λ (w : TransitionFunction X). w.count x) so.keeps.moves in
            let all : n ≡ m.count x = size ∙ now in
            let way = subst (λ (w : TransitionFunction X). Spreads (rules_of same w l) done 0 n xs es xs' es') (keeps1.moves ∙ so.keeps.moves) spreads in
            let led = comes_then r first next (Running (stage_of xs' es' (total + m.count x) (done + 1) (Some (x, n)))) (taken_is few) (way x (total + m.count x) here) in
            record {
              keeps = keeps_then m m' m2 f f' f2 is is' is2 so.keeps (keeps_then m' m1 m2 f' f1 f2 is' is1 is2 keeps1 keeps2);
              sound = sound;
              within = omega (arith, inside, longer);
              few = omega (arith, few, size, so.few);
              current = Some (x, n);
              idle = turn_take r (stage_of xs' es' (total + n) (done + 1) (Some (x, n))) x n (omega (arith, all)) refl;
              comes = subst (λ (s : ℕ). Comes r first (Running (stage_of xs' es' s (done + 1) (Some (x, n))))) (ap (λ (k : ℕ). total + k) (sym all)) led;
            }

-- the handles that a system answered for the state are those of the classes of the state at the index
pub classes_there : {X C : Type 0} (m' m1 : TransitionFunction X) (is1 : X → ℕ → C → Type 0) (xs : List X) (done : ℕ) (x : X) (cs ds : List C) → m1 ≡ m' → slice_get xs done ≡ Some x → ds ≡ cs
    → AreClassHandles (is1 x) (m'.count x) cs → (y : X) → slice_get xs done ≡ Some y → AreClassHandles (is1 y) (m1.count y) ds
classes_there {X = X} {C = C} m' m1 is1 xs done x cs ds keeps here copy are y there =
    let y_is : y ≡ x = same_Some y x (sym there ∙ here) in
    subst (λ (z : X). AreClassHandles (is1 z) (m1.count z) ds) (sym y_is) (subst (λ (w : TransitionFunction X). AreClassHandles (is1 x) (w.count x) ds) (sym keeps)
    (subst (λ (es : List C). AreClassHandles (is1 x) (m'.count x) es) (sym copy) are))

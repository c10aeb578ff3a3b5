-- The loop over the classes of one state, which takes their steps.
use Rattle.std.proofs.Common.{◌≡◌, ◌∙◌, ◌+◌, ◌-◌, ◌<◌, ◌≤◌, ℕ, Bool, true, false, List, [], ◌∷◌, ◌++◌, All, Some, ap, arith, inr, length, map, refl, slice_get, subst, sym}
use Rattle.std.proofs.lemmas.List.{map-append}
use Rattle.std.proofs.lemmas.List.Elements.{All-push}
use Rattle.std.proofs.lemmas.Option.{same_Some}
use Rattle.std.specs.List.{position_or_len}
use Rattle.exploration.proofs.Lists.{Longer, longer_at, longer_back, longer_none, longer_then, new_all, new_longer}
use Rattle.exploration.proofs.Turning.{comes_turn, turn_fails, turn_full, turn_gives, turn_lacks}
use Rattle.exploration.specs.Explorations.{IsClassed, IsFaultMet, IsSound, Spreads, transition_of, rules_of, stage_of}
use Rattle.exploration.specs.TransitionFunctions.{AreClassHandles, StepFailed, Successor, KeepsSystem, NoSuccessor, TransitionFunction}
use Rattle.exploration.specs.Turns.{Transition, Comes, Running, LimitMet, has_room, with_new}
use Rattle.exploration.specs.declared.exploration.Edge.{Edge}
use Rattle.exploration.specs.declared.fault.Fault.{Fault}
use Rattle.exploration.specs.declared.fault.Fault.TheVariants as fault
use Rattle.exploration.specs.declared.limits.Limits.{Limits}

module _ {X C : Type 0} where
  pub keeps_then : (m m' m'' : TransitionFunction X) (f f' f'' : X → Type 0) (is is' is'' : X → ℕ → C → Type 0) → KeepsSystem m m' f f' is is' → KeepsSystem m' m'' f' f'' is' is''
      → KeepsSystem m m'' f f'' is is''
  keeps_then m m' m'' f f' f'' is is' is'' a b = record {
    moves = b.moves ∙ a.moves;
    fits = λ x h. b.fits x (a.fits x h);
    is_class = λ x k c h. b.is_class x k c (a.is_class x k c h);
  }

-- which outputs steps may have never changes
module _ {X C N : Type 0} (told : X → ℕ → N → Type 0) where
  -- edges that are sound stay so after a call of the system, and when the list grows
  classed_kept : (m m' : TransitionFunction X) (f f' : X → Type 0) (is is' : X → ℕ → C → Type 0) → KeepsSystem m m' f f' is is' → (states states' : List X) (edges : List (Edge C N))
      → Longer states states'
      → All (IsClassed is told states) edges → All (IsClassed is' told states') edges
  classed_kept m m' f f' is is' keeps states states' edges longer all k d within =
      let c = all k d within in
      record { state = c.state; at = longer_at states states' _ c.state longer c.at; class = keeps.is_class c.state _ _ c.class; output = c.output }

  pub sound_kept : (m m' : TransitionFunction X) (f f' : X → Type 0) (is is' : X → ℕ → C → Type 0) → KeepsSystem m m' f f' is is' → (most : ℕ) (states : List X) (edges : List (Edge C N))
      → IsSound f is told most states edges → IsSound f' is' told most states edges
  sound_kept m m' f f' is is' keeps most states edges s = record {
    each = λ k d within. keeps.fits _ (s.each k d within);
    few = s.few;
    classed = classed_kept m m' f f' is is' keeps states states edges (longer_none states) s.classed;
  }

  -- the invariant of the loop over the classes
  pub record IsSpread (same : X → X → Bool) (l : Limits) (m m' : TransitionFunction X) (f f' : X → Type 0) (is is' : X → ℕ → C → Type 0) (at k : ℕ) (xs : List X) (es : List (Edge C N)) (xs' : List X)
      (es' : List (Edge C N)) : Type 0 where
    pub keeps : KeepsSystem m m' f f' is is'
    pub sound : IsSound f' is' told l.states xs' es'
    pub longer : Longer xs xs'
    pub spreads : Spreads (rules_of same m l) at 0 k xs es xs' es'

  module _ (same : X → X → Bool) (l : Limits) (m : TransitionFunction X) (f : X → Type 0) (is : X → ℕ → C → Type 0) (at : ℕ) (xs : List X) (es : List (Edge C N)) where
    -- the number is that of a class of the state that was read
    pub number_less : (m' : TransitionFunction X) (f' : X → Type 0) (is' : X → ℕ → C → Type 0) (k : ℕ) (xs' : List X) (es' : List (Edge C N)) (cs : List C) (x : X)
        → IsSpread same l m m' f f' is is' at k xs es xs' es' → at < length xs
        → ((y : X) → slice_get xs at ≡ Some y → AreClassHandles (is y) (m.count y) cs) → slice_get xs' at ≡ Some x → k < length cs → k < m'.count x
    number_less m' f' is' k xs' es' cs x so within classes here less =
        let all : length cs ≡ m.count x = (classes x (longer_back xs xs' at x so.longer within here)).all in
        let now : m'.count x ≡ m.count x = ap (λ (w : TransitionFunction X). w.count x) so.keeps.moves in
        omega (arith, all, now, less)

    -- and the class is its class
    pub class_is : (m' : TransitionFunction X) (f' : X → Type 0) (is' : X → ℕ → C → Type 0) (k : ℕ) (xs' : List X) (es' : List (Edge C N)) (cs : List C) (x : X) (c : C)
        → IsSpread same l m m' f f' is is' at k xs es xs' es' → at < length xs
        → ((y : X) → slice_get xs at ≡ Some y → AreClassHandles (is y) (m.count y) cs) → slice_get xs' at ≡ Some x → slice_get cs k ≡ Some c → is' x k c
    class_is m' f' is' k xs' es' cs x c so within classes here e = so.keeps.is_class x k c ((classes x (longer_back xs xs' at x so.longer within here)).each k c e)

    module _ (m' m'' : TransitionFunction X) (f' f'' : X → Type 0) (is' is'' : X → ℕ → C → Type 0) (k : ℕ) (xs' : List X) (es' : List (Edge C N)) (x : X)
        (so : IsSpread same l m m' f f' is is' at k xs es xs' es') (here : slice_get xs' at ≡ Some x) (less : k < m'.count x) (keeps : KeepsSystem m' m'' f' f'' is' is'') where
      less_first : k < m.count x
      less_first = subst (λ (w : TransitionFunction X). k < w.count x) so.keeps.moves less

      -- the current state is the one that was read
      current_is : (y : X) → slice_get xs at ≡ Some y → y ≡ x
      current_is y e = same_Some y x (sym (longer_at xs xs' at y so.longer e) ∙ here)

      step_first : (v : _) → m'.step x k ≡ v → m.step x k ≡ v
      step_first v e = ap (λ (w : TransitionFunction X). w.step x k) (sym so.keeps.moves) ∙ e

      pub spread_lacks : m'.step x k ≡ NoSuccessor → IsSpread same l m m'' f f'' is is'' at (k + 1) xs es xs' es'
      spread_lacks e = record {
        keeps = keeps_then m m' m'' f f' f'' is is' is'' so.keeps keeps;
        sound = sound_kept m' m'' f' f'' is' is'' keeps l.states xs' es' so.sound;
        longer = so.longer;
        spreads = λ y sum there. subst (λ (z : X). Comes (rules_of same m l) (stage_of xs es sum (at + 1) (Some (z, 0))) (Running (stage_of xs' es' sum (at + 1) (Some (z, k + 1)))))
            (sym (current_is y there))
            (comes_turn (rules_of same m l) _ (stage_of xs' es' sum (at + 1) (Some (x, k))) _ (so.spreads x sum (there ∙ ap Some (current_is y there)))
            (turn_lacks (rules_of same m l) (stage_of xs' es' sum (at + 1) (Some (x, k))) x k less_first refl (step_first NoSuccessor e)));
      }

      met : (g : Fault) → ((sum : ℕ) → slice_get xs at ≡ Some x → Comes (rules_of same m l) (stage_of xs es sum (at + 1) (Some (x, 0))) (LimitMet g)) → (y : X) (sum : ℕ) → slice_get xs at ≡ Some y
          → IsFaultMet (rules_of same m l) (stage_of xs es sum (at + 1) (Some (y, 0))) g
      met g c y sum there = inr (subst (λ (z : X). Comes (rules_of same m l) (stage_of xs es sum (at + 1) (Some (z, 0))) (LimitMet g)) (sym (current_is y there))
          (c sum (there ∙ ap Some (current_is y there))))

      pub spread_fails : m'.step x k ≡ StepFailed → (y : X) (sum : ℕ) → slice_get xs at ≡ Some y → IsFaultMet (rules_of same m l) (stage_of xs es sum (at + 1) (Some (y, 0))) fault.StepFailed
      spread_fails e = met fault.StepFailed (λ sum there. comes_turn (rules_of same m l) _ (stage_of xs' es' sum (at + 1) (Some (x, k))) _ (so.spreads x sum there)
          (turn_fails (rules_of same m l) (stage_of xs' es' sum (at + 1) (Some (x, k))) x k less_first refl (step_first StepFailed e)))

      pub spread_full : (y : X) → m'.step x k ≡ Successor y → has_room same l.states xs' y ≡ false → (z : X) (sum : ℕ) → slice_get xs at ≡ Some z
          → IsFaultMet (rules_of same m l) (stage_of xs es sum (at + 1) (Some (z, 0))) fault.States
      spread_full y e room = met fault.States (λ sum there. comes_turn (rules_of same m l) _ (stage_of xs' es' sum (at + 1) (Some (x, k))) _ (so.spreads x sum there)
          (turn_full (rules_of same m l) (stage_of xs' es' sum (at + 1) (Some (x, k))) x k less_first refl y (step_first (Successor y) e) room))

      pub spread_gives : (y : X) (edge : Edge C N) (xs'' : List X) (es'' : List (Edge C N)) → m'.step x k ≡ Successor y → f'' y → has_room same l.states xs' y ≡ true
          → xs'' ≡ with_new same xs' y → length xs'' ≤ l.states → es'' ≡ es' ++ edge ∷ [] → transition_of edge ≡ record { from = at; class = k; to = position_or_len (same y) xs' }
          → is' x edge.number edge.class → told x edge.number edge.output
          → IsSpread same l m m'' f f'' is is'' at (k + 1) xs es xs'' es''
      spread_gives y edge xs'' es'' e fit room new few more transition class output = record {
        keeps = keeps_then m m' m'' f f' f'' is is' is'' so.keeps keeps;
        sound = record {
          each = subst (All f'') (sym new) (new_all f'' same xs' y (λ i d within. keeps.fits _ (so.sound.each i d within)) fit);
          few = few;
          classed = subst (All (IsClassed is'' told xs'')) (sym more) (All-push (IsClassed is'' told xs'') es' edge
              (classed_kept m' m'' f' f'' is' is'' keeps xs' xs'' es' grows so.sound.classed)
              (record {
                state = x;
                at = longer_at xs' xs'' edge.from x grows (ap (slice_get xs') (ap (λ (a : Transition). a.from) transition) ∙ here);
                class = keeps.is_class x _ _ class;
                output = output;
              }));
        };
        longer = longer_then xs xs' xs'' so.longer grows;
        spreads = λ z sum there. subst (λ (w : X). Comes (rules_of same m l) (stage_of xs es sum (at + 1) (Some (w, 0))) (Running (stage_of xs'' es'' sum (at + 1) (Some (w, k + 1)))))
            (sym (current_is z there))
            (comes_turn (rules_of same m l) _ (stage_of xs' es' sum (at + 1) (Some (x, k))) _ (so.spreads x sum (there ∙ ap Some (current_is z there)))
            (turn_gives (rules_of same m l) (stage_of xs' es' sum (at + 1) (Some (x, k))) x k less_first refl y (step_first (Successor y) e) room ∙ stage_is sum));
      }
        where
          grows : Longer xs' xs''
          grows = let g = new_longer same xs' y in (g.0, new ∙ g.1)

          transitions_are : map transition_of es' ++ record { from = at + 1 - 1; class = k; to = position_or_len (same y) xs' } ∷ [] ≡ map transition_of es''
          transitions_are =
              let back : at + 1 - 1 ≡ at = omega arith in
              ap (λ (n : ℕ). map transition_of es' ++ record { from = n; class = k; to = position_or_len (same y) xs' } ∷ []) back
              ∙ (ap (λ (a : Transition). map transition_of es' ++ a ∷ []) (sym transition) ∙ (sym (map-append transition_of es' (edge ∷ [])) ∙ ap (map transition_of) (sym more)))

          stage_is : (sum : ℕ) → Running (record {
            states = with_new same xs' y;
            sum = sum;
            next = at + 1;
            current = Some (x, k + 1);
            transitions = map transition_of es' ++ record
                { from = at + 1 - 1; class = k; to = position_or_len (same y) xs' } ∷ [];
          }) ≡ Running (stage_of xs'' es'' sum (at + 1) (Some (x, k + 1)))
          stage_is sum = λ i. Running (record { states = sym new i; sum = sum; next = at + 1; current = Some (x, k + 1); transitions = transitions_are i })

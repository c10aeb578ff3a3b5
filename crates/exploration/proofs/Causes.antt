-- Why an exploration meets a limit, and that one that ends keeps within them.
use Rattle.std.proofs.Common.{◌≡◌, ◌∙◌, ◌+◌, ◌<◌, ◌≤◌, ◌||◌, ℕ, zero, suc, Bool, true, false, cond, [], ◌∷◌, None, Option, Some, ap, arith, inl, inr, leb, length, length-append, ltb, refl}
use Rattle.std.proofs.Common.{slice_get, subst, sym}
use Rattle.std.proofs.lemmas.Bool.{leb-false, ltb-false, ltb-true, true≢false}
use Rattle.exploration.proofs.Lists.{new_cases}
use Rattle.exploration.proofs.Midways.{Held, IsHeld, Midway, all_midway, begun, held_gives, meets_ends, meets_goes}
use Rattle.exploration.proofs.Turning.{turn}
use Rattle.exploration.specs.TransitionFunctions.{StepFailed, Successor, NoSuccessor, StepOutcome}
use Rattle.exploration.specs.Explorations.{IsFaultMet}
use Rattle.exploration.specs.Reached.{AreReached, Excess, IsCaused, class_count, class_counts}
use Rattle.exploration.specs.Turns.{Comes, Finished, Running, LimitMet, Rules, ExplorationState, Turn, after_turns, begin, go_on, has_room, stepped, turn_taken, turned, with_new}
use Rattle.exploration.specs.declared.fault.Fault.{Fault}
use Rattle.exploration.specs.declared.fault.Fault.TheVariants as fault

abbrev fault_in : {X : Type 0} → Fault → Turn X → Fault
fault_in d (Running s) = d
fault_in d (Finished s) = d
fault_in d (LimitMet f) = f

module _ {X : Type 0} (r : Rules X) (tells : (a b : X) → r.same a b ≡ true → a ≡ b) (itself : (a : X) → r.same a a ≡ true) (start : X) where
  abbrev meets : Fault → Turn X
  meets f = LimitMet f

  meets_same : (f g : Fault) → meets f ≡ meets g → f ≡ g
  meets_same f g e = ap (fault_in f) e

  taken_met : (s : ExplorationState X) (o : Option X) (f : Fault) → slice_get s.states s.next ≡ o → AreReached r.moves start s.states → s.sum ≡ class_counts r.moves s.states s.next
      → turn_taken r s o ≡ LimitMet f
      → Excess r start f
  taken_met s None f at are total e = absurd (meets_ends f s (sym e))
  taken_met s (Some y) f at are total e = by_cases _ (leb (s.sum + r.moves.count y) r.max_classes) refl e
    where
      by_cases : (g : ExplorationState X) (b : Bool) → leb (s.sum + r.moves.count y) r.max_classes ≡ b → cond b (Running g) (LimitMet fault.Classes) ≡ LimitMet f → Excess r start f
      by_cases g true is e = absurd (meets_goes f g (sym e))
      by_cases g false is e =
          let more : class_counts r.moves s.states (suc s.next) ≡ s.sum + r.moves.count y = ap (λ (o : Option X). class_counts r.moves s.states s.next + class_count r.moves o) at ∙ ap
          (λ (n : ℕ). n + r.moves.count y) (sym total) in
          let over : r.max_classes < s.sum + r.moves.count y = leb-false (s.sum + r.moves.count y) r.max_classes is in
          subst (Excess r start) (meets_same fault.Classes f e) (record { states = s.states; are = are; number = suc s.next; many = omega (arith, more, over) })

  stepped_met : (s : ExplorationState X) (x : X) (k : ℕ) (v : StepOutcome X) (f : Fault) → r.moves.step x k ≡ v → k < r.moves.count x → IsHeld r tells itself start s x k
      → stepped r s x k v ≡ LimitMet f → Excess r start f
  stepped_met s x k (Successor y) f is less h e = by_cases _ (has_room r.same r.max_states s.states y) refl e
    where
      by_cases : (g : ExplorationState X) (b : Bool) → has_room r.same r.max_states s.states y ≡ b → cond b (Running g) (LimitMet fault.States) ≡ LimitMet f → Excess r start f
      by_cases g true room e = absurd (meets_goes f g (sym e))
      by_cases g false room e =
          let next = held_gives r tells itself start s x k y h less is in
          subst (Excess r start) (meets_same fault.States f e) (record {
            states = with_new r.same s.states y;
            are = record { reached = next.reached; once = next.once };
            many = elim (new_cases r.same s.states y) [
              | inl old ↦ absurd (true≢false (sym (ap (λ (c : Bool). c || ltb (length s.states) r.max_states) old.0) ∙ room))
              | inr new ↦ (
                  let full : r.max_states ≤ length s.states = ltb-false (length s.states) r.max_states (sym (ap (λ (c : Bool). c || ltb (length s.states) r.max_states) new.0) ∙ room) in
                  let size : length (with_new r.same s.states y) ≡ length s.states + 1 = ap length new.1 ∙ length-append s.states (y ∷ []) in
                  omega (arith, full, size)
                  )
            ];
          })
  stepped_met s x k NoSuccessor f is less h e = absurd (meets_goes f _ (sym e))
  stepped_met s x k StepFailed f is less h e = subst (Excess r start) (meets_same fault.StepFailed f e) (record { state = x; class = k; reached = h.reached h.place x h.at; less = less; fails = is })

  turned_met : (s : ExplorationState X) (h : Option (X × ℕ)) (f : Fault) → Held r tells itself start s h → turned r s h ≡ LimitMet f → Excess r start f
  turned_met s None f held e = subst FromStart (sym held) (λ e. taken_met (begin start) (Some start) f refl (begun r tells itself start) refl e) e
    where
      FromStart : ExplorationState X → Type 0
      FromStart w = turn_taken r w (slice_get w.states w.next) ≡ LimitMet f → Excess r start f
  turned_met s (Some h) f held e = by_cases (ltb h.1 (r.moves.count h.0)) refl e
    where
      by_cases : (b : Bool) → ltb h.1 (r.moves.count h.0) ≡ b → cond b (stepped r s h.0 h.1 (r.moves.step h.0 h.1)) (turn_taken r s (slice_get s.states s.next)) ≡ LimitMet f → Excess r start f
      by_cases true is e = stepped_met s h.0 h.1 (r.moves.step h.0 h.1) f refl (ltb-true h.1 (r.moves.count h.0) is) held e
      by_cases false is e = taken_met s (slice_get s.states s.next) f refl (record { reached = held.reached; once = held.once }) (held.total ∙ ap (class_counts r.moves s.states) (sym held.next)) e

  meets_at : (n : ℕ) (f : Fault) → after_turns r (begin start) n ≡ LimitMet f → (s : ExplorationState X) × Midway r tells itself start s × (turn r s ≡ LimitMet f)
  meets_at zero f e = absurd (meets_goes f (begin start) (sym e))
  meets_at (suc n) f e = by_cases (after_turns r (begin start) n) refl (meets_at n f) e
    where
      by_cases : (t : Turn X) → after_turns r (begin start) n ≡ t
          → (after_turns r (begin start) n ≡ LimitMet f → (s : ExplorationState X) × Midway r tells itself start s × (turn r s ≡ LimitMet f)) → go_on r t ≡ LimitMet f
          → (s : ExplorationState X) × Midway r tells itself start s × (turn r s ≡ LimitMet f)
      by_cases (Running s) is before e = (s, all_midway r tells itself start n s is, e)
      by_cases (Finished s) is before e = absurd (meets_ends f s (sym e))
      by_cases (LimitMet g) is before e = before (is ∙ e)

  -- a limit that is met has its cause
  pub met : (f : Fault) → Comes r (begin start) (LimitMet f) → Excess r start f
  met f c = let at = meets_at c.turns f c.comes in turned_met at.0 at.0.current f at.1 at.2

  pub caused : (f : Fault) → IsFaultMet r (begin start) f → IsCaused r start f
  caused f m = elim m [
    | inl e ↦ inl e
    | inr c ↦ inr (met f c)
  ]

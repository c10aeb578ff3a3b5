-- Each exploration ends or meets a limit, since a bound on the turns that are left falls with each turn.
use Rattle.std.proofs.Common.{◌≡◌, ◌∙◌, ◌+◌, ◌-◌, ◌<◌, ◌≤◌, ◌||◌, ℕ, zero, suc, Bool, true, false, cond, [], ◌∷◌, ◌++◌, None, Option, Some, ap, arith, inl, inr, leb, length}
use Rattle.std.proofs.Common.{length-append, ltb, refl, slice_get, sym}
use Rattle.std.proofs.lemmas.Bool.{leb-true, ltb-true}
use Rattle.std.proofs.lemmas.Option.{slice_get_within}
use Rattle.std.specs.List.{position_or_len}
use Rattle.exploration.proofs.Lists.{new_cases}
use Rattle.exploration.proofs.Turning.{comes_none, comes_turn, turn}
use Rattle.exploration.specs.TransitionFunctions.{StepFailed, Successor, NoSuccessor, StepOutcome}
use Rattle.exploration.specs.Turns.{Comes, Finished, Running, HasOutcome, HasSomeOutcome, LimitMet, Rules, ExplorationState, Turn, begin, has_end}
use Rattle.exploration.specs.Turns.{has_limit, has_room, stepped, turn_taken, turned, with_new}
use Rattle.exploration.specs.declared.fault.Fault.{Fault}
use Rattle.exploration.specs.declared.fault.Fault.TheVariants as fault

abbrev IsLimit : Fault → Type 0
IsLimit f = f ≡ fault.Memory → ⊥

module _ {X : Type 0} (r : Rules X) where
  -- the number of classes of the current state that are left
  abbrev in_hand : Option (X × ℕ) → ℕ
  in_hand None = 0
  in_hand (Some h) = r.moves.count h.0 - h.1

  -- a bound on the turns that are left
  abbrev still : ExplorationState X → ℕ
  still s = (r.max_classes - s.sum) + in_hand s.current + (r.max_states + 1 - s.next)

  record IsWithin (s : ExplorationState X) : Type 0 where
    few : length s.states ≤ r.max_states + 1
    sum : s.sum ≤ r.max_classes

  -- after a turn the bound is smaller, or a limit was met
  abbrev Onward : ExplorationState X → Turn X → Type 0
  Onward s (Running w) = IsWithin w × (still w < still s)
  Onward s (Finished w) = Unit {0}
  Onward s (LimitMet f) = IsLimit f

  taken_onward : (s : ExplorationState X) (o : Option X) → slice_get s.states s.next ≡ o → IsWithin s → Onward s (turn_taken r s o)
  taken_onward s None at within = tt
  taken_onward s (Some x) at within = by_cases (leb (s.sum + r.moves.count x) r.max_classes) refl
    where
      by_cases : (b : Bool) → leb (s.sum + r.moves.count x) r.max_classes ≡ b
          → Onward s (cond b (Running (record { states = s.states; sum = s.sum + r.moves.count x; next = s.next + 1; current = Some (x, 0); transitions = s.transitions })) (LimitMet fault.Classes))
      by_cases true is =
          let sum : s.sum + r.moves.count x ≤ r.max_classes = leb-true (s.sum + r.moves.count x) r.max_classes is in
          let next : s.next < length s.states = slice_get_within s.states s.next x at in
          let few = within.few in
          (record { few = within.few; sum = sum }, omega (arith, sum, next, few))
      by_cases false is = λ e. cc

  room_few : (s : ExplorationState X) (y : X) → has_room r.same r.max_states s.states y ≡ true → IsWithin s → length (with_new r.same s.states y) ≤ r.max_states + 1
  room_few s y room within = elim (new_cases r.same s.states y) [
    | inl old ↦ (let size : length (with_new r.same s.states y) ≡ length s.states = ap length old.1 in let few = within.few in omega (arith, size, few))
    | inr new ↦ (
        let less : length s.states < r.max_states = ltb-true (length s.states) r.max_states (sym (ap (λ (c : Bool). c || ltb (length s.states) r.max_states) new.0) ∙ room) in
        let size : length (with_new r.same s.states y) ≡ length s.states + 1 = ap length new.1 ∙ length-append s.states (y ∷ []) in
        omega (arith, less, size)
        )
  ]

  -- the bound falls with a class of the current state
  fewer : (s w : ExplorationState X) (x : X) (k : ℕ) → s.current ≡ Some (x, k) → k < r.moves.count x → w.current ≡ Some (x, k + 1) → w.sum ≡ s.sum → w.next ≡ s.next → still w < still s
  fewer s w x k h less h' sum next =
      let a : in_hand s.current ≡ r.moves.count x - k = ap in_hand h in
      let b : in_hand w.current ≡ r.moves.count x - (k + 1) = ap in_hand h' in
      let c : r.max_classes - w.sum ≡ r.max_classes - s.sum = ap (λ (n : ℕ). r.max_classes - n) sum in
      let d : r.max_states + 1 - w.next ≡ r.max_states + 1 - s.next = ap (λ (n : ℕ). r.max_states + 1 - n) next in
      omega (arith, a, b, c, d, less)

  -- the stage after a step with a successor
  abbrev with_gift : ExplorationState X → X → ℕ → X → ExplorationState X
  with_gift s x k y = record {
    states = with_new r.same s.states y;
    sum = s.sum;
    next = s.next;
    current = Some (x, k + 1);
    transitions = s.transitions ++ record { from = s.next - 1; class = k; to = position_or_len (r.same y) s.states } ∷ [];
  }

  stepped_onward : (s : ExplorationState X) (x : X) (k : ℕ) (v : StepOutcome X) → s.current ≡ Some (x, k) → k < r.moves.count x → IsWithin s → Onward s (stepped r s x k v)
  stepped_onward s x k (Successor y) h less within = by_cases (has_room r.same r.max_states s.states y) refl
    where
      by_cases : (b : Bool) → has_room r.same r.max_states s.states y ≡ b → Onward s (cond b (Running (with_gift s x k y)) (LimitMet fault.States))
      by_cases true room = (record { few = room_few s y room within; sum = within.sum }, fewer s (with_gift s x k y) x k h less refl refl refl)
      by_cases false room = λ e. cc
  stepped_onward s x k NoSuccessor h less within = (
    record { few = within.few; sum = within.sum },
    fewer s (record { states = s.states; sum = s.sum; next = s.next; current = Some (x, k + 1); transitions = s.transitions }) x k h less refl refl refl,
  )
  stepped_onward s x k StepFailed h less within = λ e. cc

  turned_onward : (s : ExplorationState X) (o : Option (X × ℕ)) → s.current ≡ o → IsWithin s → Onward s (turned r s o)
  turned_onward s None h within = taken_onward s (slice_get s.states s.next) refl within
  turned_onward s (Some current) h within = by_cases (ltb current.1 (r.moves.count current.0)) refl
    where
      by_cases : (b : Bool) → ltb current.1 (r.moves.count current.0) ≡ b
          → Onward s (cond b (stepped r s current.0 current.1 (r.moves.step current.0 current.1)) (turn_taken r s (slice_get s.states s.next)))
      by_cases true is = stepped_onward s current.0 current.1 (r.moves.step current.0 current.1) h (ltb-true current.1 (r.moves.count current.0) is) within
      by_cases false is = taken_onward s (slice_get s.states s.next) refl within

  turn_onward : (s : ExplorationState X) → IsWithin s → Onward s (turn r s)
  turn_onward s within = turned_onward s s.current refl within

  outcome_from : (n : ℕ) (start : X) (s : ExplorationState X) → still s < n → IsWithin s → Comes r (begin start) (Running s) → HasOutcome r start
  outcome_from zero start s few within comes = absurd (omega (arith, few))
  outcome_from (suc n) start s few within comes = over (turn r s) refl (turn_onward s within) (outcome_from n start)
    where
      over : (t : Turn X) → turn r s ≡ t → Onward s t → ((w : ExplorationState X) → still w < n → IsWithin w → Comes r (begin start) (Running w) → HasOutcome r start) → HasOutcome r start
      over (Running w) is on then = (let less = on.1 in then w (omega (arith, few, less)) on.0 (comes_turn r (begin start) s (Running w) comes is))
      over (Finished w) is on then = has_end w.states w.transitions (record { reached = w; ends = comes_turn r (begin start) s (Finished w) comes is; listed = refl; made = refl })
      over (LimitMet f) is on then = has_limit f on (comes_turn r (begin start) s (LimitMet f) comes is)

pub has_some_outcome : (X : Type 0) → HasSomeOutcome X
has_some_outcome X r start = outcome_from r (suc (still r (begin start))) start (begin start) (omega arith) (record { few = omega arith; sum = omega arith }) (comes_none r (begin start))

-- The outcomes of turns, case by case.
use Rattle.std.proofs.Common.{◌≡◌, ◌∙◌, ◌+◌, ◌-◌, ◌<◌, ◌≤◌, ℕ, zero, suc, Bool, true, false, cond, [], ◌∷◌, ◌++◌, Some, ap, arith, refl, slice_get}
use Rattle.std.proofs.lemmas.Bool.{le-ltb, lt-ltb}
use Rattle.std.specs.List.{position_or_len}
use Rattle.exploration.specs.TransitionFunctions.{StepFailed, Successor, NoSuccessor}
use Rattle.exploration.specs.Turns.{Comes, Running, LimitMet, Rules, ExplorationState, Turn, after_turns, go_on, has_room, stepped, turn_taken, turned, with_new}
use Rattle.exploration.specs.declared.fault.Fault.TheVariants as fault

-- a turn of an exploration that goes on
abbrev pub turn : {X : Type 0} → Rules X → ExplorationState X → Turn X
turn r s = turned r s s.current

pub comes_none : {X : Type 0} (r : Rules X) (s : ExplorationState X) → Comes r s (Running s)
comes_none r s = record { turns = 0; comes = refl }

-- another turn
pub comes_turn : {X : Type 0} (r : Rules X) (s m : ExplorationState X) (t : Turn X) → Comes r s (Running m) → turn r m ≡ t → Comes r s t
comes_turn r s m t c e = record { turns = suc c.turns; comes = ap (go_on r) c.comes ∙ e }

after_then : {X : Type 0} (r : Rules X) (s m : ExplorationState X) (a b : ℕ) → after_turns r s a ≡ Running m → after_turns r s (b + a) ≡ after_turns r m b
after_then r s m a zero e = let n : 0 + a ≡ a = omega arith in ap (after_turns r s) n ∙ e
after_then r s m a (suc b) e = let n : suc b + a ≡ suc (b + a) = omega arith in ap (after_turns r s) n ∙ ap (go_on r) (after_then r s m a b e)

pub comes_then : {X : Type 0} (r : Rules X) (s m : ExplorationState X) (t : Turn X) → Comes r s (Running m) → Comes r m t → Comes r s t
comes_then r s m t c d = record { turns = d.turns + c.turns; comes = after_then r s m c.turns d.turns c.comes ∙ d.comes }

-- the step for the next class of the current state
pub turn_step : {X : Type 0} (r : Rules X) (s : ExplorationState X) (x : X) (k : ℕ) → k < r.moves.count x → s.current ≡ Some (x, k) → turn r s ≡ stepped r s x k (r.moves.step x k)
turn_step r s x k less h = ap (turned r s) h ∙ ap (λ (b : Bool). cond b (stepped r s x k (r.moves.step x k)) (turn_taken r s (slice_get s.states s.next))) (lt-ltb k (r.moves.count x) less)

-- no class is left, so the next state is expanded
pub turn_take : {X : Type 0} (r : Rules X) (s : ExplorationState X) (x : X) (k : ℕ) → r.moves.count x ≤ k → s.current ≡ Some (x, k) → turn r s ≡ turn_taken r s (slice_get s.states s.next)
turn_take r s x k all h = ap (turned r s) h ∙ ap (λ (b : Bool). cond b (stepped r s x k (r.moves.step x k)) (turn_taken r s (slice_get s.states s.next))) (le-ltb k (r.moves.count x) all)

module _ {X : Type 0} (r : Rules X) (s : ExplorationState X) (x : X) (k : ℕ) (less : k < r.moves.count x) (h : s.current ≡ Some (x, k)) where
  pub turn_fails : r.moves.step x k ≡ StepFailed → turn r s ≡ LimitMet fault.StepFailed
  turn_fails e = turn_step r s x k less h ∙ ap (stepped r s x k) e

  pub turn_lacks : r.moves.step x k ≡ NoSuccessor → turn r s ≡ Running (record { states = s.states; sum = s.sum; next = s.next; current = Some (x, k + 1); transitions = s.transitions })
  turn_lacks e = turn_step r s x k less h ∙ ap (stepped r s x k) e

  abbrev given : X → ExplorationState X
  given y = record {
    states = with_new r.same s.states y;
    sum = s.sum;
    next = s.next;
    current = Some (x, k + 1);
    transitions = s.transitions ++ record { from = s.next - 1; class = k; to = position_or_len (r.same y) s.states } ∷ [];
  }

  pub turn_gives : (y : X) → r.moves.step x k ≡ Successor y → has_room r.same r.max_states s.states y ≡ true → turn r s ≡ Running (given y)
  turn_gives y e room = turn_step r s x k less h ∙ (ap (stepped r s x k) e ∙ ap (λ (b : Bool). cond b (Running (given y)) (LimitMet fault.States)) room)

  pub turn_full : (y : X) → r.moves.step x k ≡ Successor y → has_room r.same r.max_states s.states y ≡ false → turn r s ≡ LimitMet fault.States
  turn_full y e room = turn_step r s x k less h ∙ (ap (stepped r s x k) e ∙ ap (λ (b : Bool). cond b (Running (given y)) (LimitMet fault.States)) room)

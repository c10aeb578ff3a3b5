-- An exploration that ends has listed no more states than its limit.
use Rattle.std.proofs.Common.{◌≡◌, ◌∙◌, ◌+◌, ◌<◌, ◌≤◌, ◌||◌, ℕ, zero, suc, Bool, true, false, cond, List, [], ◌∷◌, None, Option, Some, ap, arith, inl}
use Rattle.std.proofs.Common.{inr, length, length-append, leb, ltb, refl, slice_get, subst, sym}
use Rattle.std.proofs.lemmas.Bool.{ltb-true}
use Rattle.exploration.proofs.Lists.{new_cases}
use Rattle.exploration.specs.TransitionFunctions.{StepFailed, Successor, NoSuccessor, StepOutcome}
use Rattle.exploration.specs.Turns.{Transition, Finished, EndsWith, Running, LimitMet, Rules, ExplorationState, Turn, after_turns, begin, go_on, has_room, stepped, turn_taken, turned, with_new}
use Rattle.exploration.specs.declared.fault.Fault.TheVariants as fault

module _ {X : Type 0} (r : Rules X) where
  abbrev Few : Turn X → Type 0
  Few (Running s) = length s.states ≤ r.max_states
  Few (Finished s) = length s.states ≤ r.max_states
  Few (LimitMet f) = Unit {0}

  new_few : (xs : List X) (y : X) → length xs ≤ r.max_states → has_room r.same r.max_states xs y ≡ true → length (with_new r.same xs y) ≤ r.max_states
  new_few xs y few room = elim (new_cases r.same xs y) [
    | inl old ↦ subst (λ (zs : List X). length zs ≤ r.max_states) (sym old.1) few
    | inr new ↦ (
        let less : length xs < r.max_states = ltb-true (length xs) r.max_states (sym (ap (λ b. b || ltb (length xs) r.max_states) new.0) ∙ room) in
        subst (λ (zs : List X). length zs ≤ r.max_states) (sym new.1) (omega (arith, less, length-append xs (y ∷ [])))
        )
  ]

  stepped_few : (s : ExplorationState X) (x : X) (k : ℕ) (m : StepOutcome X) → length s.states ≤ r.max_states → Few (stepped r s x k m)
  stepped_few s x k (Successor y) few = by_cases _ (has_room r.same r.max_states s.states y) (λ room. new_few s.states y few room)
    where
      by_cases : (g : ExplorationState X) (b : Bool) → (b ≡ true → length g.states ≤ r.max_states) → Few (cond b (Running g) (LimitMet fault.States))
      by_cases g true h = h refl
      by_cases g false h = tt
  stepped_few s x k NoSuccessor few = few
  stepped_few s x k StepFailed few = tt

  taken_few : (s : ExplorationState X) (o : Option X) → length s.states ≤ r.max_states → Few (turn_taken r s o)
  taken_few s None few = few
  taken_few s (Some x) few = by_cases _ (leb (s.sum + r.moves.count x) r.max_classes) few
    where
      by_cases : (g : ExplorationState X) (b : Bool) → length g.states ≤ r.max_states → Few (cond b (Running g) (LimitMet fault.Classes))
      by_cases g true h = h
      by_cases g false h = tt

  turned_few : (s : ExplorationState X) (h : Option (X × ℕ)) → length s.states ≤ r.max_states → Few (turned r s h)
  turned_few s None few = taken_few s (slice_get s.states s.next) few
  turned_few s (Some h) few = by_cases _ _ (ltb h.1 (r.moves.count h.0)) (stepped_few s h.0 h.1 (r.moves.step h.0 h.1) few) (taken_few s (slice_get s.states s.next) few)
    where
      by_cases : (t u : Turn X) (b : Bool) → Few t → Few u → Few (cond b t u)
      by_cases t u true one other = one
      by_cases t u false one other = other

  on_few : (t : Turn X) → Few t → Few (go_on r t)
  on_few (Running s) few = turned_few s s.current few
  on_few (Finished s) few = few
  on_few (LimitMet f) few = tt

  after_few : (s : ExplorationState X) → length s.states ≤ r.max_states → (n : ℕ) → Few (after_turns r s n)
  after_few s few zero = few
  after_few s few (suc n) = on_few (after_turns r s n) (after_few s few n)

  pub few_explored : (start : X) (states : List X) (transitions : List Transition) → 1 ≤ r.max_states → EndsWith r start states transitions → length states ≤ r.max_states
  few_explored start states transitions some e =
      subst (λ (xs : List X). length xs ≤ r.max_states) e.listed (subst Few e.ends.comes (after_few (begin start) some e.ends.turns))

-- An exploration that ends has found what is reached, and its outcome is determined.
use Rattle.std.proofs.Common.{◌≡◌, ◌∙◌, ◌+◌, ◌≤◌, ℕ, zero, suc, Bool, true, false, cond, List, [], ◌∷◌, None, Option, Some, ap, arith, inl, inr, leb, length, ltb, refl, slice_get, subst, sym}
use Rattle.std.proofs.lemmas.Bool.{cases_lt, ltb-false}
use Rattle.std.proofs.lemmas.Option.{none-some, same_Some, slice_get-get_or, slice_get_within}
use Rattle.std.specs.List.{AllZip}
use Rattle.exploration.proofs.Midways.{Held, IsHeld, all_midway, ends_goes, ends_same, made, meets_ends, sure_whole, turned_out, whole}
use Rattle.exploration.specs.TransitionFunctions.{StepFailed, Successor, NoSuccessor, StepOutcome}
use Rattle.exploration.specs.Reached.{IsTransition, IsExplored, Step, class_counts, steps_before}
use Rattle.exploration.specs.Turns.{Transition, Comes, EndsWith, Finished, EndsOrMeets, Running, LimitMet, Rules, ExplorationState, Turn, after_turns, begin}
use Rattle.exploration.specs.Turns.{go_on, has_room, stepped, turn_taken, turned, HasOneEnding, HasOneOutcome, HasStopped}
use Rattle.exploration.specs.declared.fault.Fault.TheVariants as fault

module _ {X : Type 0} (r : Rules X) where
  ends_goes_not : (a b : ExplorationState X) → Running a ≡ Finished b → ⊥
  ends_goes_not a b e = ends_goes b a (sym e)

  taken_ends : (s s' : ExplorationState X) (o : Option X) → turn_taken r s o ≡ Finished s' → (s ≡ s') × (o ≡ None)
  taken_ends s s' None e = (ends_same s s' e, refl)
  taken_ends s s' (Some y) e = by_cases (leb (s.sum + r.moves.count y) r.max_classes) e
    where
      by_cases : (b : Bool) → cond b (Running (record { states = s.states; sum = s.sum + r.moves.count y; next = s.next + 1; current = Some (y, 0); transitions = s.transitions }))
          (LimitMet fault.Classes) ≡ Finished s'
          → (s ≡ s') × (Some y ≡ None)
      by_cases true e = absurd (ends_goes_not _ s' e)
      by_cases false e = absurd (meets_ends fault.Classes s' e)

  stepped_ends : (s s' : ExplorationState X) (x : X) (k : ℕ) (v : StepOutcome X) → stepped r s x k v ≡ Finished s' → ⊥
  stepped_ends s s' x k (Successor y) e = by_cases _ (has_room r.same r.max_states s.states y) e
    where
      by_cases : (g : ExplorationState X) (b : Bool) → cond b (Running g) (LimitMet fault.States) ≡ Finished s' → ⊥
      by_cases g true e = ends_goes_not g s' e
      by_cases g false e = meets_ends fault.States s' e
  stepped_ends s s' x k NoSuccessor e = ends_goes_not _ s' e
  stepped_ends s s' x k StepFailed e = meets_ends fault.StepFailed s' e

  turned_ends : (s s' : ExplorationState X) (h : Option (X × ℕ)) → turned r s h ≡ Finished s' → (s ≡ s') × (slice_get s.states s.next ≡ None) × ((g : X × ℕ) → h ≡ Some g → r.moves.count g.0 ≤ g.1)
  turned_ends s s' None e = let t = taken_ends s s' (slice_get s.states s.next) e in (t.0, t.1, λ g is. absurd (none-some g is))
  turned_ends s s' (Some h) e = by_cases (ltb h.1 (r.moves.count h.0)) refl e
    where
      by_cases : (b : Bool) → ltb h.1 (r.moves.count h.0) ≡ b → cond b (stepped r s h.0 h.1 (r.moves.step h.0 h.1)) (turn_taken r s (slice_get s.states s.next)) ≡ Finished s'
          → (s ≡ s') × (slice_get s.states s.next ≡ None) × ((g : X × ℕ) → Some h ≡ Some g → r.moves.count g.0 ≤ g.1)
      by_cases true is e = absurd (stepped_ends s s' h.0 h.1 (r.moves.step h.0 h.1) e)
      by_cases false is e =
          let t = taken_ends s s' (slice_get s.states s.next) e in
          (t.0, t.1, λ g same. subst (λ (p : X × ℕ). r.moves.count p.0 ≤ p.1) (same_Some h g same) (ltb-false h.1 (r.moves.count h.0) is))

  abbrev pub Was : ExplorationState X → ExplorationState X → Type 0
  Was s w = (a : ℕ) × (after_turns r s a ≡ Running w) × (slice_get w.states w.next ≡ None) × ((h : X × ℕ) → w.current ≡ Some h → r.moves.count h.0 ≤ h.1)

  -- the exploration comes by its turns to the stage at which it ends
  pub ends_from : (s : ExplorationState X) (n : ℕ) (s' : ExplorationState X) → after_turns r s n ≡ Finished s' → Was s s'
  ends_from s zero s' e = absurd (ends_goes_not s s' e)
  ends_from s (suc n) s' e = by_cases (after_turns r s n) refl (ends_from s n) e
    where
      by_cases : (t : Turn X) → after_turns r s n ≡ t → ((w : ExplorationState X) → after_turns r s n ≡ Finished w → Was s w) → go_on r t ≡ Finished s' → Was s s'
      by_cases (Running s0) is before e = let t = turned_ends s0 s' s0.current e in subst (Was s) t.0 (n, is, t.1, t.2)
      by_cases (Finished s0) is before e = before s' (is ∙ e)
      by_cases (LimitMet f) is before e = absurd (meets_ends f s' e)

  -- an outcome that further turns don't change is the outcome of any number of further turns
  pub stays : (s : ExplorationState X) (t : Turn X) (a : ℕ) → go_on r t ≡ t → after_turns r s a ≡ t → (b : ℕ) → after_turns r s (b + a) ≡ t
  stays s t a halts e zero = let n : 0 + a ≡ a = omega arith in ap (after_turns r s) n ∙ e
  stays s t a halts e (suc b) = let n : suc b + a ≡ suc (b + a) = omega arith in ap (after_turns r s) n ∙ (ap (go_on r) (stays s t a halts e b) ∙ halts)

  -- the outcome is determined
  pub one_outcome : (s : ExplorationState X) (t u : Turn X) → go_on r t ≡ t → go_on r u ≡ u → Comes r s t → Comes r s u → t ≡ u
  one_outcome s t u ht hu c d =
      let n : d.turns + c.turns ≡ c.turns + d.turns = omega arith in
      sym (stays s t c.turns ht c.comes d.turns) ∙ (ap (after_turns r s) n ∙ stays s u d.turns hu d.comes c.turns)

over_halts : {X : Type 0} (r : Rules X) (t : Turn X) → HasStopped t → go_on r t ≡ t
over_halts r (Running s) over = absurd over
over_halts r (Finished s) over = refl
over_halts r (LimitMet f) over = refl

pub has_one_outcome : (X : Type 0) → HasOneOutcome X
has_one_outcome X r s t u ot ou = one_outcome r s t u (over_halts r t ot) (over_halts r u ou)

abbrev states_in : {X : Type 0} → Turn X → List X
states_in (Running s) = s.states
states_in (Finished s) = s.states
states_in (LimitMet f) = []

abbrev transitions_in : {X : Type 0} → Turn X → List Transition
transitions_in (Running s) = s.transitions
transitions_in (Finished s) = s.transitions
transitions_in (LimitMet f) = []

pub has_one_ending : (X : Type 0) → HasOneEnding X
has_one_ending X r start states others transitions more a b =
    let e = has_one_outcome X r (begin start) _ _ tt tt a.ends b.ends in
    (sym a.listed ∙ (ap states_in e ∙ b.listed), sym a.made ∙ (ap transitions_in e ∙ b.made))

pub ends_or_meets : (X : Type 0) → EndsOrMeets X
ends_or_meets X r start states transitions f a m = meets_ends f _ (has_one_outcome X r (begin start) _ _ tt tt m a.ends)

module _ {X : Type 0} (r : Rules X) (tells : (a b : X) → r.same a b ≡ true → a ≡ b) (itself : (a : X) → r.same a a ≡ true) (start : X) where
  past : (s : ExplorationState X) (x : X) (k : ℕ) (h : IsHeld r tells itself start s x k) → slice_get s.states s.next ≡ None → suc h.place ≡ length s.states
  past s x k h none = elim (cases_lt (suc h.place) (length s.states)) [
    | inl l ↦ absurd (none-some _ (sym none ∙ (ap (slice_get s.states) h.next ∙ slice_get-get_or s.states (suc h.place) x l)))
    | inr g ↦ omega (arith, g, slice_get_within s.states h.place x h.at)
  ]

  explored_held : (s : ExplorationState X) (x : X) (k : ℕ) → IsHeld r tells itself start s x k → r.moves.count x ≤ k → slice_get s.states s.next ≡ None
      → IsExplored r.same r.moves start s.states s.transitions
  explored_held s x k h all none =
      let within = slice_get_within s.states h.place x h.at in
      let size : suc h.place ≡ length s.states = past s x k h none in
      let done : made r tells itself start s.states h.place x k ≡ steps_before r.moves s.states (length s.states) = whole r tells itself start s x k h all ∙ ap (steps_before r.moves s.states) size in
      record {
        first = h.first;
        in_turn = h.in_turn ∙ ap (turned_out r tells itself start) done;
        reached = h.reached;
        once = h.once;
        sure = λ i j y at less. sure_whole r tells itself start s x k h all i j y at (omega (arith, size, slice_get_within s.states i y at)) less;
        edges = subst (λ (ts : List (Step X)). AllZip (IsTransition s.states) s.transitions ts) done h.edges;
      }

  explored_hand : (s : ExplorationState X) (o : Option (X × ℕ)) → Held r tells itself start s o → slice_get s.states s.next ≡ None → ((h : X × ℕ) → o ≡ Some h → r.moves.count h.0 ≤ h.1)
      → IsExplored r.same r.moves start s.states s.transitions
  explored_hand s None held none all =
      let no : slice_get (start ∷ []) 0 ≡ None = subst (λ (w : ExplorationState X). slice_get w.states w.next ≡ None) held none in
      absurd (none-some start (sym no))
  explored_hand s (Some h) held none all = explored_held s h.0 h.1 held (all h refl) none

  pub explored : (s : ExplorationState X) → Comes r (begin start) (Finished s) → IsExplored r.same r.moves start s.states s.transitions
  explored s c =
      let last = ends_from r (begin start) c.turns s c.comes in
      explored_hand s s.current (all_midway r tells itself start last.0 s last.1) last.2 last.3

  pub explored_ends : (states : List X) (transitions : List Transition) → EndsWith r start states transitions → IsExplored r.same r.moves start states transitions
  explored_ends states transitions e =
      subst (λ (xs : List X). IsExplored r.same r.moves start xs transitions) e.listed
      (subst (λ (ts : List Transition). IsExplored r.same r.moves start e.reached.states ts) e.made (explored e.reached e.ends))

  -- all states together have no more classes than the limit
  within_hand : (s : ExplorationState X) (o : Option (X × ℕ)) → Held r tells itself start s o → slice_get s.states s.next ≡ None → class_counts r.moves s.states (length s.states) ≤ r.max_classes
  within_hand s None held none =
      let no : slice_get (start ∷ []) 0 ≡ None = subst (λ (w : ExplorationState X). slice_get w.states w.next ≡ None) held none in
      absurd (none-some start (sym no))
  within_hand s (Some h) held none =
      let sum : s.sum ≡ class_counts r.moves s.states (length s.states) = held.total ∙ ap (class_counts r.moves s.states) (past s h.0 h.1 held none) in
      omega (arith, sum, held.within)

  pub explored_within : (s : ExplorationState X) → Comes r (begin start) (Finished s) → class_counts r.moves s.states (length s.states) ≤ r.max_classes
  explored_within s c =
      let last = ends_from r (begin start) c.turns s c.comes in
      within_hand s s.current (all_midway r tells itself start last.0 s last.1) last.2

  pub ends_within : (states : List X) (transitions : List Transition) → EndsWith r start states transitions → class_counts r.moves states (length states) ≤ r.max_classes
  ends_within states transitions e = subst (λ (xs : List X). class_counts r.moves xs (length xs) ≤ r.max_classes) e.listed (explored_within e.reached e.ends)

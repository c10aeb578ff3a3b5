-- The invariant of an exploration, turn by turn.
use Rattle.std.proofs.Common.{◌≡◌, ◌≢◌, ◌∙◌, ◌+◌, ◌-◌, ◌<◌, ◌≤◌, ℕ, zero, suc, Bool, true, false, cond, List, [], ◌∷◌, ◌++◌, None, Option, Some, ap, append_assoc, arith, fold, inl, inr, leb}
use Rattle.std.proofs.Common.{length, ltb, map, refl, slice_get, subst, sym}
use Rattle.std.proofs.lemmas.Bool.{cases_lt, leb-true, ltb-false, ltb-true}
use Rattle.std.proofs.lemmas.List.{append-nil, map-append}
use Rattle.std.proofs.lemmas.List.Sums.{fold-append}
use Rattle.std.proofs.lemmas.Option.{none-some, same_Some, slice_get_within}
use Rattle.std.specs.List.{AllZip, position_or_len}
use Rattle.aut_base.proofs.lists.ListTests.{zip_append}
use Rattle.aut_base.proofs.lists.Lists.{slice_get-append_left}
use Rattle.exploration.proofs.Lists.{Longer, longer_at, longer_back, new_longer}
use Rattle.exploration.proofs.Places.{new_at, new_once, new_place}
use Rattle.exploration.proofs.Turning.{turn}
use Rattle.exploration.specs.TransitionFunctions.{StepFailed, Successor, NoSuccessor, StepOutcome, TransitionFunction}
use Rattle.exploration.specs.Reached.{AreReached, IsTransition, IsReached, LeadsTo, Step, class_count, class_counts, step_to, steps_before, steps_below, steps_of}
use Rattle.exploration.specs.Turns.{Finished, Running, LimitMet, Rules, ExplorationState, Turn, after_turns, begin, go_on, has_room, stepped, turn_taken, turned, with_new}
use Rattle.exploration.specs.declared.fault.Fault.{Fault}
use Rattle.exploration.specs.declared.fault.Fault.TheVariants as fault

all_zip_mono : {A B : Type 0} (R S : A → B → Type 0) → ((a : A) (b : B) → R a b → S a b) → (xs : List A) (ys : List B) → AllZip R xs ys → AllZip S xs ys
all_zip_mono R S h [] [] all = tt
all_zip_mono R S h [] (y ∷ ys) all = absurd all
all_zip_mono R S h (x ∷ xs) [] all = absurd all
all_zip_mono R S h (x ∷ xs) (y ∷ ys) all = (h x y all.0, all_zip_mono R S h xs ys all.1)

leads_on : {X : Type 0} (m : TransitionFunction X) (x y z : X) (ks : List ℕ) (k : ℕ) → LeadsTo m x ks y → k < m.count y → m.step y k ≡ Successor z → LeadsTo m x (ks ++ k ∷ []) z
leads_on m x y z [] k leads less gives = (subst (λ w. k < m.count w) (sym leads) less, z, ap (λ w. m.step w k) leads ∙ gives, refl)
leads_on m x y z (j ∷ ks) k leads less gives = (leads.0, leads.1, leads.2, leads_on m leads.1 y z ks k leads.3 less gives)

reached_next : {X : Type 0} (m : TransitionFunction X) (start y z : X) (k : ℕ) → IsReached m start y → k < m.count y → m.step y k ≡ Successor z → IsReached m start z
reached_next m start y z k r less gives = record { word = r.word ++ k ∷ []; leads = leads_on m start y z r.word k r.leads less gives }

-- the steps before a place don't change while the list grows
before_kept : {X : Type 0} (m : TransitionFunction X) (xs rest : List X) (p : ℕ) → p ≤ length xs → steps_before m (xs ++ rest) p ≡ steps_before m xs p
before_kept m xs rest zero within = refl
before_kept m xs rest (suc p) within =
    ap (λ (l : List _). l ++ steps_of m p (slice_get (xs ++ rest) p)) (before_kept m xs rest p (omega (arith, within)))
    ∙ ap (λ (o : Option _). steps_before m xs p ++ steps_of m p o) (slice_get-append_left xs rest p (omega (arith, within)))

counts_kept : {X : Type 0} (m : TransitionFunction X) (xs rest : List X) (p : ℕ) → p ≤ length xs → class_counts m (xs ++ rest) p ≡ class_counts m xs p
counts_kept m xs rest zero within = refl
counts_kept m xs rest (suc p) within =
    ap (λ (n : ℕ). n + class_count m (slice_get (xs ++ rest) p)) (counts_kept m xs rest p (omega (arith, within)))
    ∙ ap (λ (o : Option _). class_counts m xs p + class_count m o) (slice_get-append_left xs rest p (omega (arith, within)))

-- turns

abbrev turn_kind : {X : Type 0} → Turn X → ℕ
turn_kind (Running s) = 0
turn_kind (Finished s) = 1
turn_kind (LimitMet f) = 2

abbrev stage_in : {X : Type 0} → ExplorationState X → Turn X → ExplorationState X
stage_in d (Running s) = s
stage_in d (Finished s) = s
stage_in d (LimitMet f) = d

pub goes_same : {X : Type 0} (a b : ExplorationState X) → Running a ≡ Running b → a ≡ b
goes_same a b e = ap (stage_in a) e

pub ends_same : {X : Type 0} (a b : ExplorationState X) → Finished a ≡ Finished b → a ≡ b
ends_same a b e = ap (stage_in a) e

pub ends_goes : {X : Type 0} (a b : ExplorationState X) → Finished a ≡ Running b → ⊥
ends_goes a b e = let n : 1 ≡ 0 = ap turn_kind e in absurd (omega (arith, n))

pub meets_goes : {X : Type 0} (f : Fault) (b : ExplorationState X) → LimitMet f ≡ Running b → ⊥
meets_goes f b e = let n : 2 ≡ 0 = ap turn_kind e in absurd (omega (arith, n))

pub meets_ends : {X : Type 0} (f : Fault) (b : ExplorationState X) → LimitMet f ≡ Finished b → ⊥
meets_ends f b e = let n : 2 ≡ 1 = ap turn_kind e in absurd (omega (arith, n))

abbrev move_kind : {X : Type 0} → StepOutcome X → ℕ
move_kind (Successor y) = 0
move_kind NoSuccessor = 1
move_kind StepFailed = 2

module _ {X : Type 0} (r : Rules X) (tells : (a b : X) → r.same a b ≡ true → a ≡ b) (itself : (a : X) → r.same a a ≡ true) (start : X) where
  abbrev m : TransitionFunction X
  m = r.moves

  abbrev pub made : List X → ℕ → X → ℕ → List (Step X)
  made states place x k = steps_before m states place ++ steps_below m place x k

  abbrev pub turned_out : List (Step X) → List X
  turned_out ts = fold (with_new r.same) (start ∷ []) (map (λ t. t.to) ts)

  -- the invariant with a current state, the steps for whose classes before k were taken
  pub record IsHeld (s : ExplorationState X) (x : X) (k : ℕ) : Type 0 where
    pub place : ℕ
    pub next : s.next ≡ suc place
    pub at : slice_get s.states place ≡ Some x
    pub few : k ≤ m.count x
    pub total : s.sum ≡ class_counts m s.states (suc place)
    pub within : s.sum ≤ r.max_classes
    pub first : slice_get s.states 0 ≡ Some start
    pub in_turn : s.states ≡ turned_out (made s.states place x k)
    pub reached : (i : ℕ) (y : X) → slice_get s.states i ≡ Some y → IsReached m start y
    pub once : (i j : ℕ) (y : X) → slice_get s.states i ≡ Some y → slice_get s.states j ≡ Some y → i ≡ j
    pub sure : (i j : ℕ) (y : X) → slice_get s.states i ≡ Some y → i < place → j < m.count y → m.step y j ≢ StepFailed
    pub sure_hand : (j : ℕ) → j < k → m.step x j ≢ StepFailed
    pub edges : AllZip (IsTransition s.states) s.transitions (made s.states place x k)

  abbrev pub Held : ExplorationState X → Option (X × ℕ) → Type 0
  Held s None = s ≡ begin start
  Held s (Some h) = IsHeld s h.0 h.1

  abbrev pub Midway : ExplorationState X → Type 0
  Midway s = Held s s.current

  made_up_to_next : (states : List X) (place : ℕ) (x : X) (k : ℕ) (v : StepOutcome X) → m.step x k ≡ v → made states place x (k + 1) ≡ made states place x k ++ step_to place k v
  made_up_to_next states place x k v e =
      let n : k + 1 ≡ suc k = omega arith in
      ap (λ (j : ℕ). steps_before m states place ++ steps_below m place x j) n
      ∙ (ap (λ (w : StepOutcome X). steps_before m states place ++ (steps_below m place x k ++ step_to place k w)) e
      ∙ sym (append_assoc (steps_before m states place) (steps_below m place x k) (step_to place k v)))

  sure_more : (x : X) (k : ℕ) (v : StepOutcome X) → m.step x k ≡ v → v ≢ StepFailed → ((j : ℕ) → j < k → m.step x j ≢ StepFailed) → (j : ℕ) → j < k + 1 → m.step x j ≢ StepFailed
  sure_more x k v e fine before j less fails = elim (cases_lt j k) [
    | inl l ↦ before j l fails
    | inr g ↦ (let n : k ≡ j = omega (arith, less, g) in fine (sym e ∙ (ap (m.step x) n ∙ fails)))
  ]

  abbrev lacks : StepOutcome X
  lacks = NoSuccessor

  lacks_fails : lacks ≡ StepFailed → ⊥
  lacks_fails e = let n : 1 ≡ 2 = ap move_kind e in absurd (omega (arith, n))

  gives_fails : (y : X) → Successor y ≡ StepFailed → ⊥
  gives_fails y e = let n : 0 ≡ 2 = ap move_kind e in absurd (omega (arith, n))

  pub held_lacks : (s : ExplorationState X) (x : X) (k : ℕ) → IsHeld s x k → k < m.count x → m.step x k ≡ NoSuccessor
      → IsHeld (record { states = s.states; sum = s.sum; next = s.next; current = Some (x, k + 1); transitions = s.transitions }) x (k + 1)
  held_lacks s x k h less e =
      let same_made : made s.states h.place x (k + 1) ≡ made s.states h.place x k = made_up_to_next s.states h.place x k NoSuccessor e ∙ append-nil (made s.states h.place x k) in
      record {
        place = h.place;
        next = h.next;
        at = h.at;
        few = omega (arith, less);
        total = h.total;
        within = h.within;
        first = h.first;
        in_turn = h.in_turn ∙ ap turned_out (sym same_made);
        reached = h.reached;
        once = h.once;
        sure = h.sure;
        sure_hand = sure_more x k NoSuccessor e lacks_fails h.sure_hand;
        edges = subst (λ (ts : List (Step X)). AllZip (IsTransition s.states) s.transitions ts) (sym same_made) h.edges;
      }

  abbrev given : ExplorationState X → X → ℕ → X → ExplorationState X
  given s x k y = record {
    states = with_new r.same s.states y;
    sum = s.sum;
    next = s.next;
    current = Some (x, k + 1);
    transitions = s.transitions ++ record { from = s.next - 1; class = k; to = position_or_len (r.same y) s.states } ∷ [];
  }

  pub held_gives : (s : ExplorationState X) (x : X) (k : ℕ) (y : X) → IsHeld s x k → k < m.count x → m.step x k ≡ Successor y → IsHeld (given s x k y) x (k + 1)
  held_gives s x k y h less e =
      let within = slice_get_within s.states h.place x h.at in
      let xs' = with_new r.same s.states y in
      let grows : Longer s.states xs' = new_longer r.same s.states y in
      let step : Step X = record { from = h.place; class = k; to = y } in
      let kept : steps_before m xs' h.place ≡ steps_before m s.states h.place = ap (λ (l : List X). steps_before m l h.place) grows.1 ∙ before_kept m s.states grows.0 h.place
      (omega (arith, within)) in
      let more : made xs' h.place x (k + 1) ≡ made s.states h.place x k ++ step ∷ [] = ap (λ (ts : List (Step X)). ts ++ steps_below m h.place x (k + 1)) kept ∙ made_up_to_next s.states h.place x k
      (Successor y) e in
      let out : turned_out (made s.states h.place x k ++ step ∷ []) ≡ with_new r.same (turned_out (made s.states h.place x k)) y =
      ap (fold (with_new r.same) (start ∷ [])) (map-append (λ (t : Step X). t.to) (made s.states h.place x k) (step ∷ [])) ∙ fold-append (with_new r.same) (start ∷ [])
      (map (λ (t : Step X). t.to) (made s.states h.place x k)) (y ∷ []) in
      let back : s.next - 1 ≡ h.place = omega (arith, h.next) in
      record {
        place = h.place;
        next = h.next;
        at = longer_at s.states xs' h.place x grows h.at;
        few = omega (arith, less);
        total = h.total ∙ sym (ap (λ (l : List X). class_counts m l (suc h.place)) grows.1 ∙ counts_kept m s.states grows.0 (suc h.place) (omega (arith, within)));
        within = h.within;
        first = longer_at s.states xs' 0 start grows h.first;
        in_turn = ap (λ (l : List X). with_new r.same l y) h.in_turn ∙ (sym out ∙ ap turned_out (sym more));
        reached = λ i z at. elim (new_at r.same tells itself s.states y i z at) [
          | inl old ↦ h.reached i z old
          | inr new ↦ subst (IsReached m start) new.1 (reached_next m start x y k (h.reached h.place x h.at) less e)
        ];
        once = new_once r.same tells itself s.states y h.once;
        sure = λ i j z at small. h.sure i j z (longer_back s.states xs' i z grows (omega (arith, small, within)) at) small;
        sure_hand = sure_more x k (Successor y) e (gives_fails y) h.sure_hand;
        edges = subst (λ (ts : List (Step X)). AllZip (IsTransition xs') (given s x k y).transitions ts) (sym more)
            (zip_append (IsTransition xs') s.transitions ((record { from = s.next - 1; class = k; to = position_or_len (r.same y) s.states }) ∷ []) (made s.states h.place x k) (step ∷ [])
            (all_zip_mono (IsTransition s.states) (IsTransition xs') (λ a t is. record { from = is.from; class = is.class; to = longer_at s.states xs' a.to t.to grows is.to }) s.transitions
            (made s.states h.place x k) h.edges)
            (record { from = back; class = refl; to = new_place r.same tells itself s.states y }, tt));
      }

  -- once the steps for all classes of the current state were taken
  pub whole : (s : ExplorationState X) (x : X) (k : ℕ) → (h : IsHeld s x k) → m.count x ≤ k → made s.states h.place x k ≡ steps_before m s.states (suc h.place)
  whole s x k h all =
      let n : k ≡ m.count x = omega (arith, h.few, all) in
      ap (λ (j : ℕ). steps_before m s.states h.place ++ steps_below m h.place x j) n ∙ ap (λ (o : Option X). steps_before m s.states h.place ++ steps_of m h.place o) (sym h.at)

  pub sure_whole : (s : ExplorationState X) (x : X) (k : ℕ) → (h : IsHeld s x k) → m.count x ≤ k → (i j : ℕ) (y : X) → slice_get s.states i ≡ Some y → i < suc h.place → j < m.count y
      → m.step y j ≢ StepFailed
  sure_whole s x k h all i j y at small less = elim (cases_lt i h.place) [
    | inl l ↦ h.sure i j y at l less
    | inr g ↦ (
        let n : h.place ≡ i = omega (arith, small, g) in
        let x_is : x ≡ y = same_Some x y (sym h.at ∙ (ap (slice_get s.states) n ∙ at)) in
        subst (λ (z : X). m.step z j ≢ StepFailed) x_is (h.sure_hand j (omega (arith, subst (λ (z : X). j < m.count z) (sym x_is) less, all)))
        )
  ]

  pub held_taken : (s : ExplorationState X) (x : X) (k : ℕ) (y : X) (total : ℕ) → (h : IsHeld s x k) → m.count x ≤ k → slice_get s.states s.next ≡ Some y → total ≡ s.sum + m.count y
      → total ≤ r.max_classes
      → IsHeld (record { states = s.states; sum = total; next = s.next + 1; current = Some (y, 0); transitions = s.transitions }) y 0
  held_taken s x k y total h all at sum few =
      let done : made s.states h.place x k ≡ made s.states (suc h.place) y 0 = whole s x k h all ∙ sym (append-nil (steps_before m s.states (suc h.place))) in
      record {
        place = suc h.place;
        next = omega (arith, h.next);
        at = ap (slice_get s.states) (sym h.next) ∙ at;
        few = omega arith;
        total = sum ∙ (ap (λ (n : ℕ). n + m.count y) h.total ∙ ap (λ (o : Option X). class_counts m s.states (suc h.place) + class_count m o) (sym (ap (slice_get s.states) (sym h.next) ∙ at)));
        within = few;
        first = h.first;
        in_turn = h.in_turn ∙ ap turned_out done;
        reached = h.reached;
        once = h.once;
        sure = sure_whole s x k h all;
        sure_hand = λ j less. absurd (omega (arith, less));
        edges = subst (λ (ts : List (Step X)). AllZip (IsTransition s.states) s.transitions ts) done h.edges;
      }

  -- at first the start alone is reached
  pub begun : AreReached m start (start ∷ [])
  begun = record {
    reached = alone (IsReached m start) (record { word = []; leads = refl });
    once = λ i j y a b. alone_at i y a ∙ sym (alone_at j y b);
  }
    where
      alone_at : (i : ℕ) (y : X) → slice_get (start ∷ []) i ≡ Some y → i ≡ 0
      alone_at zero y at = refl
      alone_at (suc i) y at = absurd (none-some y at)

      alone : (P : X → Type 0) → P start → (i : ℕ) (y : X) → slice_get (start ∷ []) i ≡ Some y → P y
      alone P p zero y at = subst P (same_Some start y at) p
      alone P p (suc i) y at = absurd (none-some y at)

  pub held_first : (total : ℕ) → total ≡ 0 + m.count start → total ≤ r.max_classes
      → IsHeld (record { states = start ∷ []; sum = total; next = 0 + 1; current = Some (start, 0); transitions = [] }) start 0
  held_first total sum few = record {
    place = 0;
    next = omega arith;
    at = refl;
    few = omega arith;
    total = sum;
    within = few;
    first = refl;
    in_turn = refl;
    reached = begun.reached;
    once = begun.once;
    sure = λ i j y at small. absurd (omega (arith, small));
    sure_hand = λ j less. absurd (omega (arith, less));
    edges = tt;
  }

  -- from stage to stage

  taken_midway : (s s' : ExplorationState X) (o : Option X) → slice_get s.states s.next ≡ o → ((y : X) → o ≡ Some y → (total : ℕ) → total ≡ s.sum + m.count y → total ≤ r.max_classes
      → IsHeld (record { states = s.states; sum = total; next = s.next + 1; current = Some (y, 0); transitions = s.transitions }) y 0) → turn_taken r s o ≡ Running s' → Midway s'
  taken_midway s s' None at held e = absurd (ends_goes s s' e)
  taken_midway s s' (Some y) at held e = by_cases (leb (s.sum + m.count y) r.max_classes) refl e
    where
      by_cases : (b : Bool) → leb (s.sum + m.count y) r.max_classes ≡ b → cond b (Running (record
          { states = s.states; sum = s.sum + m.count y; next = s.next + 1; current = Some (y, 0); transitions = s.transitions })) (LimitMet fault.Classes) ≡ Running s' → Midway s'
      by_cases true is e = subst Midway (goes_same _ s' e) (held y refl (s.sum + m.count y) refl (leb-true (s.sum + m.count y) r.max_classes is))
      by_cases false is e = absurd (meets_goes fault.Classes s' e)

  stepped_midway : (s s' : ExplorationState X) (x : X) (k : ℕ) (v : StepOutcome X) → m.step x k ≡ v → k < m.count x → IsHeld s x k → stepped r s x k v ≡ Running s' → Midway s'
  stepped_midway s s' x k (Successor y) is less h e = by_cases (has_room r.same r.max_states s.states y) e
    where
      by_cases : (b : Bool) → cond b (Running (given s x k y)) (LimitMet fault.States) ≡ Running s' → Midway s'
      by_cases true e = subst Midway (goes_same _ s' e) (held_gives s x k y h less is)
      by_cases false e = absurd (meets_goes fault.States s' e)
  stepped_midway s s' x k NoSuccessor is less h e = subst Midway (goes_same _ s' e) (held_lacks s x k h less is)
  stepped_midway s s' x k StepFailed is less h e = absurd (meets_goes fault.StepFailed s' e)

  turned_midway : (s s' : ExplorationState X) (h : Option (X × ℕ)) → Held s h → turned r s h ≡ Running s' → Midway s'
  turned_midway s s' None held e =
      taken_midway (begin start) s' (Some start) refl
      (λ y is total sum few. subst (λ (z : X). IsHeld (record { states = start ∷ []; sum = total; next = 0 + 1; current = Some (z, 0); transitions = [] }) z 0) (same_Some start y is)
      (held_first total (sum ∙ ap (λ (z : X). 0 + m.count z) (sym (same_Some start y is))) few))
      (subst (λ (w : ExplorationState X). turn_taken r w (slice_get w.states w.next) ≡ Running s') held e)
  turned_midway s s' (Some h) held e = by_cases (ltb h.1 (m.count h.0)) refl e
    where
      by_cases : (b : Bool) → ltb h.1 (m.count h.0) ≡ b → cond b (stepped r s h.0 h.1 (m.step h.0 h.1)) (turn_taken r s (slice_get s.states s.next)) ≡ Running s' → Midway s'
      by_cases true is e = stepped_midway s s' h.0 h.1 (m.step h.0 h.1) refl (ltb-true h.1 (m.count h.0) is) held e
      by_cases false is e = taken_midway s s' (slice_get s.states s.next) refl (λ y at total sum few. held_taken s h.0 h.1 y total held (ltb-false h.1 (m.count h.0) is) at sum few) e

  pub turn_midway : (s s' : ExplorationState X) → Midway s → turn r s ≡ Running s' → Midway s'
  turn_midway s s' mid e = turned_midway s s' s.current mid e

  pub all_midway : (n : ℕ) (s : ExplorationState X) → after_turns r (begin start) n ≡ Running s → Midway s
  all_midway zero s e = subst Midway (goes_same (begin start) s e) refl
  all_midway (suc n) s e = by_cases (after_turns r (begin start) n) (all_midway n) e
    where
      by_cases : (t : Turn X) → ((s0 : ExplorationState X) → t ≡ Running s0 → Midway s0) → go_on r t ≡ Running s → Midway s
      by_cases (Running s0) before e = turn_midway s0 s (before s0 refl) e
      by_cases (Finished s0) before e = absurd (ends_goes s0 s e)
      by_cases (LimitMet f) before e = absurd (meets_goes f s e)

-- The states of nodes in the depth-first search, as a node is entered or a component is closed.
use Rattle.std.proofs.Common.{◌≡◌, ◌∙◌, ◌≢◌, ℕ, ◌+◌, ◌<◌, ◌≤◌, ◌⊎◌, inl, inr, ⊎_elim, List, [], ◌∷◌, ◌++◌, length, set, take, refl, sym, ap, subst}
use Rattle.std.proofs.Common.{arith, get_or-set_same, get_or-set_other, length-set, get_or-take, length-take}
use Rattle.std.proofs.lemmas.Bool.{cases_lt, cases_eq}
use Rattle.std.proofs.lemmas.List.{get_or_past, length_push}
use Rattle.std.proofs.lemmas.List.Sums.{sum_by-set}
use Rattle.graph_walk.specs.Walk.{IsWalk, Reaches}
use Rattle.graph_walk.specs.declared.pass.Frame.{Frame}
use Rattle.graph_walk.specs.declared.pass.Mark.{Mark}
use Rattle.graph_walk.specs.declared.pass.Mark.TheVariants.{Fresh, Open, Closed}
use Rattle.graph_walk.specs.inner.Chains.{head, tail}
use Rattle.graph_walk.specs.inner.Frames.{IsClosedOrAbove, IsOpenNode}
use Rattle.graph_walk.specs.inner.Marks.{node_mark, component_number, IsInComponent, IsClosed, one_if_fresh, fresh_count, AreNumbered, AreConsistent, ClosesFrom}
use Rattle.graph_walk.specs.inner.Places.{At}
use Rattle.graph_walk.proofs.Marked.{at_kept, at_end, at_cases, at_same}
use Rattle.graph_walk.proofs.WalkLemmas.{placed, reach_then}

-- the index of an open node, and 0 of any other
abbrev place_of : Mark → ℕ
place_of Fresh = 0
place_of (Open place) = place
place_of (Closed number) = 0

pub mark_set : (marks : List Mark) (w : ℕ) (m : Mark) → w < length marks → node_mark (set marks w m) w ≡ m
mark_set marks w m within = get_or-set_same marks w m Fresh within

pub mark_elsewhere : (marks : List Mark) (w x : ℕ) (m : Mark) → x ≢ w → node_mark (set marks w m) x ≡ node_mark marks x
mark_elsewhere marks w x m other = get_or-set_other marks w x m Fresh other

-- a node that is not fresh is one of the graph
pub mark_within : (marks : List Mark) (x : ℕ) → (node_mark marks x ≡ Fresh → ⊥) → x < length marks
mark_within marks x other =
    ⊎_elim (λ (lt : x < length marks). lt)
    (λ (le : length marks ≤ x). absurd (other (get_or_past marks x Fresh le)))
    (cases_lt x (length marks))

-- there is one fresh node less when a fresh node is entered
pub fresh_less : (marks : List Mark) (w : ℕ) (m : Mark) → w < length marks → node_mark marks w ≡ Fresh → one_if_fresh m ≡ 0 → fresh_count (set marks w m) + 1 ≡ fresh_count marks
fresh_less marks w m within is none =
    omega (arith, sum_by-set one_if_fresh marks w m Fresh within, ap one_if_fresh is, none)

pub fresh_no_more : (marks : List Mark) (w : ℕ) (m : Mark) → w < length marks → one_if_fresh m ≡ 0 → fresh_count (set marks w m) ≤ fresh_count marks
fresh_no_more marks w m within none = omega (arith, sum_by-set one_if_fresh marks w m Fresh within, none)

-- the closed components stay as they are where the same nodes have the same numbers
numbered_same : (arcs : List (ℕ × ℕ)) (old new : ℕ → ℕ → Type 0) (count : ℕ) → ((x n : ℕ) → old x n → new x n) → ((x n : ℕ) → new x n → old x n) → AreNumbered arcs old count
    → AreNumbered arcs new count
numbered_same arcs old new count there back h = record {
  below = λ x n is. h.below x n (back x n is);
  stays = λ x n place is within leaves. let next = h.stays x n place (back x n is) within leaves in (next.0, there (head arcs place) next.0 next.1);
  same = λ x y m n one other. h.same x y m n (back x m one) (back y n other);
  all = λ n below. let found = h.all n below in (found.0, there found.0 n found.1);
}

-- a fresh node becomes the last open one
module _ (arcs : List (ℕ × ℕ)) (marks : List Mark) (order : List ℕ) (count w : ℕ) (keeps : AreConsistent arcs marks order count) (within : w < length marks) (fresh : node_mark marks w ≡ Fresh) where
  others : (x : ℕ) → x ≢ w → node_mark (set marks w (Open (length order))) x ≡ node_mark marks x
  others x other = mark_elsewhere marks w x (Open (length order)) other

  pub numbered_kept : (x n : ℕ) → IsInComponent marks x n → IsInComponent (set marks w (Open (length order))) x n
  numbered_kept x n is = ⊎_elim (λ (same : x ≡ w). let e = ap (node_mark marks) same ∙ fresh in cc) (λ (other : x ≢ w). others x other ∙ is) (cases_eq x w)

  numbered_before : (x n : ℕ) → IsInComponent (set marks w (Open (length order))) x n → IsInComponent marks x n
  numbered_before x n is =
      ⊎_elim (λ (same : x ≡ w). let e = ap (node_mark (set marks w (Open (length order)))) same ∙ mark_set marks w (Open (length order)) within in cc)
      (λ (other : x ≢ w). sym (others x other) ∙ is)
      (cases_eq x w)

  pub keeps_enters : AreConsistent arcs (set marks w (Open (length order))) (order ++ w ∷ []) count
  keeps_enters = record {
    stands = λ x i is.
        ⊎_elim (λ (same : x ≡ w).
        let now = ap (node_mark (set marks w (Open (length order)))) same ∙ mark_set marks w (Open (length order)) within in
        let at : i ≡ length order = ap place_of (sym is ∙ now) in
        rw (at, same) (at_end order w))
        (λ (other : x ≢ w). at_kept order w i x (keeps.stands x i (sym (others x other) ∙ is)))
        (cases_eq x w);
    opened = λ x i at.
        ⊎_elim (λ (before : At order i x).
        let was = keeps.opened x i before in
        let other : x ≢ w = λ same. let e = ap (node_mark marks) same ∙ fresh in cc in
        others x other ∙ was)
        (λ (h : (i ≡ length order) × (x ≡ w)). rw (h.0, h.1) (mark_set marks w (Open (length order)) within))
        (at_cases order w i x at);
    closed = numbered_same arcs (IsInComponent marks) (IsInComponent (set marks w (Open (length order)))) count numbered_kept numbered_before keeps.closed;
    room = omega (arith, keeps.room, fresh_less marks w (Open (length order)) within fresh refl, length_push order w, length-set marks w (Open (length order)));
    few = omega (arith, keeps.few, length-set marks w (Open (length order)));
  }

-- nodes that a closed node reaches are closed
closed_reach : (arcs : List (ℕ × ℕ)) (numbered : ℕ → ℕ → Type 0) (count : ℕ) → AreNumbered arcs numbered count → (p q n : ℕ) (walk : List (ℕ × ℕ)) → numbered p n → IsWalk arcs p walk q
    → (m : ℕ) × numbered q m
closed_reach arcs numbered count are p q n [] is leads = (n, subst (λ (x : ℕ). numbered x n) leads is)
closed_reach arcs numbered count are p q n (a ∷ walk) is leads =
    let arc = placed arcs a leads.0 in
    let next = are.stays p n arc.0 is arc.1 (ap (λ (z : ℕ × ℕ). z.0) arc.2 ∙ leads.1) in
    let same : head arcs arc.0 ≡ a.1 = ap (λ (z : ℕ × ℕ). z.1) arc.2 in
    closed_reach arcs numbered count are a.1 q next.0 walk (subst (λ (x : ℕ). numbered x next.0) same next.1) leads.2

-- the open nodes from the index of f on become a component
module _ (arcs : List (ℕ × ℕ)) (marks marks' : List Mark) (order : List ℕ) (count : ℕ) (f : Frame) (keeps : AreConsistent arcs marks order count)
    (h : IsOpenNode arcs order (IsClosed marks) (length order) f) (ended : f.next ≡ 0) (own : f.low ≡ f.place) (closes : ClosesFrom order f.place (length order) count marks marks') where
  abbrev IsChosen : ℕ → Type 0
  IsChosen x = (i : ℕ) × (f.place ≤ i) × At order i x

  chosen_or_not : (x : ℕ) (m : Mark) → node_mark marks x ≡ m → IsChosen x ⊎ (IsChosen x → ⊥)
  chosen_or_not x Fresh is = inr (λ c. let e = keeps.opened x c.0 c.2 in cc)
  chosen_or_not x (Closed n) is = inr (λ c. let e = keeps.opened x c.0 c.2 in cc)
  chosen_or_not x (Open i) is =
      ⊎_elim (λ (lt : i < f.place). inr (λ c. let same : i ≡ c.0 = ap place_of (sym is ∙ keeps.opened x c.0 c.2) in omega (arith, c.1)))
      (λ (le : f.place ≤ i). inl (i, le, keeps.stands x i is))
      (cases_lt i f.place)

  decide : (x : ℕ) → IsChosen x ⊎ (IsChosen x → ⊥)
  decide x = chosen_or_not x (node_mark marks x) refl

  numbered_now : (x : ℕ) → IsChosen x → IsInComponent marks' x count
  numbered_now x c = closes.chosen c.0 x c.1 c.2.0 c.2

  not_chosen : (x : ℕ) → (IsChosen x → ⊥) → node_mark marks' x ≡ node_mark marks x
  not_chosen x none = closes.others x (λ i above below at. none (i, above, at))

  not_both : (x n : ℕ) → IsInComponent marks x n → IsChosen x → ⊥
  not_both x n is c = let e = keeps.opened x c.0 c.2 in cc

  numbered_still : (x n : ℕ) → IsInComponent marks x n → IsInComponent marks' x n
  numbered_still x n is = not_chosen x (not_both x n is) ∙ is

  numbered_cases : (x n : ℕ) → IsInComponent marks' x n → (IsChosen x × (n ≡ count)) ⊎ ((IsChosen x → ⊥) × IsInComponent marks x n)
  numbered_cases x n is =
      ⊎_elim (λ (c : IsChosen x). inl (c, ap component_number (sym is ∙ numbered_now x c)))
      (λ (none : IsChosen x → ⊥). inr (none, sym (not_chosen x none) ∙ is))
      (decide x)

  pub at_taken : (i x : ℕ) → i < f.place → At order i x → At (take f.place order) i x
  at_taken i x lt at = (omega (arith, length-take f.place order, at.0), get_or-take f.place order i 0 lt ∙ at.1)

  pub taken_at : (i x : ℕ) → i < f.place → At (take f.place order) i x → At order i x
  taken_at i x lt at = (omega (arith, length-take f.place order, at.0), sym (get_or-take f.place order i 0 lt) ∙ at.1)

  -- a closed node stays closed, and an open one is closed now or still open, at an index before that of f
  pub closed_still : (x : ℕ) → IsClosed marks x → IsClosed marks' x
  closed_still x is = (is.0, numbered_still x is.0 is.1)

  pub settled_now : (low w : ℕ) → IsClosedOrAbove order (IsClosed marks) low w → IsClosedOrAbove (take f.place order) (IsClosed marks') low w
  settled_now low w settled =
      ⊎_elim (λ (is : IsClosed marks w). inl (closed_still w is))
      (λ (s : (place : ℕ) × (low ≤ place) × At order place w).
      ⊎_elim (λ (lt : s.0 < f.place). inr (s.0, s.1, at_taken s.0 w lt s.2))
      (λ (le : f.place ≤ s.0). inl (count, numbered_now w (s.0, le, s.2)))
      (cases_lt s.0 f.place))
      settled

  -- the arcs of a chosen node lead to closed nodes
  chosen_stays : (x place : ℕ) → IsChosen x → place < length arcs → tail arcs place ≡ x → IsClosed marks' (head arcs place)
  chosen_stays x place c within leaves =
      let settled : IsClosedOrAbove order (IsClosed marks) f.low (head arcs place) =
      ⊎_elim (λ (same : c.0 ≡ f.place).
      let is : x ≡ h.node = at_same order f.place x h.node (subst (λ k. At order k x) same c.2) h.here in
      h.seen place (omega (arith, ended)) within (leaves ∙ is))
      (λ (other : c.0 ≢ f.place). h.done c.0 x place (omega (arith, c.1)) c.2.0 c.2 within leaves)
      (cases_eq c.0 f.place) in
      ⊎_elim (λ (is : IsClosed marks (head arcs place)). closed_still (head arcs place) is)
      (λ (s : (k : ℕ) × (f.low ≤ k) × At order k (head arcs place)). (count, numbered_now (head arcs place) (s.0, omega (arith, own, s.1), s.2)))
      settled

  -- a closed node reaches no chosen one
  none_back : (x y n : ℕ) → IsInComponent marks x n → IsChosen y → Reaches arcs x y → ⊥
  none_back x y n is c reaches =
      let there = closed_reach arcs (IsInComponent marks) count keeps.closed x y n reaches.walk is reaches.leads in
      not_both y there.0 there.1 c

  numbered' : AreNumbered arcs (IsInComponent marks') (count + 1)
  numbered' = record {
    below = λ x n is.
        ⊎_elim (λ (c : IsChosen x × (n ≡ count)). omega (arith, c.1))
        (λ (o : (IsChosen x → ⊥) × IsInComponent marks x n). omega (arith, keeps.closed.below x n o.1))
        (numbered_cases x n is);
    stays = λ x n place is within leaves.
        ⊎_elim (λ (c : IsChosen x × (n ≡ count)). chosen_stays x place c.0 within leaves)
        (λ (o : (IsChosen x → ⊥) × IsInComponent marks x n). closed_still (head arcs place) (keeps.closed.stays x n place o.1 within leaves))
        (numbered_cases x n is);
    same = λ x y m n first second.
        ⊎_elim (λ (c : IsChosen x × (m ≡ count)).
        ⊎_elim (λ (d : IsChosen y × (n ≡ count)).
        let there = reach_then arcs x h.node y (h.down c.0.0 x c.0.2.0 c.0.2) (h.up d.0.0 y d.0.1 d.0.2.0 d.0.2) in
        let back = reach_then arcs y h.node x (h.down d.0.0 y d.0.2.0 d.0.2) (h.up c.0.0 x c.0.1 c.0.2.0 c.0.2) in
        (λ e. (there, back), λ r. c.1 ∙ sym d.1))
        (λ (o : (IsChosen y → ⊥) × IsInComponent marks y n).
        let small = keeps.closed.below y n o.1 in
        (λ e. absurd (omega (arith, c.1)), λ r. absurd (none_back y x n o.1 c.0 r.1)))
        (numbered_cases y n second))
        (λ (o : (IsChosen x → ⊥) × IsInComponent marks x m).
        ⊎_elim (λ (d : IsChosen y × (n ≡ count)).
        let small = keeps.closed.below x m o.1 in
        (λ e. absurd (omega (arith, d.1)), λ r. absurd (none_back x y m o.1 d.0 r.0)))
        (λ (q : (IsChosen y → ⊥) × IsInComponent marks y n). keeps.closed.same x y m n o.1 q.1)
        (numbered_cases y n second))
        (numbered_cases x m first);
    all = λ n below.
        ⊎_elim (λ (lt : n < count). let found = keeps.closed.all n lt in (found.0, numbered_still found.0 n found.1))
        (λ (le : count ≤ n). let same : n ≡ count = omega arith in rw same (h.node, numbered_now h.node (f.place, omega arith, h.here)))
        (cases_lt n count);
  }

  pub keeps_closes : AreConsistent arcs marks' (take f.place order) (count + 1)
  keeps_closes = record {
    stands = λ x i is.
        ⊎_elim (λ (c : IsChosen x). let e = numbered_now x c in cc)
        (λ (none : IsChosen x → ⊥).
        let at = keeps.stands x i (sym (not_chosen x none) ∙ is) in
        ⊎_elim (λ (lt : i < f.place). at_taken i x lt at)
        (λ (le : f.place ≤ i). absurd (none (i, le, at)))
        (cases_lt i f.place))
        (decide x);
    opened = λ x i at.
        let lt : i < f.place = omega (arith, length-take f.place order, at.0) in
        let was = keeps.opened x i (taken_at i x lt at) in
        let none : IsChosen x → ⊥ = λ c. let same : i ≡ c.0 = ap place_of (sym was ∙ keeps.opened x c.0 c.2) in omega (arith, c.1) in
        not_chosen x none ∙ was;
    closed = numbered';
    room = omega (arith, keeps.room, closes.fewer, closes.size, length-take f.place order, h.within);
    few = omega (arith, keeps.few, closes.size);
  }

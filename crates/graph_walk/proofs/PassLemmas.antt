-- The steps of the depth-first search keep its invariant, and it ends.
use Rattle.std.proofs.Common.{◌≡◌, ◌∙◌, ◌≢◌, ℕ, ◌+◌, ◌-◌, ◌*◌, ◌<◌, ◌≤◌, min, inl, inr, ⊎_elim, List, [], ◌∷◌, ◌++◌, length, get_or, set, take}
use Rattle.std.proofs.Common.{reverse, refl, sym, ap, subst, arith, length-set, length-take, Option, Some, None, MatchOption, vec_len, option_to_list}
use Rattle.std.specs.List.{All, sum_by}
use Rattle.std.proofs.Math.Nat.{mul-le-mul_right}
use Rattle.std.proofs.lemmas.Bool.{cases_lt, cases_eq}
use Rattle.std.proofs.lemmas.List.{nil_from_length, get_or_default, get_or_read, length_push, reverse-append}
use Rattle.std.proofs.lemmas.List.Sums.{sum_by_push}
use Rattle.graph_walk.specs.declared.pass.Frame.{Frame}
use Rattle.graph_walk.specs.declared.pass.Mark.{Mark}
use Rattle.graph_walk.specs.declared.pass.Mark.TheVariants.{Fresh, Open, Closed}
use Rattle.graph_walk.specs.declared.pass.Pass.{Pass}
use Rattle.graph_walk.specs.inner.Chains.{head, tail, IsLastArc, AreChained}
use Rattle.graph_walk.specs.inner.Frames.{IsClosedOrAbove, ReachesPlace, IsOpenNode, Hold}
use Rattle.graph_walk.specs.inner.Marks.{node_mark, IsClosed, fresh_count, AreConsistent, ClosesFrom}
use Rattle.graph_walk.specs.inner.Pass.{IsVisiting, IsIdle, NoneFreshened, arcs_left, TakesStep, Enters, ClosesComponent, LeavesNode}
use Rattle.graph_walk.specs.inner.Places.{At}
use Rattle.graph_walk.proofs.FrameLemmas.{hold_moves, holds_looks, reaches_lower, holds_enters, holds_merge}
use Rattle.graph_walk.proofs.MarkLemmas.{mark_set, mark_elsewhere, mark_within, fresh_less, fresh_no_more, numbered_kept, keeps_enters, at_taken, taken_at, settled_now, keeps_closes}
use Rattle.graph_walk.proofs.Marked.{at_kept, at_end, at_before, at_read}
use Rattle.graph_walk.proofs.WalkLemmas.{reach_then, reach_place}

-- the state of a node that was read
pub mark_read : (marks : List Mark) (x : ℕ) (m : Mark) → x < length marks → m ≡ get_or marks x m → node_mark marks x ≡ m
mark_read marks x m within read = sym (get_or_read marks x m within read Fresh)

-- the frames from the last on, once one is pushed
reverse_push : (fs : List Frame) (f : Frame) → reverse (fs ++ f ∷ []) ≡ f ∷ reverse fs
reverse_push fs f = reverse-append fs (f ∷ [])

same_frame : (f : Frame) (n : ℕ) → f.place ≡ n → f.low ≡ n → record { place = n; low = n; next = f.next } ≡ f
same_frame f n place low =
    ap (λ (k : ℕ). let g : Frame = record { place = k; low = n; next = f.next } in g) (sym place) ∙ ap (λ (k : ℕ). let g : Frame = record { place = f.place; low = k; next = f.next } in g) (sym low)

-- the same, for equal lists
hold_same : (arcs : List (ℕ × ℕ)) (marks marks' : List Mark) (order order' : List ℕ) (n n' : ℕ) (f : Frame) (fs fs' : List Frame) → marks' ≡ marks → order' ≡ order → n' ≡ n → fs' ≡ fs
    → Hold arcs order (IsClosed marks) n (f ∷ fs) → Hold arcs order' (IsClosed marks') n' (f ∷ fs')
hold_same arcs marks marks' order order' n n' f fs fs' em eo en ef h =
    let a = subst (λ (ms : List Mark). Hold arcs order (IsClosed ms) n (f ∷ fs)) (sym em) h in
    let b = subst (λ (xs : List ℕ). Hold arcs xs (IsClosed marks') n (f ∷ fs)) (sym eo) a in
    let d = subst (λ (k : ℕ). Hold arcs order' (IsClosed marks') k (f ∷ fs)) (sym en) b in
    subst (λ (gs : List Frame). Hold arcs order' (IsClosed marks') n' (f ∷ gs)) (sym ef) d

-- an arc of the last frame is followed
module _ (nodes : ℕ) (arcs : List (ℕ × ℕ)) (p : Pass) (top : Frame) (place : ℕ) (m : IsVisiting nodes arcs p top) (is : top.next ≡ place + 1) where
  pub from_top : tail arcs place ≡ m.hold.0.node
  from_top =
      let minus : top.next - 1 ≡ place = omega (arith, is) in
      ap (tail arcs) (sym minus) ∙ m.hold.0.leaves (omega (arith, is))

  pub place_within : place < length arcs
  place_within = omega (arith, is, m.hold.0.bounded)

  low_within : top.low ≤ length p.order.items
  low_within = omega (arith, m.hold.0.under, m.hold.0.within)

  looks : (low next : ℕ) → low ≤ top.low → IsClosedOrAbove p.order.items (IsClosed p.marks.items) low (head arcs place) → ReachesPlace arcs p.order.items m.hold.0.node low
      → IsLastArc arcs (tail arcs place) place next → TakesStep nodes arcs p top p (record { place = top.place; low = low; next = next })
  looks low next lower settled back last = record {
    midway = record {
      size = m.size;
      keeps = m.keeps;
      hold = (holds_looks arcs p.order.items (IsClosed p.marks.items) (length p.order.items) top place low next m.hold.0 is lower settled back last, m.hold.1);
    };
    falls = omega (arith, is, last.within);
    freshened = λ x fresh. fresh;
  }

  -- to an open node
  pub sees_open : (at low next : ℕ) → node_mark p.marks.items (head arcs place) ≡ Open at → low ≡ min top.low at → IsLastArc arcs (tail arcs place) place next
      → TakesStep nodes arcs p top p (record { place = top.place; low = low; next = next })
  sees_open at low next opened low_is last =
      let stands = m.keeps.stands (head arcs place) at opened in
      let lower : low ≤ at = omega (arith, low_is) in
      let there : ReachesPlace arcs p.order.items m.hold.0.node at = (head arcs place, stands, reach_place arcs place m.hold.0.node (head arcs place) place_within from_top refl) in
      looks low next (omega (arith, low_is)) (inr (at, lower, stands)) (rw low_is (reaches_lower arcs p.order.items m.hold.0.node top.low at m.hold.0.back there)) last

  -- to a fresh node, which is entered
  pub sees_fresh : (last before : List ℕ) (w next : ℕ) (q p' : Pass) (f : Frame) → AreChained nodes arcs (length arcs) last before → head arcs place ≡ w → w < nodes
      → node_mark p.marks.items w ≡ Fresh → IsLastArc arcs (tail arcs place) place next → q.marks.items ≡ p.marks.items → q.order.items ≡ p.order.items → q.count ≡ p.count
      → q.below.items ≡ p.below.items ++ (record { place = top.place; low = top.low; next = next }) ∷ [] → Enters last w q p' f → TakesStep nodes arcs p top p' f
  sees_fresh last before w next q p' f chains enters within fresh chain marks order count below e =
      let fits : w < length p.marks.items = omega (arith, m.size) in
      let top' : Frame = record { place = top.place; low = top.low; next = next } in
      let n : ℕ = length p.order.items in
      let new : List Mark = set p.marks.items w (Open n) in
      let order' : List ℕ = p.order.items ++ w ∷ [] in
      let long : length q.order.items ≡ n = ap length order in
      let marks_is : p'.marks.items ≡ new = e.marks ∙ (ap (λ (ms : List Mark). set ms w (Open (length q.order.items))) marks ∙ ap (λ k. set p.marks.items w (Open k)) long) in
      let order_is : p'.order.items ≡ order' = e.order ∙ ap (λ (xs : List ℕ). xs ++ w ∷ []) order in
      let below_is : p'.below.items ≡ p.below.items ++ top' ∷ [] = e.below ∙ below in
      let count_is : p'.count ≡ p.count = e.count ∙ count in
      let place_is : f.place ≡ n = e.place ∙ long in
      let low_is : f.low ≡ n = e.low ∙ long in
      let keeps = keeps_enters arcs p.marks.items p.order.items p.count w m.keeps fits fresh in
      let kept = numbered_kept arcs p.marks.items p.order.items p.count w m.keeps fits fresh in
      let chain_w : IsLastArc arcs w (length arcs) f.next = subst (λ k. IsLastArc arcs w (length arcs) k) (sym e.next) (chains.lasts w within) in
      let entered : IsOpenNode arcs order' (IsClosed new) (n + 1) (record { place = n; low = n; next = f.next }) =
      holds_enters arcs p.order.items (IsClosed new) w f.next
      (λ i x at. reach_then arcs x m.hold.0.node w (m.hold.0.down i x at.0 at) (reach_place arcs place m.hold.0.node w place_within from_top enters))
      chain_w in
      let settles : (low v : ℕ) → IsClosedOrAbove p.order.items (IsClosed p.marks.items) low v → IsClosedOrAbove order' (IsClosed new) low v =
      λ low v settled.
      ⊎_elim (λ (is' : IsClosed p.marks.items v). inl (is'.0, kept v is'.0 is'.1))
      (λ (s : (k : ℕ) × (low ≤ k) × At p.order.items k v). inr (s.0, s.1, at_kept p.order.items w s.0 v s.2))
      settled in
      let moved = hold_moves arcs p.order.items order' (IsClosed p.marks.items) (IsClosed new) settles n (top ∷ reverse p.below.items) (λ i x lt at. at_kept p.order.items w i x at)
      (λ i x lt at. at_before p.order.items w i x lt at) m.hold in
      let looked = holds_looks arcs order' (IsClosed new) n top place top.low next moved.0 is (omega arith) (inr (n, low_within, rw enters (at_end p.order.items w))) moved.0.back chain in
      let less = fresh_less p.marks.items w (Open n) fits fresh refl in
      let product : (fresh_count new + 1) * (length arcs + 2) ≡ fresh_count p.marks.items * (length arcs + 2) = ap (λ k. k * (length arcs + 2)) less in
      record {
        midway = record {
          size = ap length marks_is ∙ (length-set p.marks.items w (Open n) ∙ m.size);
          keeps = rw (marks_is, order_is, count_is) keeps;
          hold = hold_same arcs new p'.marks.items order' p'.order.items (n + 1) (length p'.order.items) f (top' ∷ reverse p.below.items) (reverse p'.below.items) marks_is order_is
              (ap length order_is ∙ length_push p.order.items w) (ap (λ (fs : List Frame). reverse fs) below_is ∙ reverse_push p.below.items top')
              (subst (λ (g : Frame). Hold arcs order' (IsClosed new) (n + 1) (g ∷ top' ∷ reverse p.below.items)) (same_frame f n place_is low_is) (entered, (looked, moved.1)));
        };
        falls = omega (
          arith,
          product,
          ap fresh_count marks_is,
          ap (λ (ms : List Mark). fresh_count ms * (length arcs + 2)) marks_is,
          ap (sum_by arcs_left) below_is,
          sum_by_push arcs_left p.below.items top',
          is,
          chain.within,
          chain_w.within,
        );
        freshened = λ x was.
            ⊎_elim (λ (same : x ≡ w). rw same fresh)
            (λ (other : x ≢ w). sym (mark_elsewhere p.marks.items w x (Open n) other) ∙ (ap (λ (ms : List Mark). node_mark ms x) (sym marks_is) ∙ was))
            (cases_eq x w);
      }

-- the pass begins at a fresh node
pub enters_first : (nodes : ℕ) (arcs : List (ℕ × ℕ)) (last before : List ℕ) (w : ℕ) (p p' : Pass) (f : Frame) → AreChained nodes arcs (length arcs) last before → IsIdle nodes arcs p
    → w < nodes → node_mark p.marks.items w ≡ Fresh → Enters last w p p' f → IsVisiting nodes arcs p' f
enters_first nodes arcs last before w p p' f chains idle within fresh e =
    let fits : w < length p.marks.items = omega (arith, idle.size) in
    let n : ℕ = length p.order.items in
    let new : List Mark = set p.marks.items w (Open n) in
    let order' : List ℕ = p.order.items ++ w ∷ [] in
    let keeps = keeps_enters arcs p.marks.items p.order.items p.count w idle.keeps fits fresh in
    let chain : IsLastArc arcs w (length arcs) f.next = subst (λ k. IsLastArc arcs w (length arcs) k) (sym e.next) (chains.lasts w within) in
    let none : n ≡ 0 = ap length idle.no_order in
    let entered : IsOpenNode arcs order' (IsClosed new) (n + 1) (record { place = n; low = n; next = f.next }) =
    holds_enters arcs p.order.items (IsClosed new) w f.next (λ i x at. absurd (omega (arith, at.0))) chain in
    record {
      size = ap length e.marks ∙ (length-set p.marks.items w (Open n) ∙ idle.size);
      keeps = rw (e.marks, e.order, e.count) keeps;
      hold = hold_same arcs new p'.marks.items order' p'.order.items (n + 1) (length p'.order.items) f [] (reverse p'.below.items) e.marks e.order
          (ap length e.order ∙ length_push p.order.items w) (ap (λ (fs : List Frame). reverse fs) (e.below ∙ idle.no_below))
          (subst (λ (g : Frame). Hold arcs order' (IsClosed new) (n + 1) (g ∷ [])) (same_frame f n e.place e.low) (entered, none));
    }

below_other : (a b : ℕ) → a ≤ b → (a ≡ b → ⊥) → a < b
below_other a b le other = ⊎_elim (λ (lt : a < b). lt) (λ (ge : b ≤ a). absurd (other (omega arith))) (cases_lt a b)

-- a node whose arcs were followed is left for the frame below it
pub merges : (nodes : ℕ) (arcs : List (ℕ × ℕ)) (p p' : Pass) (top g : Frame) (low : ℕ) → IsVisiting nodes arcs p top → top.next ≡ 0 → (top.low ≡ top.place → ⊥) → p'.marks.items ≡ p.marks.items
    → p'.order.items ≡ p.order.items → p'.count ≡ p.count → p.below.items ≡ p'.below.items ++ g ∷ [] → low ≡ min g.low top.low
    → TakesStep nodes arcs p top p' (record { place = g.place; low = low; next = g.next })
merges nodes arcs p p' top g low m ended other marks order count below low_is =
    let frames : reverse p.below.items ≡ g ∷ reverse p'.below.items = ap (λ (fs : List Frame). reverse fs) below ∙ reverse_push p'.below.items g in
    let n : ℕ = length p.order.items in
    let hold = subst (λ (fs : List Frame). Hold arcs p.order.items (IsClosed p.marks.items) top.place fs) frames m.hold.1 in
    let lower : top.low < top.place = below_other top.low top.place m.hold.0.under other in
    let merged = holds_merge arcs p.order.items (IsClosed p.marks.items) n top g m.hold.0 hold.0 ended lower in
    record {
      midway = record {
        size = ap length marks ∙ m.size;
        keeps = rw (marks, order, count) m.keeps;
        hold = hold_same arcs p.marks.items p'.marks.items p.order.items p'.order.items n (length p'.order.items) (record { place = g.place; low = low; next = g.next })
            (reverse p'.below.items) (reverse p'.below.items) marks order (ap length order) refl
            (subst (λ (k : ℕ). IsOpenNode arcs p.order.items (IsClosed p.marks.items) n (record { place = g.place; low = k; next = g.next })) (sym low_is) merged, hold.1);
      };
      falls = omega (arith, ended, ap (λ (ms : List Mark). fresh_count ms * (length arcs + 2)) marks, ap (sum_by arcs_left) below, sum_by_push arcs_left p'.below.items g);
      freshened = λ x was. ap (λ (ms : List Mark). node_mark ms x) (sym marks) ∙ was;
    }

-- the only frame has its own index as its low link
pub none_below : (nodes : ℕ) (arcs : List (ℕ × ℕ)) (p : Pass) (top : Frame) → IsVisiting nodes arcs p top → p.below.items ≡ [] → top.place ≡ 0
none_below nodes arcs p top m none =
    subst (λ (fs : List Frame). Hold arcs p.order.items (IsClosed p.marks.items) top.place (reverse fs)) none m.hold.1

-- a component is closed, and its first node is left
module _ (nodes : ℕ) (arcs : List (ℕ × ℕ)) (p q : Pass) (top : Frame) (m : IsVisiting nodes arcs p top) (ended : top.next ≡ 0) (own : top.low ≡ top.place) (c : ClosesComponent top.place p q) where
  closed_keeps : AreConsistent arcs q.marks.items q.order.items q.count
  closed_keeps = rw (c.order, c.count) (keeps_closes arcs p.marks.items q.marks.items p.order.items p.count top m.keeps m.hold.0 ended own c.marks)

  closed_size : length q.marks.items ≡ nodes
  closed_size = c.marks.size ∙ m.size

  closed_fresh : NoneFreshened p q
  closed_fresh x was = sym (c.marks.others x (λ i above below at. let e = c.marks.chosen i x above below at in cc)) ∙ was

  -- the search goes on with the frame from which it was entered
  pub closes_some : (p' : Pass) (g : Frame) → p'.marks.items ≡ q.marks.items → p'.order.items ≡ q.order.items → p'.count ≡ q.count → q.below.items ≡ p'.below.items ++ g ∷ []
      → TakesStep nodes arcs p top p' g
  closes_some p' g marks order count below =
      let below' : p.below.items ≡ p'.below.items ++ g ∷ [] = sym c.below ∙ below in
      let frames : reverse p.below.items ≡ g ∷ reverse p'.below.items = ap (λ (fs : List Frame). reverse fs) below' ∙ reverse_push p'.below.items g in
      let hold = subst (λ (fs : List Frame). Hold arcs p.order.items (IsClosed p.marks.items) top.place fs) frames m.hold.1 in
      let moved = hold_moves arcs p.order.items (take top.place p.order.items) (IsClosed p.marks.items) (IsClosed q.marks.items)
      (settled_now arcs p.marks.items q.marks.items p.order.items p.count top m.keeps m.hold.0 ended own c.marks)
      top.place (g ∷ reverse p'.below.items)
      (λ i x lt at. at_taken arcs p.marks.items q.marks.items p.order.items p.count top m.keeps m.hold.0 ended own c.marks i x lt at)
      (λ i x lt at. taken_at arcs p.marks.items q.marks.items p.order.items p.count top m.keeps m.hold.0 ended own c.marks i x lt at)
      hold in
      let cut : top.place ≡ length (take top.place p.order.items) = omega (arith, length-take top.place p.order.items, m.hold.0.within) in
      record {
        midway = record {
          size = ap length marks ∙ closed_size;
          keeps = rw (marks, order, count) closed_keeps;
          hold = hold_same arcs q.marks.items p'.marks.items (take top.place p.order.items) p'.order.items top.place (length p'.order.items) g (reverse p'.below.items)
              (reverse p'.below.items) marks (order ∙ c.order) (ap length (order ∙ c.order) ∙ sym cut) refl moved;
        };
        falls = omega (
          arith,
          ended,
          ap (λ (ms : List Mark). fresh_count ms * (length arcs + 2)) marks,
          mul-le-mul_right (length arcs + 2) c.marks.fewer,
          ap (sum_by arcs_left) below',
          sum_by_push arcs_left p'.below.items g,
        );
        freshened = λ x was. closed_fresh x (ap (λ (ms : List Mark). node_mark ms x) (sym marks) ∙ was);
      }

  -- there is no such frame
  pub closes_none : (p' : Pass) → p'.marks.items ≡ q.marks.items → p'.order.items ≡ q.order.items → p'.count ≡ q.count → q.below.items ≡ [] → p'.below.items ≡ []
      → IsIdle nodes arcs p' × NoneFreshened p p'
  closes_none p' marks order count none none' =
      let first : top.place ≡ 0 = none_below nodes arcs p top m (sym c.below ∙ none) in (
        record {
          size = ap length marks ∙ closed_size;
          keeps = rw (marks, order, count) closed_keeps;
          no_order = order ∙ (c.order ∙ ap (λ n. take n p.order.items) first);
          no_below = none';
        },
        λ x was. closed_fresh x (ap (λ (ms : List Mark). node_mark ms x) (sym marks) ∙ was),
      )

-- one of the open nodes is closed
pub closes_more : (order : List ℕ) (from to number node : ℕ) (old new : List Mark) → ClosesFrom order from to number old new → At order to node → node < length new → from ≤ to
    → ClosesFrom order from (to + 1) number old (set new node (Closed number))
closes_more order from to number node old new c here within le = record {
  size = length-set new node (Closed number) ∙ c.size;
  chosen = λ i x above below at.
      ⊎_elim (λ (same : x ≡ node). rw same (mark_set new node (Closed number) within))
      (λ (other : x ≢ node).
      ⊎_elim (λ (lt : i < to). mark_elsewhere new node x (Closed number) other ∙ c.chosen i x above lt at)
      (λ (ge : to ≤ i). let same : i ≡ to = omega arith in absurd (other (sym (subst (λ k. At order k x) same at).1 ∙ here.1)))
      (cases_lt i to))
      (cases_eq x node);
  others = λ x none.
      let other : x ≢ node = λ same. none to le (omega arith) (subst (λ (y : ℕ). At order to y) (sym same) here) in
      mark_elsewhere new node x (Closed number) other ∙ c.others x (λ i above below at. none i above (omega arith) at);
  fewer = omega (arith, c.fewer, fresh_no_more new node (Closed number) within refl);
}

-- an open node is one of the graph
pub open_within : (arcs : List (ℕ × ℕ)) (marks : List Mark) (order : List ℕ) (count i x : ℕ) → AreConsistent arcs marks order count → At order i x → x < length marks
open_within arcs marks order count i x keeps at = mark_within marks x (λ fresh. let e = keeps.opened x i at in cc)

pub all_open_within : (arcs : List (ℕ × ℕ)) (marks : List Mark) (order : List ℕ) (count : ℕ) → AreConsistent arcs marks order count → All (λ x. x < length marks) order
all_open_within arcs marks order count keeps k d within =
    open_within arcs marks order count k (get_or order k d) keeps (within, get_or_default order k 0 d within)

-- the next arc with the same tail
pub chain_read : (nodes : ℕ) (arcs : List (ℕ × ℕ)) (last before : List ℕ) (place next : ℕ) → AreChained nodes arcs (length arcs) last before → place < length arcs
    → next ≡ get_or before place next → IsLastArc arcs (tail arcs place) place next
chain_read nodes arcs last before place next chains within read =
    let inside : place < length before = omega (arith, chains.arcs_size) in
    let at : get_or before place 0 ≡ next = sym (get_or_read before place next inside read 0) in
    subst (λ k. IsLastArc arcs (tail arcs place) place k) at (chains.befores place within)

-- the open node that was read is closed
pub closes_step : (order now : List ℕ) (from to number node : ℕ) (old new : List Mark) → All (λ x. x < length old) order → now ≡ order → to < length order → node ≡ get_or now to node
    → from ≤ to → ClosesFrom order from to number old new → (node < length new) × ClosesFrom order from (to + 1) number old (set new node (Closed number))
closes_step order now from to number node old new marked same within read le closes =
    let here = at_read order to node within (subst (λ (xs : List ℕ). node ≡ get_or xs to node) same read) in
    let fits' : node < length new = omega (arith, marked to 0 within, here.1, closes.size) in
    (fits', closes_more order from to number node old new closes here fits' le)

-- a component was closed, and the frame below was taken
pub finishes_closed : (nodes : ℕ) (arcs : List (ℕ × ℕ)) (p q p' : Pass) (top : Frame) (r : Option Frame) → IsVisiting nodes arcs p top → top.next ≡ 0 → top.low ≡ top.place
    → ClosesComponent top.place p q → p'.marks.items ≡ q.marks.items → p'.order.items ≡ q.order.items → p'.count ≡ q.count → q.below.items ≡ p'.below.items ++ option_to_list r
    → MatchOption r ((vec_len q.below ≡ 0) × (vec_len p'.below ≡ 0)) (λ _. vec_len p'.below + 1 ≡ vec_len q.below) → LeavesNode nodes arcs p top p' r
finishes_closed nodes arcs p q p' top (Some g) m ended own closes marks order count below cases =
    closes_some nodes arcs p q top m ended own closes p' g marks order count below
finishes_closed nodes arcs p q p' top None m ended own closes marks order count below cases =
    closes_none nodes arcs p q top m ended own closes p' marks order count (nil_from_length q.below.items (omega (arith, cases.0, q.below.ok.0)))
    (nil_from_length p'.below.items (omega (arith, cases.1, p'.below.ok.0)))

-- a fresh node was entered, and no other
pub enters_one : (last : List ℕ) (w : ℕ) (p p' : Pass) (f : Frame) → w < length p.marks.items → node_mark p.marks.items w ≡ Fresh → Enters last w p p' f
    → NoneFreshened p p' × (node_mark p'.marks.items w ≡ Fresh → ⊥)
enters_one last w p p' f within fresh e =
    let at : Mark = Open (length p.order.items) in (
      λ x was.
          ⊎_elim (λ (same : x ≡ w). rw same fresh)
          (λ (other : x ≢ w). sym (mark_elsewhere p.marks.items w x at other) ∙ (ap (λ (ms : List Mark). node_mark ms x) (sym e.marks) ∙ was))
          (cases_eq x w),
      λ was. let now : node_mark p'.marks.items w ≡ at = ap (λ (ms : List Mark). node_mark ms w) e.marks ∙ mark_set p.marks.items w at within in cc,
    )

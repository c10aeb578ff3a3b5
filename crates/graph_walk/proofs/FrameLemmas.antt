-- The invariant of the frames is kept by each step of the depth-first search.
use Rattle.std.proofs.Common.{◌≡◌, ◌∙◌, ℕ, ◌+◌, ◌-◌, ◌<◌, ◌≤◌, min, inl, inr, ⊎_elim, List, [], ◌∷◌, ◌++◌, length, sym, ap, subst, arith}
use Rattle.std.proofs.lemmas.Bool.{cases_lt, cases_eq}
use Rattle.graph_walk.specs.Walk.{Reaches}
use Rattle.graph_walk.specs.declared.pass.Frame.{Frame}
use Rattle.graph_walk.specs.inner.Chains.{head, tail, IsLastArc}
use Rattle.graph_walk.specs.inner.Frames.{IsClosedOrAbove, ReachesPlace, IsOpenNode, Hold}
use Rattle.graph_walk.specs.inner.Places.{At}
use Rattle.graph_walk.proofs.Marked.{at_end, at_cases, at_same}
use Rattle.graph_walk.proofs.WalkLemmas.{reach_none, reach_then}

-- a node that is closed, or open from an index on, is so for a smaller index
pub settled_below : (order : List ℕ) (closed : ℕ → Type 0) (low lower w : ℕ) → lower ≤ low → IsClosedOrAbove order closed low w → IsClosedOrAbove order closed lower w
settled_below order closed low lower w le settled =
    ⊎_elim (λ (h : closed w). inl h)
    (λ (h : (place : ℕ) × (low ≤ place) × At order place w). inr (h.0, omega (arith, h.1), h.2))
    settled

module _ (arcs : List (ℕ × ℕ)) (order order' : List ℕ) (closed closed' : ℕ → Type 0) (settles : (low w : ℕ) → IsClosedOrAbove order closed low w → IsClosedOrAbove order' closed' low w) where
  holds_move : (end : ℕ) (f : Frame) → ((i x : ℕ) → i < end → At order i x → At order' i x) → ((i x : ℕ) → i < end → At order' i x → At order i x) → IsOpenNode arcs order closed end f
      → IsOpenNode arcs order' closed' end f
  holds_move end f there back h = record {
    node = h.node;
    here = there f.place h.node h.within h.here;
    within = h.within;
    under = h.under;
    down = λ i x below at. h.down i x below (back i x below at);
    up = λ i x above below at. h.up i x above below (back i x below at);
    back = (h.back.0, there f.low h.back.0 (omega (arith, h.under, h.within)) h.back.1, h.back.2);
    done = λ i x place above below at within leaves. settles f.low (head arcs place) (h.done i x place above below (back i x below at) within leaves);
    seen = λ place above within leaves. settles f.low (head arcs place) (h.seen place above within leaves);
    bounded = h.bounded;
    leaves = h.leaves;
  }

  -- the frames below keep their invariant where their open nodes are the same and closed nodes stay closed
  pub hold_moves : (end : ℕ) (fs : List Frame) → ((i x : ℕ) → i < end → At order i x → At order' i x) → ((i x : ℕ) → i < end → At order' i x → At order i x) → Hold arcs order closed end fs
      → Hold arcs order' closed' end fs
  hold_moves end [] there back h = h
  hold_moves end (f ∷ fs) there back h = (
    holds_move end f there back h.0,
    hold_moves f.place fs (λ i x lt at. there i x (omega (arith, h.0.within)) at) (λ i x lt at. back i x (omega (arith, h.0.within)) at) h.1,
  )

-- another arc of a node was followed
pub holds_looks : (arcs : List (ℕ × ℕ)) (order : List ℕ) (closed : ℕ → Type 0) (end : ℕ) (f : Frame) (place low next : ℕ) (h : IsOpenNode arcs order closed end f) → f.next ≡ place + 1
    → low ≤ f.low → IsClosedOrAbove order closed low (head arcs place) → ReachesPlace arcs order h.node low → IsLastArc arcs (tail arcs place) place next
    → IsOpenNode arcs order closed end (record { place = f.place; low = low; next = next })
holds_looks arcs order closed end f place low next h is lower settled back last =
    let minus : f.next - 1 ≡ place = omega (arith, is) in
    let leaves : tail arcs place ≡ h.node = ap (tail arcs) (sym minus) ∙ h.leaves (omega (arith, is)) in
    let inside : place < length arcs = omega (arith, is, h.bounded) in
    record {
      node = h.node;
      here = h.here;
      within = h.within;
      under = omega (arith, h.under);
      down = h.down;
      up = h.up;
      back = back;
      done = λ i x k above below at within from. settled_below order closed f.low low (head arcs k) lower (h.done i x k above below at within from);
      seen = λ k above within from.
          ⊎_elim (λ (lt : k < place). absurd (last.no_other k above lt (from ∙ sym leaves)))
          (λ (le : place ≤ k).
          ⊎_elim (λ (same : k ≡ place). subst (λ m. IsClosedOrAbove order closed low (head arcs m)) (sym same) settled)
          (λ (other : k ≡ place → ⊥). settled_below order closed f.low low (head arcs k) lower (h.seen k (omega (arith, is)) within from))
          (cases_eq k place))
          (cases_lt k place);
      bounded = omega (arith, last.within);
      leaves = λ some. last.leaves some ∙ leaves;
    }

-- of two open nodes that a node reaches, the one at the lower index
pub reaches_lower : (arcs : List (ℕ × ℕ)) (order : List ℕ) (node low other : ℕ) → ReachesPlace arcs order node low → ReachesPlace arcs order node other → ReachesPlace arcs order node (min low other)
reaches_lower arcs order node low other first second =
    ⊎_elim (λ (lt : low < other). let is : low ≡ min low other = omega arith in subst (ReachesPlace arcs order node) is first)
    (λ (le : other ≤ low). let is : other ≡ min low other = omega arith in subst (ReachesPlace arcs order node) is second)
    (cases_lt low other)

-- a node that was just entered
pub holds_enters : (arcs : List (ℕ × ℕ)) (order : List ℕ) (closed : ℕ → Type 0) (w next : ℕ) → ((i x : ℕ) → At order i x → Reaches arcs x w) → IsLastArc arcs w (length arcs) next
    → IsOpenNode arcs (order ++ w ∷ []) closed (length order + 1) (record { place = length order; low = length order; next = next })
holds_enters arcs order closed w next to_it last = record {
  node = w;
  here = at_end order w;
  within = omega arith;
  under = omega arith;
  down = λ i x below at.
      ⊎_elim (λ (before : At order i x). to_it i x before)
      (λ (h : (i ≡ length order) × (x ≡ w)). subst (λ (y : ℕ). Reaches arcs y w) (sym h.1) (reach_none arcs w))
      (at_cases order w i x at);
  up = λ i x above below at.
      let last_one : i ≡ length order = omega arith in
      let same : w ≡ x = at_same (order ++ w ∷ []) (length order) w x (at_end order w) (subst (λ k. At (order ++ w ∷ []) k x) last_one at) in
      subst (λ (y : ℕ). Reaches arcs w y) same (reach_none arcs w);
  back = (w, at_end order w, reach_none arcs w);
  done = λ i x place above below at within from. absurd (omega arith);
  seen = λ place above within from. absurd (last.no_other place above within from);
  bounded = last.within;
  leaves = last.leaves;
}

-- a node whose arcs were followed is left for the frame below it, since it reaches an open node before its own index
pub holds_merge : (arcs : List (ℕ × ℕ)) (order : List ℕ) (closed : ℕ → Type 0) (end : ℕ) (f g : Frame) → IsOpenNode arcs order closed end f → IsOpenNode arcs order closed f.place g → f.next ≡ 0
    → f.low < f.place → IsOpenNode arcs order closed end (record g { low = min g.low f.low })
holds_merge arcs order closed end f g top under ended low =
    let across = top.down g.place under.node (omega (arith, top.within, under.within)) under.here in
    let lower : min g.low f.low ≤ f.low = omega arith in
    let lower' : min g.low f.low ≤ g.low = omega arith in
    record {
      node = under.node;
      here = under.here;
      within = omega (arith, top.within, under.within);
      under = omega (arith, under.under);
      down = λ i x below at.
          reach_then arcs x top.node under.node (top.down i x below at)
          (reach_then arcs top.node top.back.0 under.node top.back.2 (under.down f.low top.back.0 low top.back.1));
      up = λ i x above below at.
          ⊎_elim (λ (lt : i < f.place). under.up i x above lt at)
          (λ (le : f.place ≤ i). reach_then arcs under.node top.node x across (top.up i x le below at))
          (cases_lt i f.place);
      back = reaches_lower arcs order under.node g.low f.low under.back (top.back.0, top.back.1, reach_then arcs under.node top.node top.back.0 across top.back.2);
      done = λ i x place above below at within from.
          ⊎_elim (λ (lt : i < f.place). settled_below order closed g.low (min g.low f.low) (head arcs place) lower' (under.done i x place above lt at within from))
          (λ (le : f.place ≤ i).
          ⊎_elim (λ (same : i ≡ f.place).
          let is : x ≡ top.node = at_same order f.place x top.node (subst (λ k. At order k x) same at) top.here in
          settled_below order closed f.low (min g.low f.low) (head arcs place) lower (top.seen place (omega (arith, ended)) within (from ∙ is)))
          (λ (other : i ≡ f.place → ⊥). settled_below order closed f.low (min g.low f.low) (head arcs place) lower (top.done i x place (omega arith) below at within from))
          (cases_eq i f.place))
          (cases_lt i f.place);
      seen = λ place above within from. settled_below order closed g.low (min g.low f.low) (head arcs place) lower' (under.seen place above within from);
      bounded = under.bounded;
      leaves = under.leaves;
    }

-- The steps of the breadth-first search keep its invariants, and at its end it has seen what is reached.
use Rattle.std.proofs.Common.{◌≡◌, ◌∙◌, ◌≢◌, ℕ, zero, suc, ◌+◌, ◌-◌, ◌<◌, ◌≤◌, inl, inr, ⊎_elim, Bool, true, false, List, [], ◌∷◌, ◌++◌, length}
use Rattle.std.proofs.Common.{get_or, set, refl, sym, ap, subst, arith, get_or-set_same, get_or-set_other, length-set}
use Rattle.std.proofs.lemmas.List.{get_or_default, get_or_read, length_push}
use Rattle.std.proofs.lemmas.List.Sums.{sum_by-set}
use Rattle.std.specs.List.{Contains, sum_by}
use Rattle.std.proofs.lemmas.Bool.{cases_lt, cases_eq}
use Rattle.std.proofs.lemmas.List.Elements.{Contains-get_or}
use Rattle.graph_walk.specs.Reach.{ReachedFrom, AreReachFlags}
use Rattle.graph_walk.specs.Walk.{IsWalk}
use Rattle.graph_walk.specs.declared.search.Search.{Search}
use Rattle.graph_walk.specs.inner.Chains.{head, tail, IsLastArc, AreChained}
use Rattle.graph_walk.specs.inner.Places.{At, flag}
use Rattle.graph_walk.specs.inner.Search.{IsAdded, AddsIfUnseen, IsSized, AreMarkedListed, HasStarts, IsNear, IsLedBy, IsLed, IsClosed, Searching, Spreading, IsSearched, one_if_unset}
use Rattle.graph_walk.proofs.Depths.{with_depth, with_depth_there, depth_kept}
use Rattle.graph_walk.proofs.Marked.{at_kept, at_end, at_before, at_cases, at_same, at_read, flag_set, flag_kept, flag_cases}
use Rattle.graph_walk.proofs.WalkLemmas.{reach_none, reach_then, reach_place, placed}

-- the invariant before any arc was followed
pub search_begins : (arcs : List (ℕ × ℕ)) (starts : List ℕ) (s : Search) → HasStarts starts (length starts) s → Searching arcs starts 0 (length arcs) s
search_begins arcs starts s has = record {
  known = record {
    depth = λ x. 0;
    lists = has.lists;
    begun = λ k within. record { marked = has.begun k within; close = omega arith };
    is_led = λ x marked. inl (refl, has.within x marked);
    rises = λ i j x y le here there. omega arith;
    near = λ j x y here there. omega arith;
    shallow = λ i x here. omega arith;
  };
  closed = λ i x place past here within leaves. absurd (⊎_elim (λ (h : i < 0). omega arith) (λ (h : (i ≡ 0) × (length arcs ≤ place)). omega (arith, h.1)) past);
}

-- another arc of the node at `done` was followed
closed_more : (arcs : List (ℕ × ℕ)) (depth : ℕ → ℕ) (seen : List Bool) (order : List ℕ) (done place : ℕ) → IsClosed arcs depth seen order done (place + 1)
    → ((x : ℕ) → At order done x → tail arcs place ≡ x → IsNear depth seen (head arcs place) (suc (depth x))) → IsClosed arcs depth seen order done place
closed_more arcs depth seen order done place closed now i x k past here within leaves =
    ⊎_elim (λ (lt : i < done). closed i x k (inl lt) here within leaves)
    (λ (h : (i ≡ done) × (place ≤ k)).
    ⊎_elim (λ (same : k ≡ place).
    subst (λ m. IsNear depth seen (head arcs m) (suc (depth x))) (sym same)
    (now x (subst (λ m. At order m x) h.0 here) (ap (tail arcs) (sym same) ∙ leaves)))
    (λ (other : k ≢ place). closed i x k (inr (h.0, omega (arith, h.1))) here within leaves)
    (cases_eq k place))
    past

add_same : (arcs : List (ℕ × ℕ)) (starts : List ℕ) (done place : ℕ) (s : Search) → Searching arcs starts done (place + 1) s → flag s.seen.items (head arcs place) ≡ true
    → Searching arcs starts done place s
add_same arcs starts done place s old marked = record {
  known = old.known;
  closed = closed_more arcs old.known.depth s.seen.items s.order.items done place old.closed
      (λ x here leaves.
      let there = old.known.lists.listed (head arcs place) marked in
      record { marked = marked; close = old.known.near there.0 x (head arcs place) here there.1 });
}

-- the invariant once a node was added, from that before
module _ (arcs : List (ℕ × ℕ)) (starts : List ℕ) (done place w x : ℕ) (s : Search) (old : Searching arcs starts done (place + 1) s) (here : At s.order.items done x)
    (leaves : tail arcs place ≡ x) (enters : head arcs place ≡ w) (within : place < length arcs) (fits : w < length s.seen.items) (led_fits : w < length s.led.items)
    (fresh : flag s.seen.items w ≡ false) where
  depth' : ℕ → ℕ
  depth' = with_depth old.known.depth w (suc (old.known.depth x))

  kept : (y : ℕ) → flag s.seen.items y ≡ true → depth' y ≡ old.known.depth y
  unfolding depth'
  kept y marked = depth_kept old.known.depth s.seen.items w (suc (old.known.depth x)) y fresh marked

  kept_at : (i y : ℕ) → At s.order.items i y → depth' y ≡ old.known.depth y
  kept_at i y at = kept y (old.known.lists.flagged i y at)

  there : (y : ℕ) → y ≡ w → depth' y ≡ suc (old.known.depth x)
  unfolding depth'
  there y same = with_depth_there old.known.depth w (suc (old.known.depth x)) y same

  still : (y : ℕ) → flag s.seen.items y ≡ true → flag (set s.seen.items w true) y ≡ true
  still y marked = flag_kept s.seen.items w y fits marked

  near_kept : (y n : ℕ) → IsNear old.known.depth s.seen.items y n → IsNear depth' (set s.seen.items w true) y n
  near_kept y n near = record { marked = still y near.marked; close = omega (arith, kept y near.marked, near.close) }

  lists' : (s' : Search) → s'.seen.items ≡ set s.seen.items w true → s'.order.items ≡ s.order.items ++ w ∷ [] → AreMarkedListed s'
  lists' s' seen order = record {
    flagged = λ i y at.
        rw seen (⊎_elim (λ (before : At s.order.items i y). still y (old.known.lists.flagged i y before))
        (λ (h : (i ≡ length s.order.items) × (y ≡ w)). rw h.1 (flag_set s.seen.items w fits))
        (at_cases s.order.items w i y (rw order at at)));
    listed = λ y marked.
        rw order (⊎_elim (λ (before : flag s.seen.items y ≡ true). let found = old.known.lists.listed y before in (found.0, at_kept s.order.items w found.0 y found.1))
        (λ (same : y ≡ w). rw same (length s.order.items, at_end s.order.items w))
        (flag_cases s.seen.items w y (rw seen at marked)));
  }

  led' : (y : ℕ) → flag (set s.seen.items w true) y ≡ true → IsLed arcs starts depth' (set s.seen.items w true) (set s.led.items w place) y
  led' y marked =
      ⊎_elim (λ (same : y ≡ w).
      let at : get_or (set s.led.items w place) y 0 ≡ place = ap (λ k. get_or (set s.led.items w place) k 0) same ∙ get_or-set_same s.led.items w place 0 led_fits in
      let before : flag s.seen.items x ≡ true = old.known.lists.flagged done x here in
      inr (rw at (record { placed = within; enters = enters ∙ sym same; marked = rw leaves (still x before); deeper = rw leaves (there y same ∙ ap suc (sym (kept x before))) })))
      (λ (other : y ≢ w).
      let before : flag s.seen.items y ≡ true = sym (get_or-set_other s.seen.items w y true false other) ∙ marked in
      let at : get_or (set s.led.items w place) y 0 ≡ get_or s.led.items y 0 = get_or-set_other s.led.items w y place 0 other in
      ⊎_elim (λ (h : (old.known.depth y ≡ 0) × Contains starts y). inl (kept y before ∙ h.0, h.1))
      (λ (h : IsLedBy arcs old.known.depth s.seen.items y (get_or s.led.items y 0)).
      inr (rw at (record {
        placed = h.placed;
        enters = h.enters;
        marked = still (tail arcs (get_or s.led.items y 0)) h.marked;
        deeper = kept y before
            ∙ (h.deeper ∙ ap suc (sym (kept (tail arcs (get_or s.led.items y 0)) h.marked)));
      })))
      (old.known.is_led y before))
      (cases_eq y w)

  rises' : (i j y z : ℕ) → i ≤ j → At (s.order.items ++ w ∷ []) i y → At (s.order.items ++ w ∷ []) j z → depth' y ≤ depth' z
  rises' i j y z le first second =
      ⊎_elim (λ (b : At s.order.items j z).
      let a : At s.order.items i y = at_before s.order.items w i y (omega (arith, b.0)) first in
      omega (arith, kept_at i y a, kept_at j z b, old.known.rises i j y z le a b))
      (λ (h : (j ≡ length s.order.items) × (z ≡ w)).
      ⊎_elim (λ (a : At s.order.items i y). omega (arith, kept_at i y a, there z h.1, old.known.near i x y here a))
      (λ (g : (i ≡ length s.order.items) × (y ≡ w)). omega (arith, there y g.1, there z h.1))
      (at_cases s.order.items w i y first))
      (at_cases s.order.items w j z second)

  near' : (j y z : ℕ) → At (s.order.items ++ w ∷ []) done y → At (s.order.items ++ w ∷ []) j z → depth' z ≤ suc (depth' y)
  near' j y z first second =
      let a : At s.order.items done y = at_before s.order.items w done y here.0 first in
      let same : old.known.depth x ≡ old.known.depth y = ap old.known.depth (at_same s.order.items done x y here a) in
      ⊎_elim (λ (b : At s.order.items j z). omega (arith, kept_at done y a, kept_at j z b, old.known.near j y z a b))
      (λ (h : (j ≡ length s.order.items) × (z ≡ w)). omega (arith, kept_at done y a, there z h.1, same))
      (at_cases s.order.items w j z second)

  shallow' : (i y : ℕ) → At (s.order.items ++ w ∷ []) i y → depth' y ≤ i
  shallow' i y at =
      ⊎_elim (λ (a : At s.order.items i y). omega (arith, kept_at i y a, old.known.shallow i y a))
      (λ (h : (i ≡ length s.order.items) × (y ≡ w)). omega (arith, there y h.1, h.0, here.0, old.known.shallow done x here))
      (at_cases s.order.items w i y at)

  closed' : IsClosed arcs depth' (set s.seen.items w true) (s.order.items ++ w ∷ []) done place
  closed' = closed_more arcs depth' (set s.seen.items w true) (s.order.items ++ w ∷ []) done place
      (λ i y k past at inside from.
      let low : i < length s.order.items = ⊎_elim (λ (lt : i < done). omega (arith, here.0)) (λ (h : (i ≡ done) × (place + 1 ≤ k)). omega (arith, here.0, h.0)) past in
      let before : At s.order.items i y = at_before s.order.items w i y low at in
      let now = near_kept (head arcs k) (suc (old.known.depth y)) (old.closed i y k past before inside from) in
      subst (λ n. IsNear depth' (set s.seen.items w true) (head arcs k) (suc n)) (sym (kept_at i y before)) now)
      (λ y at from.
      record {
        marked = rw enters (flag_set s.seen.items w fits);
        close =
            omega (arith, there (head arcs place) enters, kept_at done y (at_before s.order.items w done y here.0 at), ap old.known.depth (sym leaves ∙ from));
      })

  add_fresh : (s' : Search) → s'.seen.items ≡ set s.seen.items w true → s'.order.items ≡ s.order.items ++ w ∷ [] → s'.led.items ≡ set s.led.items w place → Searching arcs starts done place s'
  add_fresh s' seen order led = record {
    known = record {
      depth = depth';
      lists = lists' s' seen order;
      begun = λ k below. rw seen (near_kept (get_or starts k 0) 0 (old.known.begun k below));
      is_led = rw (seen, led) led';
      rises = rw order rises';
      near = rw order near';
      shallow = rw order shallow';
    };
    closed = rw (seen, order) closed';
  }

-- the head of an arc of the node at `done` is added, unless it was seen before
pub search_adds : (arcs : List (ℕ × ℕ)) (starts : List ℕ) (done end place w x : ℕ) (s s' : Search) → IsSized s → w < length s.seen.items → Searching arcs starts done end s → end ≡ place + 1
    → At s.order.items done x → tail arcs place ≡ x → head arcs place ≡ w → place < length arcs → AddsIfUnseen s w place s' → Searching arcs starts done place s'
search_adds arcs starts done end place w x s s' sized fits old same here leaves enters within adds =
    let old' : Searching arcs starts done (place + 1) s = subst (λ n. Searching arcs starts done n s) same old in
    ⊎_elim (λ (h : (flag s.seen.items w ≡ true) × (s' ≡ s)). subst (λ (t : Search). Searching arcs starts done place t) (sym h.1) (add_same arcs starts done place s old' (rw enters h.0)))
    (λ (h : IsAdded s w place s').
    add_fresh arcs starts done place w x s old' here leaves enters within fits (omega (arith, sized.led_size)) h.fresh s' h.marked h.listed h.led)
    adds

-- no arc from c to before `end` leaves the node at `done`
pub search_passes : (arcs : List (ℕ × ℕ)) (starts : List ℕ) (done end c x : ℕ) (s : Search) → Searching arcs starts done end s → At s.order.items done x → IsLastArc arcs x end c
    → Searching arcs starts done c s
search_passes arcs starts done end c x s old here last = record {
  known = old.known;
  closed = λ i y k past at within leaves.
      ⊎_elim (λ (lt : i < done). old.closed i y k (inl lt) at within leaves)
      (λ (h : (i ≡ done) × (c ≤ k)).
      ⊎_elim (λ (lt : k < end). absurd (last.no_other k h.1 lt (leaves ∙ at_same s.order.items done y x (subst (λ m. At s.order.items m y) h.0 at) here)))
      (λ (le : end ≤ k). old.closed i y k (inr (h.0, le)) at within leaves)
      (cases_lt k end))
      past;
}

-- all arcs of the node at `done` were followed
pub search_goes_on : (arcs : List (ℕ × ℕ)) (starts : List ℕ) (done : ℕ) (s : Search) → Searching arcs starts done 0 s → done < length s.order.items → Searching arcs starts (done + 1) (length arcs) s
search_goes_on arcs starts done s old within = record {
  known = record {
    depth = old.known.depth;
    lists = old.known.lists;
    begun = old.known.begun;
    is_led = old.known.is_led;
    rises = old.known.rises;
    near = λ j x y here there.
        let x0 = get_or s.order.items done 0 in
        let first : At s.order.items done x0 = (within, refl) in
        omega (arith, old.known.near j x0 y first there, old.known.rises done (done + 1) x0 x (omega arith) first here);
    shallow = old.known.shallow;
  };
  closed = λ i x k past at inside leaves.
      ⊎_elim (λ (lt : i < done + 1).
      ⊎_elim (λ (h : i < done). old.closed i x k (inl h) at inside leaves)
      (λ (h : done ≤ i). old.closed i x k (inr (omega arith, omega arith)) at inside leaves)
      (cases_lt i done))
      (λ (h : (i ≡ done + 1) × (length arcs ≤ k)). absurd (omega (arith, h.1)))
      past;
}

-- at the end, a node that is reached from one that was seen was seen too, deeper by at most the length of the walk
pub walk_near : (arcs : List (ℕ × ℕ)) (starts : List ℕ) (done end : ℕ) (s : Search) (old : Searching arcs starts done end s) → length s.order.items ≤ done → (p q : ℕ) (walk : List (ℕ × ℕ))
    → flag s.seen.items p ≡ true → IsWalk arcs p walk q → (flag s.seen.items q ≡ true) × (old.known.depth q ≤ old.known.depth p + length walk)
walk_near arcs starts done end s old all p q [] marked leads = (rw (sym leads) marked, omega (arith, ap old.known.depth leads))
walk_near arcs starts done end s old all p q (a ∷ walk) marked leads =
    let found = old.known.lists.listed p marked in
    let arc = placed arcs a leads.0 in
    let before : found.0 < done = omega (arith, found.1.0) in
    let near = old.closed found.0 p arc.0 (inl before) found.1 arc.1 (ap (λ (z : ℕ × ℕ). z.0) arc.2 ∙ leads.1) in
    let same : head arcs arc.0 ≡ a.1 = ap (λ (z : ℕ × ℕ). z.1) arc.2 in
    let rest = walk_near arcs starts done end s old all a.1 q walk (rw same at near.marked) leads.2 in
    (rest.0, omega (arith, near.close, ap old.known.depth same, rest.1))

pub reached_at : (arcs : List (ℕ × ℕ)) (starts : List ℕ) (done end : ℕ) (s : Search) (old : Searching arcs starts done end s) (n x : ℕ) → old.known.depth x ≡ n → flag s.seen.items x ≡ true
    → ReachedFrom arcs starts x
reached_at arcs starts done end s old zero x deep marked =
    ⊎_elim (λ (h : (old.known.depth x ≡ 0) × Contains starts x). record { start = x; listed = h.1; reached = reach_none arcs x })
    (λ (h : IsLedBy arcs old.known.depth s.seen.items x (get_or s.led.items x 0)). absurd (omega (arith, h.deeper)))
    (old.known.is_led x marked)
reached_at arcs starts done end s old (suc n) x deep marked =
    ⊎_elim (λ (h : (old.known.depth x ≡ 0) × Contains starts x). absurd (omega (arith, h.0)))
    (λ (h : IsLedBy arcs old.known.depth s.seen.items x (get_or s.led.items x 0)).
    let place = get_or s.led.items x 0 in
    let shallower : old.known.depth (tail arcs place) ≡ n = omega (arith, h.deeper) in
    let first = reached_at arcs starts done end s old n (tail arcs place) shallower h.marked in
    record { start = first.start; listed = first.listed; reached = reach_then arcs first.start (tail arcs place) x first.reached (reach_place arcs place (tail arcs place) x h.placed refl h.enters) })
    (old.known.is_led x marked)

pub size_added : (w place : ℕ) (s s' : Search) → IsSized s → w < length s.seen.items → IsAdded s w place s' → IsSized s'
size_added w place s s' sized within added =
    let seen : length s'.seen.items ≡ length s.seen.items = ap length added.marked ∙ length-set s.seen.items w true in
    let led : length s'.led.items ≡ length s.led.items = ap length added.led ∙ length-set s.led.items w place in
    let order : length s'.order.items ≡ length s.order.items + 1 = ap length added.listed ∙ length_push s.order.items w in
    let fewer = sum_by-set one_if_unset s.seen.items w true false within in
    record {
      led_size = led ∙ (sized.led_size ∙ sym seen);
      few = omega (arith, sized.few, order, seen, ap (sum_by one_if_unset) added.marked, fewer, ap one_if_unset added.fresh);
      order_within = λ i x at.
          ⊎_elim (λ (before : At s.order.items i x). omega (arith, sized.order_within i x before, seen))
          (λ (h : (i ≡ length s.order.items) × (x ≡ w)). omega (arith, h.1, seen))
          (at_cases s.order.items w i x (rw added.listed at at));
    }

-- another start is added
pub start_added : (k w : ℕ) (starts : List ℕ) (s s' : Search) → w < length s.seen.items → k < length starts → get_or starts k 0 ≡ w → HasStarts starts k s → AddsIfUnseen s w 0 s'
    → HasStarts starts (k + 1) s'
start_added k w starts s s' fits inside is has adds =
    ⊎_elim (λ (h : (flag s.seen.items w ≡ true) × (s' ≡ s)).
    subst (λ (t : Search). HasStarts starts (k + 1) t) (sym h.1) (record {
      lists = has.lists;
      begun = λ j below. ⊎_elim (λ (lt : j < k). has.begun j lt) (λ (le : k ≤ j). let same : j ≡ k = omega arith in rw (same, is) h.0) (cases_lt j k);
      within = has.within;
    }))
    (λ (h : IsAdded s w 0 s').
    record {
      lists = record {
        flagged = λ i y at.
            rw h.marked (⊎_elim (λ (before : At s.order.items i y). flag_kept s.seen.items w y fits (has.lists.flagged i y before))
            (λ (g : (i ≡ length s.order.items) × (y ≡ w)). rw g.1 (flag_set s.seen.items w fits))
            (at_cases s.order.items w i y (rw h.listed at at)));
        listed = λ y marked.
            rw h.listed (⊎_elim (λ (before : flag s.seen.items y ≡ true). let found = has.lists.listed y before in (found.0, at_kept s.order.items w found.0 y found.1))
            (λ (same : y ≡ w). rw same (length s.order.items, at_end s.order.items w))
            (flag_cases s.seen.items w y (rw h.marked at marked)));
      };
      begun = λ j below.
          rw h.marked (⊎_elim (λ (lt : j < k). flag_kept s.seen.items w (get_or starts j 0) fits (has.begun j lt))
          (λ (le : k ≤ j). let same : j ≡ k = omega arith in rw (same, is) (flag_set s.seen.items w fits))
          (cases_lt j k));
      within = λ x marked.
          ⊎_elim (λ (before : flag s.seen.items x ≡ true). has.within x before)
          (λ (same : x ≡ w). subst (λ (y : ℕ). Contains starts y) (is ∙ sym same) (Contains-get_or starts k 0 inside))
          (flag_cases s.seen.items w x (rw h.marked at marked));
    })
    adds

pub spread_begins : (nodes : ℕ) (arcs : List (ℕ × ℕ)) (starts last before : List ℕ) (done end node : ℕ) (s : Search) → AreChained nodes arcs (length arcs) last before
    → length s.seen.items ≡ nodes → IsSized s → Searching arcs starts done (length arcs) s → done < length s.order.items → node ≡ get_or s.order.items done node → end ≡ get_or last node end
    → Spreading nodes arcs starts done end node s
spread_begins nodes arcs starts last before done end node s chains size sized searching within node_is end_is =
    let here = at_read s.order.items done node within node_is in
    let below : node < nodes = omega (arith, sized.order_within done node here) in
    let inside : node < length last = omega (arith, chains.nodes_size) in
    let at : get_or last node 0 ≡ end = sym (get_or_read last node end inside end_is 0) in
    let chain : IsLastArc arcs node (length arcs) end = subst (λ n. IsLastArc arcs node (length arcs) n) at (chains.lasts node below) in
    record {
      size = size;
      sized = sized;
      searching = search_passes arcs starts done (length arcs) end node s searching here chain;
      here = here;
      within = chain.within;
      leaves = chain.leaves;
    }

at_added : (s s' : Search) (w place done x : ℕ) → At s.order.items done x → AddsIfUnseen s w place s' → At s'.order.items done x
at_added s s' w place done x here adds =
    ⊎_elim (λ (h : (flag s.seen.items w ≡ true) × (s' ≡ s)). rw h.1 here)
    (λ (h : IsAdded s w place s'). rw h.listed (at_kept s.order.items w done x here))
    adds

pub spread_goes_on : (nodes : ℕ) (arcs : List (ℕ × ℕ)) (starts last before : List ℕ) (done end next node place w : ℕ) (s s' : Search) → AreChained nodes arcs (length arcs) last before
    → Spreading nodes arcs starts done end node s → end ≡ place + 1 → head arcs place ≡ w → w < nodes → AddsIfUnseen s w place s' → length s'.seen.items ≡ length s.seen.items → IsSized s'
    → next ≡ get_or before place next → Spreading nodes arcs starts done next node s'
spread_goes_on nodes arcs starts last before done end next node place w s s' chains old end_is enters fits adds size sized next_is =
    let within : place < length arcs = omega (arith, old.within) in
    let minus : end - 1 ≡ place = omega arith in
    let leaves : tail arcs place ≡ node = ap (tail arcs) (sym minus) ∙ old.leaves (omega arith) in
    let added = search_adds arcs starts done end place w node s s' old.sized (omega (arith, old.size)) old.searching end_is old.here leaves enters within adds in
    let inside : place < length before = omega (arith, chains.arcs_size) in
    let at : get_or before place 0 ≡ next = sym (get_or_read before place next inside next_is 0) in
    let chain : IsLastArc arcs node place next = subst (λ n. IsLastArc arcs node place n) at (subst (λ p. IsLastArc arcs p place (get_or before place 0)) leaves (chains.befores place within)) in
    let here = at_added s s' w place done node old.here adds in
    record {
      size = size ∙ old.size;
      sized = sized;
      searching = search_passes arcs starts done place next node s' added here chain;
      here = here;
      within = omega (arith, chain.within);
      leaves = chain.leaves;
    }

-- the flags at the end
pub search_ends : (nodes : ℕ) (arcs : List (ℕ × ℕ)) (starts : List ℕ) (s : Search) → IsSearched nodes arcs starts s → AreReachFlags nodes arcs starts s.seen.items
search_ends nodes arcs starts s searched = record {
  size = searched.size;
  exact = λ q below. (
    λ marked. reached_at arcs starts searched.done (length arcs) s searched.searching (searched.searching.known.depth q) q refl marked,
    λ from.
        let found = from.listed in
        let is : get_or starts found.0 0 ≡ from.start = get_or_default starts found.0 0 from.start found.1 ∙ found.2 in
        let begun = searched.searching.known.begun found.0 found.1 in
        (walk_near arcs starts searched.done (length arcs) s searched.searching searched.all_done from.start q from.reached.walk (rw is at begun.marked) from.reached.leads).0,
  );
}

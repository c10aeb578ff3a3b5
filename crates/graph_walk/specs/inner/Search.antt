-- Breadth-first search from a list of nodes: its invariants, and its end.
use Rattle.std.specs.Prelude.{◌≡◌, ℕ, suc, ◌+◌, ◌-◌, ◌<◌, ◌≤◌, ◌⊎◌, Bool, true, false, List, ◌∷◌, [], ◌++◌, length, slice_index, slice_set}
use Rattle.std.specs.List.{Contains, sum_by}
use Rattle.graph_walk.specs.inner.Chains.{head, tail}
use Rattle.graph_walk.specs.inner.Places.{At, flag}
use Rattle.graph_walk.specs.declared.search.Search.{Search}

-- the node was not seen, and is marked as seen and added at the end of the list
pub record IsAdded (old : Search) (node place : ℕ) (new : Search) : Type 0 where
  pub fresh : flag old.seen.items node ≡ false
  pub marked : new.seen.items ≡ slice_set old.seen.items node true
  pub listed : new.order.items ≡ old.order.items ++ node ∷ []
  pub led : new.led.items ≡ slice_set old.led.items node place

-- a node is added unless it was seen
abbrev pub AddsIfUnseen : Search → ℕ → ℕ → Search → Type 0
AddsIfUnseen old node place new = ((flag old.seen.items node ≡ true) × (new ≡ old)) ⊎ IsAdded old node place new

abbrev pub one_if_unset : Bool → ℕ
one_if_unset true = 0
one_if_unset false = 1

-- the number of nodes that were not seen
abbrev pub unset : List Bool → ℕ
unset seen = sum_by one_if_unset seen

-- there are a flag and an arc's index for each node, and each node is either not seen or listed
pub record IsSized (s : Search) : Type 0 where
  pub led_size : length s.led.items ≡ length s.seen.items
  pub few : unset s.seen.items + length s.order.items ≡ length s.seen.items
  pub order_within : (i x : ℕ) → At s.order.items i x → x < length s.seen.items

-- the nodes that were seen are those that are listed
pub record AreMarkedListed (s : Search) : Type 0 where
  pub flagged : (i x : ℕ) → At s.order.items i x → flag s.seen.items x ≡ true
  pub listed : (x : ℕ) → flag s.seen.items x ≡ true → (i : ℕ) × At s.order.items i x

-- the first `done` starts were seen, and no node but starts
pub record HasStarts (starts : List ℕ) (done : ℕ) (s : Search) : Type 0 where
  pub lists : AreMarkedListed s
  pub begun : (k : ℕ) → k < done → flag s.seen.items (slice_index starts k) ≡ true
  pub within : (x : ℕ) → flag s.seen.items x ≡ true → Contains starts x

-- w was seen, at most n arcs away
pub record IsNear (depth : ℕ → ℕ) (seen : List Bool) (w n : ℕ) : Type 0 where
  pub marked : flag seen w ≡ true
  pub close : depth w ≤ n

-- the arc at this index leads to x, from a node that was seen at a depth one less
pub record IsLedBy (arcs : List (ℕ × ℕ)) (depth : ℕ → ℕ) (seen : List Bool) (x place : ℕ) : Type 0 where
  pub placed : place < length arcs
  pub enters : head arcs place ≡ x
  pub marked : flag seen (tail arcs place) ≡ true
  pub deeper : depth x ≡ suc (depth (tail arcs place))

-- a node that was seen is a start at depth 0, or was found by an arc
abbrev pub IsLed : List (ℕ × ℕ) → List ℕ → (ℕ → ℕ) → List Bool → List ℕ → ℕ → Type 0
IsLed arcs starts depth seen led x = ((depth x ≡ 0) × Contains starts x) ⊎ IsLedBy arcs depth seen x (slice_index led x)

-- the arc at this index, which leaves the node listed at i, was followed
abbrev pub IsPast : ℕ → ℕ → ℕ → ℕ → Type 0
IsPast done end i place = (i < done) ⊎ ((i ≡ done) × (end ≤ place))

-- each arc that was followed leads to a node that was seen, at a depth at most one greater
abbrev pub IsClosed : List (ℕ × ℕ) → (ℕ → ℕ) → List Bool → List ℕ → ℕ → ℕ → Type 0
IsClosed arcs depth seen order done end =
    (i x place : ℕ) → IsPast done end i place → At order i x → place < length arcs → tail arcs place ≡ x → IsNear depth seen (head arcs place) (suc (depth x))

-- the nodes that were seen, with their depths: starts at 0, none decreasing along the list
pub record AreSeen (arcs : List (ℕ × ℕ)) (starts : List ℕ) (done : ℕ) (s : Search) : Type 0 where
  pub depth : ℕ → ℕ
  pub lists : AreMarkedListed s
  pub begun : (k : ℕ) → k < length starts → IsNear depth s.seen.items (slice_index starts k) 0
  pub is_led : (x : ℕ) → flag s.seen.items x ≡ true → IsLed arcs starts depth s.seen.items s.led.items x
  pub rises : (i j x y : ℕ) → i ≤ j → At s.order.items i x → At s.order.items j y → depth x ≤ depth y
  pub near : (j x y : ℕ) → At s.order.items done x → At s.order.items j y → depth y ≤ suc (depth x)
  pub shallow : (i x : ℕ) → At s.order.items i x → depth x ≤ i

-- The invariant of the search: the arcs of the nodes before the index `done` of the list were followed, and of the node there those
-- from the index `end` on. The depth of a node is the number of arcs of the walk by which it was found.
pub record Searching (arcs : List (ℕ × ℕ)) (starts : List ℕ) (done end : ℕ) (s : Search) : Type 0 where
  pub known : AreSeen arcs starts done s
  pub closed : IsClosed arcs known.depth s.seen.items s.order.items done end

-- the invariant while the arcs of the node at `done` are followed, from the last one on
pub record Spreading (nodes : ℕ) (arcs : List (ℕ × ℕ)) (starts : List ℕ) (done end node : ℕ) (s : Search) : Type 0 where
  pub size : length s.seen.items ≡ nodes
  pub sized : IsSized s
  pub searching : Searching arcs starts done end s
  pub here : At s.order.items done node
  pub within : end ≤ length arcs
  pub leaves : 0 < end → tail arcs (end - 1) ≡ node

-- the search at its end
pub record IsSearched (nodes : ℕ) (arcs : List (ℕ × ℕ)) (starts : List ℕ) (s : Search) : Type 0 where
  pub size : length s.seen.items ≡ nodes
  pub sized : IsSized s
  pub done : ℕ
  pub all_done : length s.order.items ≤ done
  pub searching : Searching arcs starts done (length arcs) s

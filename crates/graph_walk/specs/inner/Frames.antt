-- The frames of the depth-first search, and what holds of the open nodes: those that were entered and whose component is not closed.
use Rattle.std.specs.Prelude.{◌≡◌, ℕ, ◌-◌, ◌<◌, ◌≤◌, ◌⊎◌, List, [], ◌∷◌, length}
use Rattle.graph_walk.specs.Walk.{Reaches}
use Rattle.graph_walk.specs.inner.Chains.{head, tail}
use Rattle.graph_walk.specs.inner.Places.{At}
use Rattle.graph_walk.specs.declared.pass.Frame.{Frame}

-- w is closed, or open at an index from `low` on
abbrev pub IsClosedOrAbove : List ℕ → (ℕ → Type 0) → ℕ → ℕ → Type 0
IsClosedOrAbove order closed low w = closed w ⊎ ((place : ℕ) × (low ≤ place) × At order place w)

-- the node reaches the open node at the index `low`
abbrev pub ReachesPlace : List (ℕ × ℕ) → List ℕ → ℕ → ℕ → Type 0
ReachesPlace arcs order node low = (w : ℕ) × At order low w × Reaches arcs node w

-- The invariant of one frame. Of the open nodes, those from its node's own index on and before the index `end` were
-- entered from it.
pub record IsOpenNode (arcs : List (ℕ × ℕ)) (order : List ℕ) (closed : ℕ → Type 0) (end : ℕ) (f : Frame) : Type 0 where
  pub node : ℕ
  pub here : At order f.place node
  pub within : f.place < end
  pub under : f.low ≤ f.place
  pub down : (i x : ℕ) → i < end → At order i x → Reaches arcs x node
  pub up : (i x : ℕ) → f.place ≤ i → i < end → At order i x → Reaches arcs node x
  pub back : ReachesPlace arcs order node f.low
  pub done : (i x place : ℕ) → f.place < i → i < end → At order i x → place < length arcs → tail arcs place ≡ x → IsClosedOrAbove order closed f.low (head arcs place)
  pub seen : (place : ℕ) → f.next ≤ place → place < length arcs → tail arcs place ≡ node → IsClosedOrAbove order closed f.low (head arcs place)
  pub bounded : f.next ≤ length arcs
  pub leaves : 0 < f.next → tail arcs (f.next - 1) ≡ node

-- the invariant of all frames, the last one first
abbrev pub Hold : List (ℕ × ℕ) → List ℕ → (ℕ → Type 0) → ℕ → List Frame → Type 0
Hold arcs order closed end [] = end ≡ 0
Hold arcs order closed end (f ∷ fs) = IsOpenNode arcs order closed end f × Hold arcs order closed f.place fs

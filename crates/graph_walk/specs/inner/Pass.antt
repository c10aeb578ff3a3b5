-- The depth-first search: its invariant, its steps, and a measure by which it ends.
use Rattle.std.specs.Prelude.{◌≡◌, ℕ, ◌+◌, ◌*◌, ◌<◌, Option, Some, None, List, [], ◌∷◌, ◌++◌, length, reverse, take, slice_index, slice_set}
use Rattle.std.specs.List.{sum_by}
use Rattle.graph_walk.specs.inner.Frames.{Hold}
use Rattle.graph_walk.specs.inner.Marks.{node_mark, IsClosed, ClosesFrom, AreConsistent, fresh_count}
use Rattle.graph_walk.specs.declared.pass.Frame.{Frame}
use Rattle.graph_walk.specs.declared.pass.Mark.TheVariants.{Fresh, Open}
use Rattle.graph_walk.specs.declared.pass.Pass.{Pass}

-- the invariant while nodes are open; `top` is the last frame
pub record IsVisiting (nodes : ℕ) (arcs : List (ℕ × ℕ)) (p : Pass) (top : Frame) : Type 0 where
  pub size : length p.marks.items ≡ nodes
  pub keeps : AreConsistent arcs p.marks.items p.order.items p.count
  pub hold : Hold arcs p.order.items (IsClosed p.marks.items) (length p.order.items) (top ∷ reverse p.below.items)

-- the invariant while no node is open
pub record IsIdle (nodes : ℕ) (arcs : List (ℕ × ℕ)) (p : Pass) : Type 0 where
  pub size : length p.marks.items ≡ nodes
  pub keeps : AreConsistent arcs p.marks.items p.order.items p.count
  pub no_order : p.order.items ≡ []
  pub no_below : p.below.items ≡ []

-- each node that is fresh now was fresh before
abbrev pub NoneFreshened : Pass → Pass → Type 0
NoneFreshened old new = (x : ℕ) → node_mark new.marks.items x ≡ Fresh → node_mark old.marks.items x ≡ Fresh

-- a bound on the steps that are left for the arcs of a frame
abbrev pub arcs_left : Frame → ℕ
arcs_left f = f.next + 1

-- a bound on the steps that are left
abbrev pub steps_left : List (ℕ × ℕ) → Pass → Frame → ℕ
steps_left arcs p top = fresh_count p.marks.items * (length arcs + 2) + (arcs_left top + sum_by arcs_left p.below.items)

-- one step of the search
pub record TakesStep (nodes : ℕ) (arcs : List (ℕ × ℕ)) (old : Pass) (top : Frame) (new : Pass) (next : Frame) : Type 0 where
  pub midway : IsVisiting nodes arcs new next
  pub falls : steps_left arcs new next < steps_left arcs old top
  pub freshened : NoneFreshened old new

-- a fresh node is entered: it becomes the last open one
pub record Enters (last : List ℕ) (node : ℕ) (old new : Pass) (f : Frame) : Type 0 where
  pub marks : new.marks.items ≡ slice_set old.marks.items node (Open (length old.order.items))
  pub order : new.order.items ≡ old.order.items ++ node ∷ []
  pub below : new.below.items ≡ old.below.items
  pub count : new.count ≡ old.count
  pub place : f.place ≡ length old.order.items
  pub low : f.low ≡ length old.order.items
  pub next : f.next ≡ slice_index last node

-- the open nodes from an index on become a component
pub record ClosesComponent (place : ℕ) (old new : Pass) : Type 0 where
  pub marks : ClosesFrom old.order.items place (length old.order.items) old.count old.marks.items new.marks.items
  pub order : new.order.items ≡ take place old.order.items
  pub below : new.below.items ≡ old.below.items
  pub count : new.count ≡ old.count + 1

-- the last frame is left: there is one below it, or none
abbrev pub LeavesNode : ℕ → List (ℕ × ℕ) → Pass → Frame → Pass → Option Frame → Type 0
LeavesNode nodes arcs old top new (Some next) = TakesStep nodes arcs old top new next
LeavesNode nodes arcs old top new None = IsIdle nodes arcs new × NoneFreshened old new

-- The states of nodes in the depth-first search, and the components that are closed.
use Rattle.std.specs.Prelude.{◌≡◌, ℕ, ◌+◌, ◌^◌, ◌<◌, ◌≤◌, ◌↔◌, List, length}
use Rattle.std.specs.List.{slice_index_or, sum_by}
use Rattle.graph_walk.specs.Walk.{Reaches}
use Rattle.graph_walk.specs.inner.Chains.{head, tail}
use Rattle.graph_walk.specs.inner.Places.{At}
use Rattle.graph_walk.specs.declared.pass.Mark.{Mark}
use Rattle.graph_walk.specs.declared.pass.Mark.TheVariants.{Fresh, Open, Closed}

-- the state of a node
abbrev pub node_mark : List Mark → ℕ → Mark
node_mark marks x = slice_index_or marks x Fresh

-- the component of x is closed under this number
abbrev pub IsInComponent : List Mark → ℕ → ℕ → Type 0
IsInComponent marks x number = node_mark marks x ≡ Closed number

abbrev pub IsClosed : List Mark → ℕ → Type 0
IsClosed marks x = (number : ℕ) × IsInComponent marks x number

-- the number of a closed node, and 0 of any other
abbrev pub component_number : Mark → ℕ
component_number Fresh = 0
component_number (Open place) = 0
component_number (Closed number) = number

abbrev pub one_if_fresh : Mark → ℕ
one_if_fresh Fresh = 1
one_if_fresh (Open place) = 0
one_if_fresh (Closed number) = 0

-- the number of nodes that were not entered
abbrev pub fresh_count : List Mark → ℕ
fresh_count marks = sum_by one_if_fresh marks

-- the closed nodes are components, numbered from 0
pub record AreNumbered (arcs : List (ℕ × ℕ)) (numbered : ℕ → ℕ → Type 0) (count : ℕ) : Type 0 where
  pub below : (x number : ℕ) → numbered x number → number < count
  pub stays : (x number place : ℕ) → numbered x number → place < length arcs → tail arcs place ≡ x → (other : ℕ) × numbered (head arcs place) other
  pub same : (x y m n : ℕ) → numbered x m → numbered y n → (m ≡ n) ↔ (Reaches arcs x y × Reaches arcs y x)
  pub all : (number : ℕ) → number < count → (x : ℕ) × numbered x number

-- the states of the nodes, the list of the open nodes and the count of closed components agree
pub record AreConsistent (arcs : List (ℕ × ℕ)) (marks : List Mark) (order : List ℕ) (count : ℕ) : Type 0 where
  pub stands : (x i : ℕ) → node_mark marks x ≡ Open i → At order i x
  pub opened : (x i : ℕ) → At order i x → node_mark marks x ≡ Open i
  pub closed : AreNumbered arcs (IsInComponent marks) count
  pub room : count + fresh_count marks + length order ≤ length marks
  pub few : length marks < 2 ^ 32

-- of the open nodes, those from the index `from` on and before `to` are closed under the number
pub record ClosesFrom (order : List ℕ) (from to number : ℕ) (old new : List Mark) : Type 0 where
  pub size : length new ≡ length old
  pub chosen : (i x : ℕ) → from ≤ i → i < to → At order i x → node_mark new x ≡ Closed number
  pub others : (x : ℕ) → ((i : ℕ) → from ≤ i → i < to → At order i x → ⊥) → node_mark new x ≡ node_mark old x
  pub fewer : fresh_count new ≤ fresh_count old

-- The steps of a run together with those of the trees.
use Rattle.std.proofs.Common.{◌≡◌, ◌<◌, ◌≤◌, ℕ, List, [], ◌∷◌, Contains, length}
use Rattle.safra_trees.specs.Step.{greens, grown, pruned, reds}
use Rattle.safra_trees.specs.Trees.{Node}
use Rattle.safra_trees.specs.declared.moves.Move.{Move}

-- the state and the tree before the step, the moves of its letter, the one of them that the run takes, the tree after it,
-- and the names that are green and red
pub record RunStep : Type 0 where
  pub state : ℕ
  pub tree : List Node
  pub moves : List Move
  pub move : Move
  pub next : List Node
  pub green : List ℕ
  pub red : List ℕ

-- the run takes a move of the letter, to a state below n, and tree and names are those of the step of the tree
pub record IsRunStep (n : ℕ) (e : RunStep) : Type 0 where
  pub takes : Contains e.moves e.move
  pub leaves : e.move.from ≡ e.state
  pub below : e.move.to < n
  pub steps : e.next ≡ pruned (grown n e.moves e.tree)
  pub green_names : e.green ≡ greens (grown n e.moves e.tree)
  pub red_names : e.red ≡ reds (grown n e.moves e.tree) (length e.tree)

-- the steps follow one another, from a state and a tree to a state and a tree
abbrev pub IsRun : ℕ → List Node → List RunStep → ℕ → List Node → Type 0
IsRun p t [] q u = (p ≡ q) × (t ≡ u)
IsRun p t (e ∷ es) q u = (p ≡ e.state) × (t ≡ e.tree) × IsRun e.move.to e.next es q u

-- a name that is green at some step, while none up to it is red at any
pub record HasGreenStep (es : List RunStep) : Type 0 where
  pub name : ℕ
  pub step : RunStep
  pub there : Contains es step
  pub green : Contains step.green name
  pub none_red : (e : RunStep) (f : ℕ) → Contains es e → f ≤ name → Contains e.red f → ⊥

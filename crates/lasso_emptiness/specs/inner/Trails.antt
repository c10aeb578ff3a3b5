-- Paths along edges, and accepting closed paths.
use Rattle.std.specs.Prelude.{◌≡◌, ℕ, ◌<◌, true, List, [], ◌∷◌, length, Contains}
use Rattle.aut_base.specs.Formula.{FormulaTree}
use Rattle.aut_core.specs.declared.link.Link.{Link}
use Rattle.lasso_emptiness.specs.declared.live.EdgeRef.{EdgeRef}
use Rattle.lasso_emptiness.specs.inner.Edges.{met_along}

-- a path from p to q along edges of this kind, each beginning where the one before ends
abbrev pub IsTrail : (EdgeRef → Type 0) → ℕ → List EdgeRef → ℕ → Type 0
IsTrail Kind p [] q = p ≡ q
IsTrail Kind p (e ∷ es) q = Kind e × (e.from ≡ p) × IsTrail Kind e.to es q

-- an accepting closed path: of one edge or more, all of this kind, whose marks meet the condition
pub record IsAccepting (links : List Link) (Kind : EdgeRef → Type 0) (f : FormulaTree) (cycle : List EdgeRef) : Type 0 where
  pub some : 0 < length cycle
  pub state : ℕ
  pub closed : IsTrail Kind state cycle state
  pub meets : met_along links cycle f ≡ true

abbrev pub NoneAccepting : List Link → (EdgeRef → Type 0) → FormulaTree → Type 0
NoneAccepting links Kind f = (cycle : List EdgeRef) → IsAccepting links Kind f cycle → ⊥

-- the edge is in one of the groups
pub record InSome (groups : List (List EdgeRef)) (e : EdgeRef) : Type 0 where
  pub group : List EdgeRef
  pub listed : Contains groups group
  pub here : Contains group e

-- no group has such a closed path
abbrev pub NoneInAny : List Link → List (List EdgeRef) → FormulaTree → Type 0
NoneInAny links groups f = (group : List EdgeRef) → Contains groups group → NoneAccepting links (Contains group) f

-- Accepting components, whose edges together meet a condition, and the answers of a search for one.
use Rattle.std.specs.Prelude.{◌≡◌, ◌<◌, true, List, length, Contains, Option, MatchOption}
use Rattle.aut_base.specs.Formula.{FormulaTree}
use Rattle.aut_core.specs.declared.link.Link.{Link}
use Rattle.lasso_emptiness.specs.declared.live.EdgeRef.{EdgeRef}
use Rattle.lasso_emptiness.specs.inner.Edges.{met_along}
use Rattle.lasso_emptiness.specs.inner.Groups.{IsStronglyConnected}
use Rattle.lasso_emptiness.specs.inner.Trails.{InSome, NoneAccepting, NoneInAny}

-- At least one edge of this kind; the edges are strongly connected, and together meet the condition. So a closed path that has all of
-- them is accepting.
pub record IsAcceptingComponent (links : List Link) (Kind : EdgeRef → Type 0) (f : FormulaTree) (group : List EdgeRef) : Type 0 where
  pub some : 0 < length group
  pub kind : (e : EdgeRef) → Contains group e → Kind e
  pub joined : IsStronglyConnected group
  pub meets : met_along links group f ≡ true

-- an accepting component, or None where no closed path is accepting
abbrev pub Finds : List Link → (EdgeRef → Type 0) → FormulaTree → Option (List EdgeRef) → Type 0
Finds links Kind f found = MatchOption found (NoneAccepting links Kind f) (IsAcceptingComponent links Kind f)

-- an accepting component of edges of the groups, or None where no group has an accepting closed path
abbrev pub FindsInAny : List Link → List (List EdgeRef) → FormulaTree → Option (List EdgeRef) → Type 0
FindsInAny links groups f found = MatchOption found (NoneInAny links groups f) (IsAcceptingComponent links (InSome groups) f)

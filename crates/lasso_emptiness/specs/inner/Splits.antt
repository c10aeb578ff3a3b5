-- Verdicts on groups of edges, and groups divided by a `Fin`.
use Rattle.std.specs.Prelude.{◌≡◌, ◌⊎◌, ℕ, ◌<◌, Bool, true, false, List, length, Contains}
use Rattle.aut_base.specs.Formula.{FormulaTree}
use Rattle.aut_core.specs.declared.link.Link.{Link}
use Rattle.lasso_emptiness.specs.declared.live.EdgeRef.{EdgeRef}
use Rattle.lasso_emptiness.specs.declared.search.ComponentsVerdict.{ComponentsVerdict}
use Rattle.lasso_emptiness.specs.declared.search.ComponentsVerdict.TheVariants.{Met, Never, Open}
use Rattle.lasso_emptiness.specs.inner.Edges.{marks_of, met_along, on_side}
use Rattle.lasso_emptiness.specs.inner.Judged.{has_side}
use Rattle.lasso_emptiness.specs.inner.Picked.{Picks}
use Rattle.lasso_emptiness.specs.inner.Trails.{InSome, NoneAccepting, NoneInAny}

-- the group is of the list, and all its edges together meet the condition
pub record IsMetGroup (links : List Link) (groups : List (List EdgeRef)) (f : FormulaTree) (group : List EdgeRef) : Type 0 where
  pub listed : Contains groups group
  pub some : 0 < length group
  pub meets : met_along links group f ≡ true

-- these groups of the list are left open; no other has a closed path that meets the condition
pub record AreLeft (links : List Link) (groups : List (List EdgeRef)) (f : FormulaTree) (left : List (List EdgeRef)) : Type 0 where
  pub inside : (group : List EdgeRef) → Contains left group → Contains groups group
  pub others : (group : List EdgeRef) → Contains groups group → Contains left group ⊎ NoneAccepting links (Contains group) f

abbrev pub IsSurveyed : List Link → List (List EdgeRef) → FormulaTree → ComponentsVerdict → Type 0
IsSurveyed links groups f (Met group) = IsMetGroup links groups f group
IsSurveyed links groups f Never = NoneInAny links groups f
IsSurveyed links groups f (Open side left) = (has_side side.set side.neg f ≡ true) × AreLeft links groups f left.items

-- some edge of the group satisfies the set literal
abbrev pub Crosses : List Link → ℕ → Bool → List EdgeRef → Type 0
Crosses links set neg group = (e : EdgeRef) × Contains group e × (on_side set neg (marks_of links e) ≡ true)

-- `off` has the edges of the groups that don't satisfy the set literal, and `crossed` the groups with an edge that does
pub record AreGroupsSplit (links : List Link) (set : ℕ) (neg : Bool) (groups : List (List EdgeRef)) (off : List EdgeRef) (crossed : List (List EdgeRef)) : Type 0 where
  pub off_some : (e : EdgeRef) → Contains off e → InSome groups e
  pub off_side : (e : EdgeRef) → Contains off e → on_side set neg (marks_of links e) ≡ false
  pub all_off : (e : EdgeRef) → InSome groups e → on_side set neg (marks_of links e) ≡ false → Contains off e
  pub inside : (group : List EdgeRef) → Contains crossed group → Contains groups group
  pub crosses : (group : List EdgeRef) → Contains crossed group → Crosses links set neg group
  pub all_crossed : (group : List EdgeRef) (e : EdgeRef) → Contains groups group → Contains group e → on_side set neg (marks_of links e) ≡ true → Contains crossed group

-- the edges that don't satisfy the set literal were added
abbrev pub AddsOff : List Link → ℕ → Bool → List EdgeRef → List EdgeRef → List EdgeRef → Type 0
AddsOff links set neg = Picks (λ e. on_side set neg (marks_of links e) ≡ false)

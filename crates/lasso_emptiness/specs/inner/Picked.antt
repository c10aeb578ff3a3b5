-- Adding those edges of a list that are of some kind.
use Rattle.std.specs.Prelude.{◌⊎◌, List, Contains}
use Rattle.lasso_emptiness.specs.declared.live.EdgeRef.{EdgeRef}

-- those of these edges that are of this kind were added, and no others
pub record Picks (Kind : EdgeRef → Type 0) (edges old new : List EdgeRef) : Type 0 where
  pub kept : (e : EdgeRef) → Contains old e → Contains new e
  pub added : (e : EdgeRef) → Contains edges e → Kind e → Contains new e
  pub nothing_else : (e : EdgeRef) → Contains new e → Contains old e ⊎ (Contains edges e × Kind e)

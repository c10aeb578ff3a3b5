-- Choices of edges such that cycles with all of them meet a condition.
use Rattle.std.specs.Prelude.{◌≡◌, ◌⊎◌, ◌++◌, ◌∷◌, [], ℕ, ◌<◌, Bool, true, false, List, All, Contains, Some, length, map, slice_get}
use Rattle.std.specs.List.{list_all, list_any}
use Rattle.aut_base.specs.Formula.{FormulaTree, met}
use Rattle.aut_core.specs.declared.link.Link.{Link}
use Rattle.lasso_emptiness.specs.declared.live.EdgeRef.{EdgeRef}
use Rattle.lasso_emptiness.specs.inner.Edges.{marks_of, on_side}

-- Some of `edges` were added to the chosen ones, so that each cycle of `edges` that has all chosen ones passes the test.
pub record Suits (links : List Link) (edges : List EdgeRef) (test : List (List ℕ) → Type 0) (old new : List EdgeRef) : Type 0 where
  pub kept : All (Contains new) old
  pub inside : All (Contains edges) new
  pub enough : (cycle : List EdgeRef) → All (Contains edges) cycle → All (Contains cycle) new → test (map (marks_of links) cycle)

-- the same, for the test whether the cycle meets the condition
abbrev pub Serves : List Link → List EdgeRef → FormulaTree → List EdgeRef → List EdgeRef → Type 0
Serves links edges f = Suits links edges (λ marks. met marks f ≡ true)

abbrev pub ServesAll : List Link → List EdgeRef → List FormulaTree → List EdgeRef → List EdgeRef → Type 0
ServesAll links edges fs = Suits links edges (λ marks. list_all (met marks) fs ≡ true)

-- the condition is one of these parts
abbrev pub IsPartOf : List FormulaTree → FormulaTree → Type 0
IsPartOf fs f = (place : ℕ) × (slice_get fs place ≡ Some f)

-- nothing was added, or an edge, where none satisfied the set literal
abbrev pub AddsOnce : List Link → ℕ → Bool → List EdgeRef → List EdgeRef → Type 0
AddsOnce links set neg old new = (new ≡ old) ⊎ (All (λ e. on_side set neg (marks_of links e) ≡ false) old × ((e : EdgeRef) × (new ≡ old ++ e ∷ [])))

-- at least one of these edges is chosen, and each cycle of these edges that has all chosen ones meets the condition
pub record AreNeeded (links : List Link) (edges : List EdgeRef) (f : FormulaTree) (needed : List EdgeRef) : Type 0 where
  pub some : 0 < length needed
  pub inside : All (Contains edges) needed
  pub enough : (cycle : List EdgeRef) → All (Contains edges) cycle → All (Contains cycle) needed → met (map (marks_of links) cycle) f ≡ true

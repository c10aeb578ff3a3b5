-- Whether edges are disjoint and exhaustive, by states, as the code decides it from guards.
use Rattle.std.specs.Prelude.{◌≡◌, ◌↔◌, ℕ, ◌==◌, ◌<◌, ◌&&◌, ◌||◌, Bool, false, true, IsTrue, List, filter, AllPairs}
use Rattle.std.specs.List.{list_any}
use Rattle.aut_base.specs.Automaton.{LabelledEdge}
use Rattle.aut_base.specs.Label.{holds_at, truth}
use Rattle.aut_base.specs.Word.{NameSet}
use Rattle.aut_core.specs.Deterministic.{AreApart, is_met}
use Rattle.aut_core.specs.declared.survey.Met.{Met}
use Rattle.aut_core.specs.declared.survey.GuardSurvey.{GuardSurvey}
use Rattle.label_guards.specs.Guards.{truth_in}
use Rattle.label_guards.specs.Store.{Has, Store}
use Rattle.label_guards.specs.declared.guard.Guard.{Guard}

-- no letter meets two of the edges
abbrev pub AreAllApart : List (List ℕ) → List LabelledEdge → Type 0
AreAllApart names = AllPairs (AreApart names)

-- each letter meets one of the edges
abbrev pub IsFilled : List (List ℕ) → List LabelledEdge → Type 0
IsFilled names es = (letter : NameSet) → list_any (is_met names letter) es ≡ true

-- the edges that leave the state
abbrev pub edges_from : ℕ → List LabelledEdge → List LabelledEdge
edges_from state = filter (λ e. e.from == state)

-- the survey once these edges, of one state, are added to a known one
pub record IsSurvey (names : List (List ℕ)) (es : List LabelledEdge) (known found : GuardSurvey) : Type 0 where
  pub disjoint : IsTrue found.disjoint ↔ (IsTrue known.disjoint × AreAllApart names es)
  pub exhaustive : IsTrue found.exhaustive ↔ (IsTrue known.exhaustive × IsFilled names es)

-- The guard is the disjunction of the edges' labels, where that can still matter. `disjoint` says that no letter meets two of the
-- edges, and that it was true before.
pub record IsUnionSurveyed (names : List (List ℕ)) (s : Store) (es : List LabelledEdge) (known : GuardSurvey) (met : Met) : Type 0 where
  pub has : Has s met.guard
  pub truth : IsTrue (met.disjoint || known.exhaustive) → (on : ℕ → Bool) → truth_in s met.guard on ≡ list_any (λ e. truth on e.label) es
  pub disjoint : IsTrue met.disjoint ↔ (IsTrue known.disjoint × AreAllApart names es)

-- no letter satisfies both guards
abbrev pub AreMetApart : Store → List (List ℕ) → Guard → Guard → Type 0
AreMetApart s names g h = (letter : NameSet) → (truth_in s g (holds_at names letter) && truth_in s h (holds_at names letter)) ≡ false

-- each letter satisfies the guard
abbrev pub IsMetAlways : Store → List (List ℕ) → Guard → Type 0
IsMetAlways s names g = (letter : NameSet) → truth_in s g (holds_at names letter) ≡ true

-- the survey of all edges that leave states below this one
pub record AreSurveyed (names : List (List ℕ)) (es : List LabelledEdge) (states : ℕ) (found : GuardSurvey) : Type 0 where
  pub disjoint : IsTrue found.disjoint ↔ ((state : ℕ) → state < states → AreAllApart names (edges_from state es))
  pub exhaustive : IsTrue found.exhaustive ↔ ((state : ℕ) → state < states → IsFilled names (edges_from state es))

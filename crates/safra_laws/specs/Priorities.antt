-- The priorities of the steps of trees, for the condition parity min odd.
use Rattle.std.specs.Prelude.{◌≡◌, ℕ, ◌+◌, ◌<◌, ◌≤◌, min, Option, None, Some, List, [], ◌∷◌, ◌++◌, length, map, slice_get}
use Rattle.safra_trees.specs.Step.{IsTree, grown, greens, reds}
use Rattle.safra_trees.specs.Trees.{Node}
use Rattle.safra_trees.specs.declared.moves.Move.{Move}
use Rattle.safra_laws.specs.Rounds.{next_tree}

-- the least of d and the numbers of the list
abbrev pub lowest : ℕ → List ℕ → ℕ
lowest d [] = d
lowest d (x ∷ xs) = min x (lowest d xs)

-- The priority of a step, where trees have at most `most` names: the least of 2f for the red names f and 2g + 1 for the
-- green names g, and 2 * most where there is neither.
abbrev pub priority : ℕ → ℕ → List Move → List Node → ℕ
priority n most ms t = lowest (most + most) (map (λ f. f + f) (reds (grown n ms t) (length t)) ++ map (λ g. g + g + 1) (greens (grown n ms t)))

-- A priority is the number of one of 2 * most + 1 acceptance sets.
abbrev pub PrioritiesAreBelow : Type 0
PrioritiesAreBelow = (n most : ℕ) (ms : List Move) (t : List Node) → priority n most ms t < most + most + 1

-- the priority from the least red and the least green name, if there are any
abbrev pub priority_by : ℕ → Option ℕ → Option ℕ → ℕ
priority_by most None None = most + most
priority_by most (Some f) None = f + f
priority_by most None (Some g) = g + g + 1
priority_by most (Some f) (Some g) = min (f + f) (g + g + 1)

-- The priority of a step follows from the least of its red and the least of its green names, where the tree has at most
-- `most` names.
abbrev pub PriorityByFirst : Type 0
PriorityByFirst = (n most : ℕ) (ms : List Move) (t : List Node) → IsTree t → length t ≤ most
    → priority n most ms t ≡ priority_by most (slice_get (reds (grown n ms t) (length t)) 0) (slice_get (greens (grown n ms t)) 0)

-- the priorities of the steps along a list of letters
abbrev pub priorities : ℕ → ℕ → List Node → List (List Move) → List ℕ
priorities n most t [] = []
priorities n most t (ms ∷ w) = priority n most ms t ∷ priorities n most (next_tree n ms t) w

-- the least of these priorities, 2 * most where there are none
abbrev pub least_priority : ℕ → ℕ → List Node → List (List Move) → ℕ
least_priority n most t w = lowest (most + most) (priorities n most t w)

pub record IsOdd (x : ℕ) : Type 0 where
  pub half : ℕ
  pub is : x ≡ half + half + 1

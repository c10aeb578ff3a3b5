-- Which node claims a state: of all nodes for which some move claims it, the first in the order of claims.
use Rattle.std.specs.Prelude.{◌+◌, ◌-◌, ◌==◌, ◌&&◌, ℕ, suc, Bool, List, [], ◌∷◌, cond, length, nat_lt}
use Rattle.safra_trees.specs.Flat.{at}
use Rattle.safra_trees.specs.declared.moves.Move.{Move}

-- the place of a state by the lists of a tree, `none` where it has none
abbrev pub owner_in : ℕ → List ℕ → List ℕ → ℕ → ℕ
owner_in none [] places s = none
owner_in none (p ∷ states) [] s = none
owner_in none (p ∷ states) (x ∷ places) s = owner_in (cond (p == s) x none) states places s

-- the parent of an old or a fresh name
abbrev pub grown_parent : List ℕ → ℕ → ℕ
grown_parent parents y = cond (nat_lt y (length parents)) (at parents y) (y - length parents)

-- the number of an old or a fresh name in the order, a fresh one right before its parent; any other name comes after all of
-- them
abbrev pub key : List ℕ → ℕ → ℕ
key order y = cond (nat_lt y (length order)) (suc (at order y + at order y))
    (cond (nat_lt y (length order + length order)) (at order (y - length order) + at order (y - length order)) (length order + length order))

abbrev pub first_of : List ℕ → ℕ → ℕ → ℕ
first_of order c d = cond (nat_lt (key order d) (key order c)) d c

-- the name for which a move from a place claims its goal: the place, or the place's fresh child where the move is accepting
abbrev pub claimant : ℕ → ℕ → Move → ℕ
claimant m place move = cond move.accepting (m + place) place

abbrev pub leads : ℕ → (ℕ → ℕ) → ℕ → Move → Bool
leads m place s move = nat_lt (place move.from) m && (move.to == s)

-- the name that claims the state after these moves, where c did before them
abbrev pub claim : List ℕ → (ℕ → ℕ) → ℕ → List Move → ℕ → ℕ
claim order place s [] c = c
claim order place s (move ∷ moves) c = claim order place s moves (cond (leads (length order) place s move) (first_of order c (claimant (length order) (place move.from) move)) c)

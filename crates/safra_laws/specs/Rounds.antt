-- Words over letters that are lists of moves: the trees after them, paths of moves along them, and what it means that the
-- automaton of these moves accepts a stem and then a round again and again.
use Rattle.std.specs.Prelude.{◌≡◌, ℕ, ◌<◌, ◌≤◌, true, List, [], ◌∷◌, ◌++◌, Contains, length}
use Rattle.std.specs.List.{list_any}
use Rattle.aut_base.specs.Word.{copies}
use Rattle.safra_trees.specs.Step.{grown, greens, pruned, reds}
use Rattle.safra_trees.specs.Trees.{Node}
use Rattle.safra_trees.specs.declared.moves.Move.{Move}

-- the step of a tree under the moves of a letter
abbrev pub next_tree : ℕ → List Move → List Node → List Node
next_tree n ms t = pruned (grown n ms t)

-- the tree after these letters
abbrev pub tree_after : ℕ → List Node → List (List Move) → List Node
tree_after n t [] = t
tree_after n t (ms ∷ w) = tree_after n (next_tree n ms t) w

-- a path from p to q that takes one move of each letter
abbrev pub IsMovePath : ℕ → List (List Move) → List Move → ℕ → Type 0
IsMovePath p [] [] q = p ≡ q
IsMovePath p [] (e ∷ es) q = ⊥
IsMovePath p (ms ∷ w) [] q = ⊥
IsMovePath p (ms ∷ w) (e ∷ es) q = (p ≡ e.from) × Contains ms e × IsMovePath e.to w es q

-- the moves of these letters lead to states below n
abbrev pub GoalsBelow : ℕ → List (List Move) → Type 0
GoalsBelow n [] = Unit {0}
GoalsBelow n (ms ∷ w) = ((m : Move) → Contains ms m → m.to < n) × GoalsBelow n w

-- a path from a start to the state takes one move of each letter
pub record IsReachedByWord (starts : List ℕ) (w : List (List Move)) (state : ℕ) : Type 0 where
  pub start : ℕ
  pub path : List Move
  pub is_start : Contains starts start
  pub leads : IsMovePath start w path state

-- no tree before one of these letters has more names
abbrev pub NamesAtMost : ℕ → ℕ → List Node → List (List Move) → Type 0
NamesAtMost n most t [] = Unit {0}
NamesAtMost n most t (ms ∷ w) = (length t ≤ most) × NamesAtMost n most (next_tree n ms t) w

-- The automaton accepts the stem and then the round again and again: a path from a start reads the stem and the round, and
-- one from its end back to that end reads the round `cycle_rounds` times and has an accepting move.
pub record IsAccepted (starts : List ℕ) (stem round : List (List Move)) : Type 0 where
  pub start : ℕ
  pub state : ℕ
  pub cycle_rounds : ℕ
  pub path_edges : List Move
  pub cycle : List Move
  pub is_start : Contains starts start
  pub leads : IsMovePath start (stem ++ round) path_edges state
  pub positive : 0 < cycle_rounds
  pub returns : IsMovePath state (copies cycle_rounds round) cycle state
  pub accepts : list_any (λ e. e.accepting) cycle ≡ true

-- neither the name nor a lower one is red at any of these letters
abbrev pub NeverRed : ℕ → ℕ → List Node → List (List Move) → Type 0
NeverRed n name t [] = Unit {0}
NeverRed n name t (ms ∷ w) = ((f : ℕ) → f ≤ name → Contains (reds (grown n ms t) (length t)) f → ⊥) × NeverRed n name (next_tree n ms t) w

-- a name that is green at some letter of the round, while neither it nor a lower one is red at any
pub record HasGreenName (n : ℕ) (t : List Node) (round : List (List Move)) : Type 0 where
  pub name : ℕ
  pub before : List (List Move)
  pub letter : List Move
  pub behind : List (List Move)
  pub parts : round ≡ before ++ letter ∷ behind
  pub green : Contains (greens (grown n letter (tree_after n t before))) name
  pub never_red : NeverRed n name t round

-- The language of trees, both ways: from a green name and an odd priority to an accepting run of the automaton, and from an
-- accepting run to these.
use Rattle.std.specs.Prelude.{◌≡◌, ◌<◌, ℕ, true, List, [], ◌∷◌, ◌++◌}
use Rattle.std.specs.List.{list_any}
use Rattle.aut_base.specs.Word.{copies}
use Rattle.safra_trees.specs.Step.{IsTree}
use Rattle.safra_trees.specs.Trees.{Node, first_tree, holds}
use Rattle.safra_trees.specs.declared.moves.Move.{Move}
use Rattle.safra_laws.specs.Priorities.{IsOdd, least_priority}
use Rattle.safra_laws.specs.Rounds.{GoalsBelow, HasGreenName, IsAccepted, IsMovePath, NamesAtMost, tree_after}

-- Where a run with an accepting move and the trees both come back after a round, some name is green in the round and
-- neither it nor a lower one is red there: a stable green name (`HasGreenName`).
abbrev pub AcceptedIsGreen : Type 0
AcceptedIsGreen = (n p : ℕ) (t : List Node) (round : List (List Move)) (es : List Move) → IsTree t → holds t 0 p ≡ true → GoalsBelow n round
    → IsMovePath p round es p → tree_after n t round ≡ t → list_any (λ e. e.accepting) es ≡ true → HasGreenName n t round

-- a state that the name holds, and a path from it back to it over some rounds, with an accepting move
pub record HasCycle (name : ℕ) (t : List Node) (round : List (List Move)) : Type 0 where
  pub state : ℕ
  pub cycle_rounds : ℕ
  pub path : List Move
  pub here : holds t name state ≡ true
  pub positive : 0 < cycle_rounds
  pub leads : IsMovePath state (copies cycle_rounds round) path state
  pub accepts : list_any (λ e. e.accepting) path ≡ true

-- Where the trees come back after a round with a stable green name, that name, after the letter at which it is green, holds
-- a state with an accepting cycle over the round begun there.
abbrev pub GreenHasCycle : Type 0
GreenHasCycle = (n : ℕ) (t : List Node) (round : List (List Move)) → IsTree t → tree_after n t round ≡ t → (green : HasGreenName n t round)
    → HasCycle green.name (tree_after n t (green.before ++ green.letter ∷ [])) (green.behind ++ (green.before ++ green.letter ∷ []))

-- So the automaton accepts, where the first tree was that of its starts.
abbrev pub GreenIsAccepted : Type 0
GreenIsAccepted = (n : ℕ) (starts : List ℕ) (stem round : List (List Move)) → tree_after n (tree_after n (first_tree n starts) stem) round ≡ tree_after n (first_tree n starts) stem
    → HasGreenName n (tree_after n (first_tree n starts) stem) round → IsAccepted starts stem round

-- A stable green name makes the least priority of the round odd, where no tree has more than `most` names.
abbrev pub GreenIsOdd : Type 0
GreenIsOdd = (n most : ℕ) (t : List Node) (round : List (List Move)) → IsTree t → NamesAtMost n most t round → HasGreenName n t round → IsOdd (least_priority n most t round)

-- Where the least priority of a round is odd, the round has a stable green name.
abbrev pub OddIsGreen : Type 0
OddIsGreen = (n most : ℕ) (t : List Node) (round : List (List Move)) → IsOdd (least_priority n most t round) → HasGreenName n t round

-- Where a run with an accepting move and the trees both come back after a round, the least priority of the round is odd.
abbrev pub AcceptedIsOdd : Type 0
AcceptedIsOdd = (n most p : ℕ) (t : List Node) (round : List (List Move)) (es : List Move) → IsTree t → holds t 0 p ≡ true → GoalsBelow n round → IsMovePath p round es p
    → tree_after n t round ≡ t → NamesAtMost n most t round → list_any (λ e. e.accepting) es ≡ true → IsOdd (least_priority n most t round)

-- Where the trees come back after a round whose least priority is odd, the automaton accepts.
abbrev pub OddIsAccepted : Type 0
OddIsAccepted = (n most : ℕ) (starts : List ℕ) (stem round : List (List Move)) → tree_after n (tree_after n (first_tree n starts) stem) round ≡ tree_after n (first_tree n starts) stem
    → IsOdd (least_priority n most (tree_after n (first_tree n starts) stem) round) → IsAccepted starts stem round

-- A worked example: the automaton of the words in which `a` fails only finitely often, its determinised one, and that with
-- the dual condition.
use Rattle.std.specs.Prelude.{false, List, [], ◌∷◌}
use Rattle.aut_base.specs.Acceptance.{Accepts}
use Rattle.aut_base.specs.Automaton.{Automaton}
use Rattle.aut_base.specs.Examples.{edge, name_a, off, on}
use Rattle.aut_base.specs.Formula.{FormulaTree}
use Rattle.aut_base.specs.Label.{LabelTree}
use Rattle.acc_forms.specs.Parity.{parity_min_odd}
use Rattle.safra_trees.specs.Trees.{Node}
use Rattle.safra_laws.specs.Example.{tree_of_both, tree_of_start, tree_with_child}
use Rattle.parity_laws.specs.Buchi.{IsBuchiForm}
use Rattle.parity_laws.specs.Complement.{AreComplementLanguages, dualised}
use Rattle.parity_laws.specs.Determinised.{TracksTrees}
use Rattle.parity_laws.specs.Explored.{IsTreeExploration}

abbrev pub when_a : LabelTree
when_a = LabelTree.Prop 0

abbrev pub when_not_a : LabelTree
when_not_a = LabelTree.Not (LabelTree.Prop 0)

-- state 0 waits; state 1 is entered under `a`, and goes on under `a` alone
abbrev pub finitely_often : Automaton
finitely_often = record {
  names = name_a ∷ [];
  starts = 0 ∷ [];
  states = 2;
  edges = edge 0 LabelTree.True 0 [] ∷ edge 0 when_a 1 [] ∷ edge 1 when_a 1 (0 ∷ []) ∷ [];
  sets = 1;
  formula = FormulaTree.Inf 0 false;
}

abbrev pub its_trees : List (List Node)
its_trees = tree_of_start ∷ tree_of_both ∷ tree_with_child ∷ []

-- The states are its trees. In the last one node 1 is green under `a`, and red without.
abbrev pub determinised : Automaton
determinised = record {
  names = name_a ∷ [];
  starts = 0 ∷ [];
  states = 3;
  edges = edge 0 when_not_a 0 (4 ∷ []) ∷ edge 0 when_a 1 (4 ∷ []) ∷ edge 1 when_not_a 0 (4 ∷ []) ∷ edge 1 when_a 2 (4 ∷ []) ∷ edge 2 when_not_a 0 (2 ∷ []) ∷ edge 2 when_a 2 (3 ∷ []) ∷ [];
  sets = 5;
  formula = parity_min_odd 5;
}

-- The premises of the laws hold of the example, and so do their conclusions.
pub record WorkedDeterminisation : Type 0 where
  pub buchi : IsBuchiForm finitely_often
  pub explored : IsTreeExploration finitely_often determinised its_trees 2
  pub is_determinised : TracksTrees finitely_often determinised its_trees 2
  pub dual : AreComplementLanguages finitely_often (dualised determinised)
  -- the word with `a` always is accepted by both; the one with `a` never by the dual alone
  pub always : Accepts finitely_often [] (on ∷ [])
  pub always_too : Accepts determinised [] (on ∷ [])
  pub never : ¬ Accepts finitely_often [] (off ∷ [])
  pub never_dual : Accepts (dualised determinised) [] (off ∷ [])

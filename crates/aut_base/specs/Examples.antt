-- Small automata over one proposition `a`, and words that they accept and reject.
use Rattle.std.specs.Prelude.{ℕ, true, false, List, [], ◌∷◌}
use Rattle.std.specs.FinSet as set
use Rattle.aut_base.specs.Acceptance.{Accepts}
use Rattle.aut_base.specs.Automaton.{LabelledEdge, Automaton}
use Rattle.aut_base.specs.Formula.{FormulaTree, FormulaTrees}
use Rattle.aut_base.specs.Label.{LabelTree}
use Rattle.aut_base.specs.Word.{NameSet}

-- the text "a"
abbrev pub name_a : List ℕ
name_a = 97 ∷ []

-- the letter at which `a` holds, and the one at which it doesn't
abbrev pub on : NameSet
on = set.from_list (name_a ∷ [])

abbrev pub off : NameSet
off = set.empty

abbrev pub edge : ℕ → LabelTree → ℕ → List ℕ → LabelledEdge
edge p label q marks = record { from = p; label = label; to = q; marks = marks }

abbrev pub a : LabelTree
a = LabelTree.Prop 0

-- One state, with a loop for letters with `a` and a loop for those without, each with its marks.
abbrev pub one_state : List ℕ → List ℕ → ℕ → FormulaTree → Automaton
one_state at_on at_off sets formula = record {
  names = name_a ∷ [];
  starts = 0 ∷ [];
  states = 1;
  edges = edge 0 a 0 at_on ∷ edge 0 (LabelTree.Not a) 0 at_off ∷ [];
  sets = sets;
  formula = formula;
}

-- `a` holds at all but finitely many letters: the automaton guesses from when on.
abbrev pub ever_after : Automaton
ever_after = record {
  names = name_a ∷ [];
  starts = 0 ∷ [];
  states = 2;
  edges = edge 0 LabelTree.True 0 [] ∷ edge 0 a 1 [] ∷ edge 1 a 1 (0 ∷ []) ∷ [];
  sets = 1;
  formula = FormulaTree.Inf 0 false;
}

-- `Inf(!0) & Fin(!1)`: some edge of the cycle is outside set 0, and every edge is in set 1
abbrev pub barred : FormulaTree
barred = FormulaTree.And (FormulaTree.Inf 0 true) (FormulaTree.Fin 1 true) FormulaTrees.none

-- `a` holds infinitely often, or finitely often
abbrev pub again : Automaton
again = one_state (0 ∷ []) [] 1 (FormulaTree.Inf 0 false)

abbrev pub so_often : Automaton
so_often = one_state (0 ∷ []) [] 1 (FormulaTree.Fin 0 false)

-- Under `barred`: the loop at `off` is outside set 0, and both are inside set 1.
abbrev pub off_again : Automaton
off_again = one_state (0 ∷ 1 ∷ []) (1 ∷ []) 2 barred

-- Under `barred`: no loop is outside set 0.
abbrev pub never : Automaton
never = one_state (0 ∷ 1 ∷ []) (0 ∷ []) 2 barred

-- Every other edge is in set 0, whatever is read: over a cycle of one letter a run closes after two rounds, and not after one.
abbrev pub alternating : Automaton
alternating = record {
  names = name_a ∷ [];
  starts = 0 ∷ [];
  states = 2;
  edges = edge 0 LabelTree.True 1 [] ∷ edge 1 LabelTree.True 0 (0 ∷ []) ∷ [];
  sets = 1;
  formula = FormulaTree.Inf 0 false;
}

-- `a` holds at each letter, from start 0, or at none, from start 1.
abbrev pub either_way : List ℕ → Automaton
either_way starts = record {
  names = name_a ∷ [];
  starts = starts;
  states = 2;
  edges = edge 0 a 0 [] ∷ edge 1 (LabelTree.Not a) 1 [] ∷ [];
  sets = 0;
  formula = FormulaTree.True;
}

-- the text "b", a proposition that none of these automata has
abbrev pub name_b : List ℕ
name_b = 98 ∷ []

-- letters at which the foreign proposition holds, together with `a` and alone
abbrev pub on_and_foreign : NameSet
on_and_foreign = set.from_list (name_a ∷ name_b ∷ [])

abbrev pub foreign : NameSet
foreign = set.from_list (name_b ∷ [])

pub record WorkedExamples : Type 0 where
  pub again_on : Accepts again [] (on ∷ [])
  pub again_on_off : Accepts again [] (on ∷ off ∷ [])
  pub again_late : Accepts again (off ∷ off ∷ []) (off ∷ on ∷ [])
  pub again_off : ¬ Accepts again [] (off ∷ [])
  pub again_early : ¬ Accepts again (on ∷ on ∷ []) (off ∷ [])
  pub so_often_on : ¬ Accepts so_often [] (on ∷ [])
  pub so_often_on_off : ¬ Accepts so_often [] (on ∷ off ∷ [])
  pub so_often_late : ¬ Accepts so_often (off ∷ off ∷ []) (off ∷ on ∷ [])
  pub so_often_off : Accepts so_often [] (off ∷ [])
  pub so_often_early : Accepts so_often (on ∷ on ∷ []) (off ∷ [])
  pub ever_after_on : Accepts ever_after [] (on ∷ [])
  pub ever_after_late : Accepts ever_after (off ∷ []) (on ∷ [])
  pub ever_after_on_off : ¬ Accepts ever_after [] (on ∷ off ∷ [])
  pub off_again_off : Accepts off_again [] (off ∷ [])
  pub off_again_on_off : Accepts off_again [] (on ∷ off ∷ [])
  pub off_again_on : ¬ Accepts off_again [] (on ∷ [])
  pub never_any : (u v : List NameSet) → ¬ Accepts never u v
  pub alternating_on : Accepts alternating [] (on ∷ [])
  pub alternating_on_off_on : Accepts alternating [] (on ∷ off ∷ on ∷ [])
  pub two_starts_on : Accepts (either_way (0 ∷ 1 ∷ [])) [] (on ∷ [])
  pub two_starts_off : Accepts (either_way (0 ∷ 1 ∷ [])) [] (off ∷ [])
  pub two_starts_on_off : ¬ Accepts (either_way (0 ∷ 1 ∷ [])) [] (on ∷ off ∷ [])
  pub second_start_on : ¬ Accepts (either_way (1 ∷ [])) [] (on ∷ [])
  pub no_start_any : (u v : List NameSet) → ¬ Accepts (either_way []) u v
  pub foreign_beside : Accepts again [] (on_and_foreign ∷ [])
  pub foreign_alone : ¬ Accepts again [] (foreign ∷ [])
  pub no_cycle : (u : List NameSet) → ¬ Accepts again u []

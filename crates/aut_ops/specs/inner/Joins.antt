-- The connective by which a product joins the conditions, and the language of the product.
use Rattle.std.specs.Prelude.{◌≡◌, ℕ, List}
use Rattle.acc_forms.specs.Joined.{conj, disj}
use Rattle.aut_base.specs.Automaton.{Automaton}
use Rattle.aut_base.specs.Formula.{FormulaTree}
use Rattle.aut_core.specs.SymbolicAutomata.{AreSymbolicParts, SymbolicAutomaton, automaton_of}
use Rattle.aut_ops.specs.Products.{product_on}
use Rattle.aut_ops.specs.Languages.{AcceptsBoth, AcceptsEither}
use Rattle.aut_ops.specs.declared.join.Join.{Join}
use Rattle.aut_ops.specs.declared.join.Join.TheVariants.{All, Any}
use Rattle.aut_base.specs.Runs.{HasRuns}

abbrev pub join_of : Join → FormulaTree → FormulaTree → FormulaTree
join_of All = conj
join_of Any = disj

-- The language of a product: the intersection under And; the union under Or, if each of the automata has a run over each word.
abbrev pub JoinAccepts : Join → Automaton → Automaton → Automaton → Type 0
JoinAccepts All made a b = AcceptsBoth made a b
JoinAccepts Any made a b = HasRuns a → HasRuns b → AcceptsEither made a b

-- the parts make the product on these pairs
pub record IsProductCore (j : Join) (a b : SymbolicAutomaton) (pairs : List (ℕ × ℕ)) (c : SymbolicAutomaton) : Type 0 where
  pub shape : automaton_of c ≡ product_on (join_of j) pairs (automaton_of a) (automaton_of b)
  pub accepts : JoinAccepts j (automaton_of c) (automaton_of a) (automaton_of b)
  pub parts : AreSymbolicParts c

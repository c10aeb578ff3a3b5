-- The parts of a product together with its pairs, as `square` answers them.
use Rattle.std.specs.Prelude.{length}
use Rattle.aut_base.specs.Formula.{formula_tree}
use Rattle.aut_core.specs.SymbolicAutomata.{SymbolicAutomaton}
use Rattle.aut_ops.specs.declared.products.Paired.{Paired}

-- the automaton of these parts
abbrev pub symbolic_of_pairs : Paired → SymbolicAutomaton
symbolic_of_pairs p = record {
  names = p.names;
  starts = p.starts;
  states = length p.pairs.keys;
  links = p.links;
  sets = p.sets;
  formula = formula_tree p.formula;
  store = p.guards;
}

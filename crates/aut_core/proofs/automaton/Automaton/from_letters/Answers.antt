use Rattle.std.proofs.Common.{refl, true}
use Rattle.aut_base.specs.Formula.{formula_tree}
use Rattle.aut_core.specs.SymbolicAutomata.{SymbolicAutomaton, automaton_of}
use Rattle.aut_core.proofs.Deterministic.{one_way_surveyed}
use Rattle.aut_core.proofs.automaton.Automaton.from_letters.Goals as goal

pub surveyed-requires-clause-found : goal.surveyed-requires-clause-found
surveyed-requires-clause-found c =
    let core : SymbolicAutomaton = record {
      names = c.args.names;
      starts = c.args.starts;
      states = c.args.states;
      links = c.args.links;
      sets = c.args.sets;
      formula = formula_tree c.args.formula;
      store = c.args.guards;
    } in
    one_way_surveyed (automaton_of core) (record { disjoint = true; exhaustive = true }) c.requires.letters refl refl

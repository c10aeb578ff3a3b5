use Rattle.aut_core.specs.SymbolicAutomata.{automaton_of}
use Rattle.unambiguous.proofs.parting.Decided.{verdict}
use Rattle.unambiguous.proofs.decision.is_unambiguous.Goals as goal

pub returns-clause-answer : goal.returns-clause-answer
returns-clause-answer c =
    verdict c.args.a.now (automaton_of c.in_ok-parted.parted) c.in_ok-is_ambiguous.is_ambiguous c.well_formedness.ensures c.in_ok-parted.ensures.parted c.in_ok-is_ambiguous.ensures

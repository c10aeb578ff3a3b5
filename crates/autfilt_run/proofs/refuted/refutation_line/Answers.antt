use Rattle.std.proofs.Common.{map}
use Rattle.aut_core.specs.SymbolicAutomata.{automaton_of}
use Rattle.autfilt_run.proofs.printing.RefutationLines.{is_line, of_cycle, of_stem}
use Rattle.plan_meaning.specs.Operands.{refuted_operand}
use Rattle.autfilt_run.proofs.refuted.refutation_line.Goals as goal

pub word_line-requires-clause-stem : goal.word_line-requires-clause-stem
word_line-requires-clause-stem c =
    of_stem (automaton_of c.args.a.now) c.in-Some.found (refuted_operand c.args.plan.now (map automaton_of c.args.operands.now)) c.in_ok-found.field-0 c.in-Some.is c.in_ok-found.ensures.refuted

pub word_line-requires-clause-cycle : goal.word_line-requires-clause-cycle
word_line-requires-clause-cycle c =
    of_cycle (automaton_of c.args.a.now) c.in-Some.found (refuted_operand c.args.plan.now (map automaton_of c.args.operands.now)) c.in_ok-found.field-0 c.in-Some.is c.in_ok-found.ensures.refuted

pub returns-in_ok-word_line-in-Some-clause-tells : goal.returns-in_ok-word_line-in-Some-clause-tells
returns-in_ok-word_line-in-Some-clause-tells c =
    is_line (automaton_of c.args.a.now) c.in-Some.found (refuted_operand c.args.plan.now (map automaton_of c.args.operands.now)) c.in_ok-found.field-0 c.in_ok-word_line-in-Some.field-0
    c.in-Some.is c.in_ok-word_line-in-Some.ensures c.in_ok-found.ensures.refuted

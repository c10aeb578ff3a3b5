use Rattle.std.specs.Option.{option_copied}
use Rattle.std.specs.Prelude.{map}
use Rattle.std.proofs.Common.{◌∙◌, [], refl, sym}
use Rattle.aut_base.proofs.Outcomes.{hands_on}
use Rattle.aut_core.specs.SymbolicAutomata.{automaton_of}
use Rattle.autfilt_run.proofs.printing.Gains.{nothing}
use Rattle.autfilt_run.proofs.handling.Handling.{is_unwanted, is_wanted, is_wanted_silent, not_judged, not_printed}
use Rattle.autfilt_run.specs.Faults.{fault_of_plan}
use Rattle.autfilt_run.specs.inner.Handling.{Handles}
use Rattle.hoa_parser.specs.Raw.{written}
use Rattle.autfilt_run.proofs.handle.handle.Goals as goal

pub returns-in_err-judge-clause-handles : goal.returns-in_err-judge-clause-handles
returns-in_err-judge-clause-handles g c =
    let o = g.W.Sink.seen c.args.out.now in
    let ops = map automaton_of c.args.operands.now in
    let w = written c.args.raw in
    let f = c.in_err-judge.field-0.0 in
    hands_on c.from_residual-in_err-judge.result (fault_of_plan f) (λ r. Handles r c.args.plan.now ops w o o) c.from_residual-in_err-judge.ensures.1
    (not_judged f c.args.plan.now ops w (automaton_of c.in_ok-read.read.automaton) o c.in_ok-read.ensures.0 c.in_err-judge.ensures.judged)

pub returns-then-not-branch-clause-handles : goal.returns-then-not-branch-clause-handles
returns-then-not-branch-clause-handles g c = (
  is_unwanted c.in_ok-judge.field-0 c.args.plan.now (map automaton_of c.args.operands.now) (written c.args.raw) (automaton_of c.in_ok-read.read.automaton) c.in_ok-read.ensures.0
      c.if-not-branch.true c.in_ok-judge.ensures.judged,
  refl,
)

pub returns-then-not-prints_each-clause-handles : goal.returns-then-not-prints_each-clause-handles
returns-then-not-prints_each-clause-handles g c = (
  [],
  is_wanted_silent c.in_ok-judge.field-0 c.prints_each.result c.args.plan.now (map automaton_of c.args.operands.now) (written c.args.raw) (automaton_of c.in_ok-read.read.automaton)
      c.in_ok-read.ensures.0
      c.if-not-branch.false c.in_ok-judge.ensures.judged c.prints_each.ensures c.if-not-prints_each.true,
  nothing _,
  refl,
)

pub returns-in_err-text-clause-handles : goal.returns-in_err-text-clause-handles
returns-in_err-text-clause-handles g c =
    let o = g.W.Sink.seen c.args.out.now in
    let ops = map automaton_of c.args.operands.now in
    let w = written c.args.raw in
    let f = c.in_err-text.field-0.0 in
    hands_on c.from_residual-in_err-text.result (fault_of_plan f) (λ r. Handles r c.args.plan.now ops w o o) c.from_residual-in_err-text.ensures.1
    (not_printed f c.in_ok-judge.field-0 c.prints_each.result c.args.plan.now ops w (automaton_of c.in_ok-read.read.automaton) (option_copied c.as_ref.result) o c.in_ok-read.ensures.0
    c.if-not-branch.false c.in_ok-judge.ensures.judged c.prints_each.ensures c.if-not-prints_each.false c.in_err-text.ensures.prints)

pub returns-in-Ok-clause-handles : goal.returns-in-Ok-clause-handles
returns-in-Ok-clause-handles g c = (
  c.as_bytes.result.now,
  is_wanted c.in_ok-judge.field-0 c.prints_each.result c.args.plan.now (map automaton_of c.args.operands.now) (written c.args.raw) (automaton_of c.in_ok-read.read.automaton)
      (option_copied c.as_ref.result) c.in_ok-text.text c.as_bytes.result.now
      c.in_ok-read.ensures.0 c.if-not-branch.false c.in_ok-judge.ensures.judged c.prints_each.ensures c.if-not-prints_each.false c.as_bytes.ensures c.in_ok-text.ensures.prints
      (c.as_ref.ensures.value ∙ c.in_ok-read.ensures.1),
  c.in-Ok.ensures.ok,
  c.in-Ok.ensures.calm,
)

pub returns-clause-handles : goal.returns-clause-handles
returns-clause-handles g c = (
  c.as_bytes.result.now,
  sym c.prints_each.ensures ∙ c.if-not-prints_each.false,
  is_wanted c.in_ok-judge.field-0 c.prints_each.result c.args.plan.now (map automaton_of c.args.operands.now) (written c.args.raw) (automaton_of c.in_ok-read.read.automaton)
      (option_copied c.as_ref.result) c.in_ok-text.text c.as_bytes.result.now
      c.in_ok-read.ensures.0 c.if-not-branch.false c.in_ok-judge.ensures.judged c.prints_each.ensures c.if-not-prints_each.false c.as_bytes.ensures c.in_ok-text.ensures.prints
      (c.as_ref.ensures.value ∙ c.in_ok-read.ensures.1),
  c.in-Err.ensures.err,
  c.in-Err.ensures.failed,
)

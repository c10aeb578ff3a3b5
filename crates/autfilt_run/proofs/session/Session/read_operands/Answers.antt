use Rattle.std.proofs.Common.{◌∙◌, Ok, ap, subst}
use Rattle.autfilt_run.proofs.turns.Preparing.{fails, has_skipped, is_ready, more_opened, more_taken, prepares_on, shorter_opened, shorter_taken, taken_few}
use Rattle.autfilt_run.specs.declared.session.operand_reading.OperandTurn.{OperandTurn}
use Rattle.autfilt_run.specs.inner.OperandTurns.{TurnsAs}
use Rattle.autfilt_run.proofs.session.Session.read_operands.Goals as goal

pub returns-in_err-operand_turn-clause-prepares : goal.returns-in_err-operand_turn-clause-prepares
returns-in_err-operand_turn-clause-prepares g c =
    let s = g.I.Inputs.seen c.args.inputs.now in
    let m = g.I.Inputs.seen c.operands.inputs in
    let t = g.I.Inputs.seen c.operand_turn.new.inputs in
    let old = c.operands.self in
    let new = c.operand_turn.new.self in
    let said = c.in_err-operand_turn.ensures.turns in
    let f = c.in_err-operand_turn.field-0.0 in
    prepares_on c.from_residual.result f c.args.self.now new s t c.from_residual.ensures.1
    (fails f c.args.self.now old new s m t c.args.self.now.most_is (taken_few old) (taken_few new) c.operands.invariant.0 said.keeps said.turns)

pub operands-smaller-in-Opened : goal.operands-smaller-in-Opened
operands-smaller-in-Opened g c =
    let said = c.in_ok-operand_turn.ensures.turns in
    let s = g.I.Inputs.seen c.operands.inputs in
    let t = g.I.Inputs.seen c.operand_turn.new.inputs in
    let did = subst (λ (x : OperandTurn). TurnsAs (Ok x) c.operands.self c.operand_turn.new.self s t) c.in-Opened.is said.turns in
    shorter_opened c.operands.self c.operand_turn.new.self s t said.keeps did

pub operands-preserved-in-Opened : goal.operands-preserved-in-Opened
operands-preserved-in-Opened g c =
    let said = c.in_ok-operand_turn.ensures in
    let first = g.I.Inputs.seen c.args.inputs.now in
    let s = g.I.Inputs.seen c.operands.inputs in
    let t = g.I.Inputs.seen c.operand_turn.new.inputs in
    let did = subst (λ (x : OperandTurn). TurnsAs (Ok x) c.operands.self c.operand_turn.new.self s t) c.in-Opened.is said.turns.turns in
    (more_opened c.args.self.now c.operands.self c.operand_turn.new.self first s t c.operands.invariant.0 said.turns.keeps did, said.spent, said.held, said.room, said.tried)

pub operands-smaller : goal.operands-smaller
operands-smaller g c =
    let said = c.in_ok-operand_turn.ensures.turns in
    let s = g.I.Inputs.seen c.operands.inputs in
    let t = g.I.Inputs.seen c.operand_turn.new.inputs in
    let did = subst (λ (x : OperandTurn). TurnsAs (Ok x) c.operands.self c.operand_turn.new.self s t) c.in-Taken.is said.turns in
    shorter_taken c.operands.self c.operand_turn.new.self s t said.keeps did (c.operands.invariant.3 did.reads.was_open)

pub operands-preserved : goal.operands-preserved
operands-preserved g c =
    let said = c.in_ok-operand_turn.ensures in
    let first = g.I.Inputs.seen c.args.inputs.now in
    let s = g.I.Inputs.seen c.operands.inputs in
    let t = g.I.Inputs.seen c.operand_turn.new.inputs in
    let did = subst (λ (x : OperandTurn). TurnsAs (Ok x) c.operands.self c.operand_turn.new.self s t) c.in-Taken.is said.turns.turns in (
      more_taken c.args.self.now c.operands.self c.operand_turn.new.self first s t c.operands.invariant.0 said.turns.keeps (taken_few c.operand_turn.new.self) did,
      said.spent,
      said.held,
      said.room,
      said.tried,
    )

pub returns-in-Skipped-clause-prepares : goal.returns-in-Skipped-clause-prepares
returns-in-Skipped-clause-prepares g c =
    let said = c.in_ok-operand_turn.ensures in
    let first = g.I.Inputs.seen c.args.inputs.now in
    let s = g.I.Inputs.seen c.operands.inputs in
    let t = g.I.Inputs.seen c.operand_turn.new.inputs in
    let did = subst (λ (x : OperandTurn). TurnsAs (Ok x) c.operands.self c.operand_turn.new.self s t) c.in-Skipped.is said.turns.turns in
    has_skipped c.args.self.now c.operands.self c.operand_turn.new.self first s t c.operands.invariant.0 said.turns.keeps (taken_few c.operand_turn.new.self) did

pub returns-in-Done-clause-prepares : goal.returns-in-Done-clause-prepares
returns-in-Done-clause-prepares g c =
    let said = c.in_ok-operand_turn.ensures in
    let first = g.I.Inputs.seen c.args.inputs.now in
    let s = g.I.Inputs.seen c.operands.inputs in
    let t = g.I.Inputs.seen c.operand_turn.new.inputs in
    let did = subst (λ (x : OperandTurn). TurnsAs (Ok x) c.operands.self c.operand_turn.new.self s t) c.in-Done.is said.turns.turns in
    is_ready c.args.self.now c.operands.self c.operand_turn.new.self first s t c.operands.invariant.0 did

pub returns-in-Done-clause-closed : goal.returns-in-Done-clause-closed
returns-in-Done-clause-closed g c ready =
    let said = c.in_ok-operand_turn.ensures in
    let s = g.I.Inputs.seen c.operands.inputs in
    let t = g.I.Inputs.seen c.operand_turn.new.inputs in
    let did = subst (λ (x : OperandTurn). TurnsAs (Ok x) c.operands.self c.operand_turn.new.self s t) c.in-Done.is said.turns.turns in
    ap (λ x. x.is_open) did.same ∙ did.closed

use Rattle.std.proofs.Common.{◌≡◌, ◌∙◌, ℕ, List, ap, sym, subst, true}
use Rattle.autfilt_run.proofs.running.Advanced.{advances, is_done, not_done}
use Rattle.autfilt_run.proofs.running.Ending.{run_failed, run_finished}
use Rattle.autfilt_run.proofs.running.Running.{Adds, carries_as, finish_as, kept_as, run_more, run_none}
use Rattle.autfilt_run.proofs.running.Stepped.{steps_as}
use Rattle.autfilt_run.specs.inner.Running.{turn_line}
use Rattle.autfilt_run.specs.declared.ended.End.TheVariants as end
use Rattle.autfilt_run.specs.Plans.{prints_count}
use Rattle.autfilt_run.specs.Points.{operands_in}
use Rattle.autfilt_run.specs.Turns.{Turns, progress_after, progress}
use Rattle.autfilt_run.specs.declared.session.Turn.{Turn}
use Rattle.autfilt_run.specs.declared.session.Turn.TheVariants as turn
use Rattle.filter_plan.specs.declared.plan.Plan.{Plan}
use Rattle.autfilt_run.proofs.command.take_steps.Goals as goal

pub steps-init : goal.steps-init
steps-init g c = (
  record {
    ran = run_none c.args.session (g.I.Inputs.seen c.args.inputs.now) (g.W.Sink.seen c.args.out.now) (g.M.Sink.seen c.args.notes.now) c.args.noting c.requires.begun;
    stage = c.requires.begun.stage;
  },
  c.new-complements.ensures c.args.session.plan (operands_in c.args.session),
)

pub steps-preserved : goal.steps-preserved
steps-preserved g c =
    let m = g.I.Inputs.seen c.steps.inputs in
    let t = g.I.Inputs.seen c.step.new.inputs in
    let p = g.W.Sink.seen c.steps.out in
    let q = g.W.Sink.seen c.step.new.out in
    let old = c.steps.session in
    let new = c.step.new.self in
    let said = c.in-Ok.ensures in
    let going = not_done c.in-Ok.turn (sym c.eq.ensures ∙ c.if-eq.false) in
    let did = advances c.in-Ok.turn old new m t p q going (steps_as old new said.step.plan) said.step.counts said.step.steps in
    let added = subst (λ (x : List ℕ). Adds x c.steps.noting c.note_turn-noting.result (g.M.Sink.seen c.steps.notes) (g.M.Sink.seen c.note_turn-noting.new.notes))
    (ap (turn_line c.in-Ok.turn) c.name_in_hand-in-steps.ensures ∙ sym did.noted) c.note_turn-noting.ensures in (
      record {
        ran = run_more did.event c.args.session old new (g.I.Inputs.seen c.args.inputs.now) m t (g.W.Sink.seen c.args.out.now) p q _ _ _ c.args.noting c.steps.noting c.note_turn-noting.result
            said.step.plan said.step.operands did.asks c.steps.invariant.0.ran did.step added;
        stage = said.prepared going;
      },
      kept_as old new c.step.new.complements said.step.plan said.step.operands said.kept,
    )

pub returns-then-eq : goal.returns-then-eq
returns-then-eq g c =
    let m = g.I.Inputs.seen c.steps.inputs in
    let t = g.I.Inputs.seen c.step.new.inputs in
    let p = g.W.Sink.seen c.steps.out in
    let r = g.W.Sink.seen c.step.new.out in
    let q = g.W.Sink.seen c.finish-end.new.out in
    let old = c.steps.session in
    let new = c.step.new.self in
    let said = c.in-Ok.ensures in
    let is : c.in-Ok.turn ≡ turn.Done = is_done c.in-Ok.turn (sym c.eq.ensures ∙ c.if-eq.true) in
    let did = subst (λ (x : Turn). Turns x old new m t p r) is said.step.steps in
    let done = subst (λ (x : Turn). progress new ≡ progress_after x (progress old)) is said.step.counts in
    carries_as c.args.session c.args.noting c.note_end-then-eq.result c.finish-end.result _ _ _ _ _ _ c.note_end-then-eq.ensures.same
    (run_finished c.finish-end.result c.name_in_hand-then-eq.result.now c.args.session old (g.I.Inputs.seen c.args.inputs.now) m t
    (g.W.Sink.seen c.args.out.now) p r q _ _ _ c.args.noting c.steps.noting
    c.steps.invariant.0.ran did.0 did.1 (λ is. subst (λ (x : Plan). prints_count x ≡ true) said.step.plan (c.finish-end.ensures.due is))
    (finish_as c.finish-end.result old new r q said.step.plan done c.finish-end.ensures.finishes) c.note_end-then-eq.ensures.noted)

pub returns-in-Err : goal.returns-in-Err
returns-in-Err g c =
    let m = g.I.Inputs.seen c.steps.inputs in
    let t = g.I.Inputs.seen c.step.new.inputs in
    let p = g.W.Sink.seen c.steps.out in
    let q = g.W.Sink.seen c.step.new.out in
    let old = c.steps.session in
    let new = c.step.new.self in
    let said = c.in-Err.ensures in
    carries_as c.args.session c.args.noting c.note_end.result (end.Fault c.in-Err.fault) _ _ _ _ _ _ c.note_end.ensures.same
    (run_failed c.in-Err.fault c.name_in_hand.result.now c.args.session old new (g.I.Inputs.seen c.args.inputs.now) m t (g.W.Sink.seen c.args.out.now) p q _ _ _ c.args.noting c.steps.noting
    (steps_as old new said.step.plan) said.step.failed c.steps.invariant.0.ran said.step.steps c.name_in_hand.ensures c.note_end.ensures.noted)

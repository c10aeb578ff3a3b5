use Rattle.std.proofs.Common.{ℕ, List, Ok, subst, arith}
use Rattle.autfilt_run.proofs.running.Ending.{Closes}
use Rattle.autfilt_run.proofs.running.Prepared.{KeepsPlan, prepared_all, prepared_fails, prepared_none, prepared_skipped}
use Rattle.autfilt_run.proofs.running.Running.{Adds}
use Rattle.autfilt_run.specs.Notes.{aborted_line, line_of}
use Rattle.autfilt_run.specs.declared.ended.End.TheVariants as end
use Rattle.autfilt_run.specs.Preparing.{Prepares}
use Rattle.autfilt_run.specs.declared.session.Prep.{Prep}
use Rattle.autfilt_run.proofs.command.prepare.Goals as goal

pub operands-init : goal.operands-init
operands-init g c = record { prepared = prepared_none c.args.session.now (g.I.Inputs.seen c.args.inputs.now) (g.M.Sink.seen c.args.notes.now) c.requires.new; stage = c.requires.new.stage }

pub returns-in-Ok-Ready : goal.returns-in-Ok-Ready
returns-in-Ok-Ready g c =
    let m = g.I.Inputs.seen c.operands.inputs in
    let t = g.I.Inputs.seen c.prepare.new.inputs in
    let old = c.operands.session in
    let new = c.prepare.new.self in
    let said = c.in-Ok-Ready.ensures in
    let is = c.in-Ok-Ready.field-0-is in
    let did = subst (λ (x : Prep). Prepares (Ok x) old new m t) is said.prepares in
    let keeps : KeepsPlan old new = record { plan = said.plan; opened = said.opened; kept = said.kept } in
    prepared_all c.args.session.now.plan old new (g.I.Inputs.seen c.args.inputs.now) m t (g.M.Sink.seen c.args.notes.now) (g.M.Sink.seen c.operands.notes) c.operands.noting
    c.operands.invariant.prepared keeps did (said.ready is) (said.closed is)

pub operands-smaller : goal.operands-smaller
operands-smaller g c =
    let m = g.I.Inputs.seen c.operands.inputs in
    let t = g.I.Inputs.seen c.prepare.new.inputs in
    let old = c.operands.session in
    let new = c.prepare.new.self in
    let said = c.in-Ok-Skipped.ensures in
    let did = subst (λ (x : Prep). Prepares (Ok x) old new m t) c.in-Ok-Skipped.field-0-is said.prepares in
    omega (arith, said.most, did.rises, new.lexer.within)

pub operands-preserved : goal.operands-preserved
operands-preserved g c =
    let m = g.I.Inputs.seen c.operands.inputs in
    let t = g.I.Inputs.seen c.prepare.new.inputs in
    let l = g.M.Sink.seen c.operands.notes in
    let j = g.M.Sink.seen c.note_skipped-noting.new.notes in
    let old = c.operands.session in
    let new = c.prepare.new.self in
    let said = c.in-Ok-Skipped.ensures in
    let is = c.in-Ok-Skipped.field-0-is in
    let did = subst (λ (x : Prep). Prepares (Ok x) old new m t) is said.prepares in
    let keeps : KeepsPlan old new = record { plan = said.plan; opened = said.opened; kept = said.kept } in
    let added = subst (λ (x : List ℕ). Adds (aborted_line x) c.operands.noting c.note_skipped-noting.result l j) c.name_in_hand.ensures c.note_skipped-noting.ensures in
    record {
      prepared = prepared_skipped c.args.session.now.plan old new (g.I.Inputs.seen c.args.inputs.now) m t (g.M.Sink.seen c.args.notes.now) l j c.operands.noting c.note_skipped-noting.result
          c.operands.invariant.prepared keeps did added;
      stage = said.skipped is;
    }

pub returns-in-Err : goal.returns-in-Err
returns-in-Err g c =
    let m = g.I.Inputs.seen c.operands.inputs in
    let t = g.I.Inputs.seen c.prepare.new.inputs in
    let l = g.M.Sink.seen c.operands.notes in
    let j = g.M.Sink.seen c.note_end.new.notes in
    let old = c.operands.session in
    let new = c.prepare.new.self in
    let closes = subst (λ (x : List ℕ). Closes (line_of (end.Fault c.in-Err.fault) x) c.operands.noting l j) c.name_in_hand-name.ensures c.note_end.ensures.noted in
    prepared_fails c.in-Err.fault c.note_end.result c.args.session.now.plan old new (g.I.Inputs.seen c.args.inputs.now) m t (g.M.Sink.seen c.args.notes.now) l j c.operands.noting
    c.note_end.ensures.same c.operands.invariant.prepared c.in-Err.ensures.prepares closes

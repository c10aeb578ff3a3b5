use Rattle.std.proofs.Common.{◌∙◌, [], ap, subst}
use Rattle.autfilt_run.proofs.running.Carried.{ends_by, ends_failed, ends_made, ends_refused, ends_wanting, nothing_noted, was_refused}
use Rattle.autfilt_run.proofs.running.MadePlans.{made_within}
use Rattle.autfilt_run.proofs.running.OpenedNames.{may_open_operands, may_open_streams}
use Rattle.autfilt_run.specs.inner.Running.{FailsPreparing, IsPrepared}
use Rattle.made_stream.specs.Made.{seen_of_made}
use Rattle.filter_plan.specs.declared.plan.Plan.{Plan}
use Rattle.autfilt_run.proofs.command.autfilt.Goals as goal

pub returns-in-Err-Usage-clause-run : goal.returns-in-Err-Usage-clause-run
returns-in-Err-Usage-clause-run g c =
    ends_refused c.args.words.now c.from.result c.note_end.result _ _ _ _ _ _ c.from.ensures c.note_end.ensures.same
    (was_refused c.args.words.now c.in-Err-Usage.field-0 c.in-Err-Usage.field-0-is c.in-Err-Usage.ensures.usage)
    (c.note_end.ensures.noted (g.M.Sink.seen c.args.notes.now) [] (nothing_noted (g.M.Sink.seen c.args.notes.now)))

pub returns-in-Err-Memory-clause-run : goal.returns-in-Err-Memory-clause-run
returns-in-Err-Memory-clause-run g c =
    ends_wanting c.args.words.now c.from-in-Err-Memory.result c.note_end-in-Err-Memory.result _ _ _ _ c.from-in-Err-Memory.ensures c.note_end-in-Err-Memory.ensures.same
    (c.note_end-in-Err-Memory.ensures.noted (g.M.Sink.seen c.args.notes.now) [] (nothing_noted (g.M.Sink.seen c.args.notes.now)))

pub prepare-requires-clause-names : goal.prepare-requires-clause-names
prepare-requires-clause-names g c = may_open_operands g.I.Inputs.may_open c.in-Ok.plan c.new-session.result.plan c.new-session.ensures.plan (c.requires c.in-Ok.plan c.in-Ok.ensures.plan)

pub returns-in-Err-clause-run : goal.returns-in-Err-clause-run
returns-in-Err-clause-run g c =
    let s = g.I.Inputs.seen c.args.inputs.now in
    let m = g.I.Inputs.seen c.prepare.new.inputs in
    let k = g.M.Sink.seen c.args.notes.now in
    let j = g.M.Sink.seen c.prepare.new.notes in
    let failed = subst (λ (x : Plan). FailsPreparing x c.in-Err.end s m k j) c.new-session.ensures.plan c.in-Err.ensures in
    ends_failed c.args.words.now c.from-in-Err.result c.in-Ok.plan c.in-Err.end s m _ k j c.from-in-Err.ensures c.in-Ok.ensures.plan failed

pub take_steps-requires-clause-names : goal.take_steps-requires-clause-names
take_steps-requires-clause-names g c =
    may_open_streams g.I.Inputs.may_open c.in-Ok.plan c.prepare.new.session.plan (c.in-Ok-prepare.ensures.prepared.same_plan ∙ c.new-session.ensures.plan) c.in-None.is
    (c.requires c.in-Ok.plan c.in-Ok.ensures.plan)

pub new-made-requires-clause-some : goal.new-made-requires-clause-some
new-made-requires-clause-some g c = (made_within c.args.words.now c.in-Ok.plan c.in-Some.count c.in-Ok.ensures.plan c.in-Some.is).0

pub new-made-requires-clause-few : goal.new-made-requires-clause-few
new-made-requires-clause-few g c = (made_within c.args.words.now c.in-Ok.plan c.in-Some.count c.in-Ok.ensures.plan c.in-Some.is).1

pub returns-in-None-clause-run : goal.returns-in-None-clause-run
returns-in-None-clause-run g c =
    let s = g.I.Inputs.seen c.args.inputs.now in
    let m = g.I.Inputs.seen c.prepare.new.inputs in
    let k = g.M.Sink.seen c.args.notes.now in
    let l = g.M.Sink.seen c.prepare.new.notes in
    let ready = c.prepare.new.session in
    let noting = c.in-Ok-prepare.noting in
    let prepared = subst (λ (x : Plan). IsPrepared x ready s m k l noting) c.new-session.ensures.plan c.in-Ok-prepare.ensures in
    ends_by c.args.words.now c.from-in-None.result c.in-Ok.plan ready c.take_steps.result s m _ _ _ k l _ noting c.from-in-None.ensures c.in-Ok.ensures.plan c.in-None.is prepared c.take_steps.ensures

pub returns-in-Some-clause-run : goal.returns-in-Some-clause-run
returns-in-Some-clause-run g c =
    let s = g.I.Inputs.seen c.args.inputs.now in
    let m = g.I.Inputs.seen c.prepare.new.inputs in
    let k = g.M.Sink.seen c.args.notes.now in
    let l = g.M.Sink.seen c.prepare.new.notes in
    let ready = c.prepare.new.session in
    let noting = c.in-Ok-prepare.noting in
    let prepared = subst (λ (x : Plan). IsPrepared x ready s m k l noting) c.new-session.ensures.plan c.in-Ok-prepare.ensures in
    ends_made c.args.words.now c.from-in-Some.result c.in-Ok.plan ready c.in-Some.count c.take_steps-in-Some.result s m (seen_of_made c.new-made.result)
    (seen_of_made c.take_steps-in-Some.new.inputs) _ _ k l _ noting c.from-in-Some.ensures c.in-Ok.ensures.plan c.in-Some.is
    (ap seen_of_made c.new-made.ensures) prepared c.take_steps-in-Some.ensures

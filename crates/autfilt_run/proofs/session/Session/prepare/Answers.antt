use Rattle.std.proofs.Common.{◌≡◌, refl}
use Rattle.autfilt_run.proofs.turns.Alike.{has_skipped_as, is_ready_as, ready_of, skipped_of, stands_in_as}
use Rattle.autfilt_run.proofs.turns.Preparing.{prepares_on}
use Rattle.autfilt_run.specs.declared.session.Stage.TheVariants as stages
use Rattle.autfilt_run.proofs.session.Session.prepare.Goals as goal

pub returns-in_err-read_operands-clause-prepares : goal.returns-in_err-read_operands-clause-prepares
returns-in_err-read_operands-clause-prepares g c =
    let s = g.I.Inputs.seen c.args.inputs.now in
    let t = g.I.Inputs.seen c.read_operands.new.inputs in
    let said = c.in_err-read_operands.ensures.prepares in
    prepares_on c.from_residual.result c.in_err-read_operands.field-0.0 c.args.self.now c.read_operands.new.self s t c.from_residual.ensures.1
    (record {
      events = said.events;
      happened = λ texts told p stands.
          said.happened texts told p (stands_in_as c.args.self.now _ s.left p
          (record { plan = refl; lexer = refl; operands_same = refl; tried = refl; is_open = refl; kept = refl; skipped = refl }) stands);
      passed = said.passed;
      skipped = said.skipped;
      no_write = said.no_write;
      counts = said.counts;
      named = said.named;
      openings = said.openings;
    })

pub invariant_of-self-in-Ready : goal.invariant_of-self-in-Ready
invariant_of-self-in-Ready g c =
    let s = g.I.Inputs.seen c.args.inputs.now in
    let t = g.I.Inputs.seen c.read_operands.new.inputs in
    let x = c.read_operands.new.self in
    let said = c.in_ok-read_operands.ensures in
    let ready = ready_of c.in_ok-read_operands.field-0 _ x s t c.in-Ready.is said.prepares in
    record {
      opened_within = x.opened_within;
      tried_within = x.tried_within;
      read_within = x.read_within;
      next_within = λ stage opened. let none : stages.Prepared ≡ stages.New = stage in cc;
      tried_open = λ stage opened. let none : stages.Prepared ≡ stages.New = stage in cc;
      tried_closed = λ stage closed. let none : stages.Prepared ≡ stages.New = stage in cc;
      sized = x.sized;
      all_read = λ stage. ready.all;
      most_is = x.most_is;
      counted = x.counted;
      spent = λ stage. said.spent;
      held = λ stage. said.held;
    }

pub returns-in-Ready-clause-prepares : goal.returns-in-Ready-clause-prepares
returns-in-Ready-clause-prepares g c =
    let s = g.I.Inputs.seen c.args.inputs.now in
    let t = g.I.Inputs.seen c.read_operands.new.inputs in
    let x = c.read_operands.new.self in
    let ready = ready_of c.in_ok-read_operands.field-0 _ x s t c.in-Ready.is c.in_ok-read_operands.ensures.prepares in
    is_ready_as _ c.args.self.now x _ s t
    (record { plan = refl; lexer = refl; operands_same = refl; tried = refl; is_open = refl; kept = refl; skipped = refl })
    (record { plan = refl; lexer = refl; operands_same = refl; tried = refl; is_open = refl; kept = refl; skipped = refl })
    (record { plan = refl; lexer = refl; operands_same = refl; tried = refl; is_open = refl; kept = refl; skipped = refl }) ready

pub returns-in-Skipped-clause-prepares : goal.returns-in-Skipped-clause-prepares
returns-in-Skipped-clause-prepares g c =
    let s = g.I.Inputs.seen c.args.inputs.now in
    let t = g.I.Inputs.seen c.read_operands.new.inputs in
    let x = c.read_operands.new.self in
    let skipped = skipped_of c.in_ok-read_operands.field-0 _ x s t c.in-Skipped.is c.in_ok-read_operands.ensures.prepares in
    has_skipped_as _ c.args.self.now x _ s t
    (record { plan = refl; lexer = refl; operands_same = refl; tried = refl; is_open = refl; kept = refl; skipped = refl })
    (record { plan = refl; lexer = refl; operands_same = refl; tried = refl; is_open = refl; kept = refl; skipped = refl })
    (record { plan = refl; lexer = refl; operands_same = refl; tried = refl; is_open = refl; kept = refl; skipped = refl }) skipped

use Rattle.std.proofs.Common.{Bool, Ok, Err, refl, subst}
use Rattle.autfilt_run.proofs.turns.OperandTurning.{rises}
use Rattle.autfilt_run.proofs.turns.Reading.{is_blank, is_good, is_skipped, is_whole, read_at}
use Rattle.autfilt_run.proofs.turns.Turning.{not_handled, not_read, rises_whole, steps_on}
use Rattle.autfilt_run.specs.Faults.{fault_of_reading}
use Rattle.autfilt_run.specs.Points.{operands_in}
use Rattle.autfilt_run.specs.inner.Handling.{Handles}
use Rattle.hoa_lexer.specs.Moves.{MovesLexer}
use Rattle.hoa_parser.specs.Raw.{written}
use Rattle.hoa_parser.specs.Reads.{stop_of_front}
use Rattle.hoa_parser.specs.declared.read.Front.{Front}
use Rattle.autfilt_run.proofs.session.Session.read_next.Goals as goal

pub returns-in_err-read_raw-clause-step : goal.returns-in_err-read_raw-clause-step
returns-in_err-read_raw-clause-step g c =
    let s = g.I.Inputs.seen c.args.inputs.now in
    let t = g.I.Inputs.seen c.read_raw.new.inputs in
    let o = g.W.Sink.seen c.args.out.now in
    let said = c.in_err-read_raw.ensures in
    let f = c.in_err-read_raw.field-0.0 in
    let at = read_at (Err f) c.args.self.now.lexer.since c.args.self.now.lexer.held c.read_raw.new.lexer.held s.left t.left c.requires.held said.answers said.shown in
    steps_on c.from_residual.result (fault_of_reading f) c.args.self.now _ s t o o c.from_residual.ensures.1
    (not_read f c.args.self.now _ s t o c.read_raw.new.lexer.held (record { asks = c.requires.asks; is_open = c.requires.is_open }) refl said.held at said.moves)
    (record { plan = refl; operands = refl; most = said.moves.most; counts = refl })

pub returns-in-Aborted-clause-step : goal.returns-in-Aborted-clause-step
returns-in-Aborted-clause-step g c =
    let s = g.I.Inputs.seen c.args.inputs.now in
    let t = g.I.Inputs.seen c.read_raw.new.inputs in
    let said = c.in_ok-read_raw.ensures in
    let M : Front → Type 0 = λ x. MovesLexer (stop_of_front (Ok x)) c.args.self.now.lexer c.read_raw.new.lexer s t in
    let at = read_at (Ok c.in_ok-read_raw.field-0) c.args.self.now.lexer.since c.args.self.now.lexer.held c.read_raw.new.lexer.held s.left t.left c.requires.held said.answers said.shown in
    record {
      steps = record {
        reading = record { asks = c.requires.asks; is_open = c.requires.is_open };
        in_hand = refl;
        read = is_skipped c.in_ok-read_raw.field-0 c.args.self.now.lexer.since c.read_raw.new.lexer.held s.left t.left c.in-Aborted.is said.held at;
        moves = subst M c.in-Aborted.is said.moves;
        output = refl;
      };
      plan = refl;
      operands = refl;
      most = said.moves.most;
      rises = rises c.in_ok-read_raw.field-0 c.args.self.now.lexer c.read_raw.new.lexer c.in-Aborted.is c.requires.held said.held said.used;
      counts = refl;
      failed = tt;
      spent = said.spent;
      held = said.held;
    }

pub returns-in_err-handle-in-Whole-clause-step : goal.returns-in_err-handle-in-Whole-clause-step
returns-in_err-handle-in-Whole-clause-step g c =
    let s = g.I.Inputs.seen c.args.inputs.now in
    let t = g.I.Inputs.seen c.read_raw.new.inputs in
    let said = c.in_ok-read_raw.ensures in
    let M : Front → Type 0 = λ x. MovesLexer (stop_of_front (Ok x)) c.args.self.now.lexer c.read_raw.new.lexer s t in
    let at = read_at (Ok c.in_ok-read_raw.field-0) c.args.self.now.lexer.since c.args.self.now.lexer.held c.read_raw.new.lexer.held s.left t.left c.requires.held said.answers said.shown in
    let moves = subst M c.in-Whole.is said.moves in
    let whole = is_whole c.in_ok-read_raw.field-0 c.in-Whole.raw c.args.self.now.lexer.since c.read_raw.new.lexer.held s.left t.left c.in-Whole.is said.held at in
    let o = g.W.Sink.seen c.args.out.now in
    let o' = g.W.Sink.seen c.handle.new.out in
    let f = c.in_err-handle-in-Whole.field-0.0 in
    steps_on c.from_residual-in_err-handle-in-Whole.result f c.args.self.now _ s t o o' c.from_residual-in_err-handle-in-Whole.ensures.1
    (not_handled f (written c.in-Whole.raw) c.args.self.now _ s t o o' (record { asks = c.requires.asks; is_open = c.requires.is_open }) refl whole moves c.in_err-handle-in-Whole.ensures.handles)
    (record { plan = refl; operands = refl; most = said.moves.most; counts = refl })

pub returns-else-branch-clause-step : goal.returns-else-branch-clause-step
returns-else-branch-clause-step g c =
    let s = g.I.Inputs.seen c.args.inputs.now in
    let t = g.I.Inputs.seen c.read_raw.new.inputs in
    let said = c.in_ok-read_raw.ensures in
    let M : Front → Type 0 = λ x. MovesLexer (stop_of_front (Ok x)) c.args.self.now.lexer c.read_raw.new.lexer s t in
    let at = read_at (Ok c.in_ok-read_raw.field-0) c.args.self.now.lexer.since c.args.self.now.lexer.held c.read_raw.new.lexer.held s.left t.left c.requires.held said.answers said.shown in
    let moves = subst M c.in-Whole.is said.moves in
    let whole = is_whole c.in_ok-read_raw.field-0 c.in-Whole.raw c.args.self.now.lexer.since c.read_raw.new.lexer.held s.left t.left c.in-Whole.is said.held at in
    let H : Bool → Type 0 = λ x. Handles (Ok x) c.args.self.now.plan (operands_in c.args.self.now) (written c.in-Whole.raw) (g.W.Sink.seen c.args.out.now) (g.W.Sink.seen c.handle.new.out) in
    let h = subst H c.if-branch.false c.in_ok-handle-in-Whole.ensures.handles in
    record {
      steps = record {
        automaton = written c.in-Whole.raw;
        dropped = h.0.dropped;
        reads = record {
          reading = record { asks = c.requires.asks; is_open = c.requires.is_open };
          in_hand = refl;
          read = is_good (written c.in-Whole.raw) c.args.self.now.lexer.since s.left t.left h.0.valid h.0.within whole;
          moves = moves;
          output = h.1;
        };
      };
      plan = refl;
      operands = refl;
      most = said.moves.most;
      rises = rises_whole c.in_ok-read_raw.field-0 c.in-Whole.raw c.args.self.now.lexer c.read_raw.new.lexer c.in-Whole.is c.requires.held said.held said.used;
      counts = refl;
      failed = tt;
      spent = said.spent;
      held = said.held;
    }

pub returns-in-Blank-clause-step : goal.returns-in-Blank-clause-step
returns-in-Blank-clause-step g c =
    let s = g.I.Inputs.seen c.args.inputs.now in
    let t = g.I.Inputs.seen c.read_raw.new.inputs in
    let said = c.in_ok-read_raw.ensures in
    let M : Front → Type 0 = λ x. MovesLexer (stop_of_front (Ok x)) c.args.self.now.lexer c.read_raw.new.lexer s t in
    let at = read_at (Ok c.in_ok-read_raw.field-0) c.args.self.now.lexer.since c.args.self.now.lexer.held c.read_raw.new.lexer.held s.left t.left c.requires.held said.answers said.shown in
    record {
      steps = record {
        reading = record { asks = c.requires.asks; is_open = c.requires.is_open };
        in_hand = refl;
        read = is_blank c.in_ok-read_raw.field-0 c.args.self.now.lexer.since c.read_raw.new.lexer.held s.left t.left c.in-Blank.is said.held at;
        moves = subst M c.in-Blank.is said.moves;
        output = refl;
      };
      plan = refl;
      operands = refl;
      most = said.moves.most;
      rises = tt;
      counts = refl;
      failed = tt;
      spent = said.spent;
      held = said.held;
    }

pub returns-then-branch-clause-step : goal.returns-then-branch-clause-step
returns-then-branch-clause-step g c =
    let s = g.I.Inputs.seen c.args.inputs.now in
    let t = g.I.Inputs.seen c.read_raw.new.inputs in
    let said = c.in_ok-read_raw.ensures in
    let M : Front → Type 0 = λ x. MovesLexer (stop_of_front (Ok x)) c.args.self.now.lexer c.read_raw.new.lexer s t in
    let at = read_at (Ok c.in_ok-read_raw.field-0) c.args.self.now.lexer.since c.args.self.now.lexer.held c.read_raw.new.lexer.held s.left t.left c.requires.held said.answers said.shown in
    let whole = is_whole c.in_ok-read_raw.field-0 c.in-Whole.raw c.args.self.now.lexer.since c.read_raw.new.lexer.held s.left t.left c.in-Whole.is said.held at in
    let H : Bool → Type 0 = λ x. Handles (Ok x) c.args.self.now.plan (operands_in c.args.self.now) (written c.in-Whole.raw) (g.W.Sink.seen c.args.out.now) (g.W.Sink.seen c.handle.new.out) in
    let h = subst H c.if-branch.true c.in_ok-handle-in-Whole.ensures.handles in
    record {
      steps = record {
        reading = record { asks = c.requires.asks; is_open = c.requires.is_open };
        in_hand = refl;
        automaton = written c.in-Whole.raw;
        text = h.0;
        read = is_good (written c.in-Whole.raw) c.args.self.now.lexer.since s.left t.left h.1.valid h.1.within whole;
        kept = h.1.kept;
        due = h.1.due;
        moves = subst M c.in-Whole.is said.moves;
        gains = h.2;
        writes = h.3;
      };
      plan = refl;
      operands = refl;
      most = said.moves.most;
      rises = rises_whole c.in_ok-read_raw.field-0 c.in-Whole.raw c.args.self.now.lexer c.read_raw.new.lexer c.in-Whole.is c.requires.held said.held said.used;
      counts = refl;
      failed = tt;
      spent = said.spent;
      held = said.held;
    }

use Rattle.std.proofs.Common.{◌≡◌, ◌+◌, ◌∙◌, Ok, Err, length, refl, sym, ap, subst, arith}
use Rattle.std.specs.Prelude.{All, map}
use Rattle.std.proofs.lemmas.Bool.{false≢true}
use Rattle.std.proofs.lemmas.List.{length_push}
use Rattle.std.proofs.lemmas.List.Elements.{All-push}
use Rattle.aut_core.specs.SymbolicAutomata.{automaton_of}
use Rattle.autfilt_run.proofs.turns.OperandTurning.{not_over, not_read, not_taken, automata_of_pushed, rises, turns_on}
use Rattle.autfilt_run.proofs.turns.Reading.{is_good, is_skipped, is_whole, read_at}
use Rattle.autfilt_run.proofs.handling.Taking.{core_is}
use Rattle.autfilt_run.specs.Faults.{fault_of_reading}
use Rattle.autfilt_run.specs.declared.fault.RunFault.TheVariants as fault
use Rattle.autfilt_run.specs.declared.session.Stage.TheVariants as stages
use Rattle.hoa_lexer.specs.Moves.{MovesLexer}
use Rattle.hoa_parser.specs.Raw.{written}
use Rattle.hoa_parser.specs.Reads.{stop_of_front}
use Rattle.hoa_parser.specs.declared.read.Front.{Front}
use Rattle.plan_meaning.specs.Operands.{IsOfReadSize}
use Rattle.autfilt_run.proofs.session.Session.take_operand.Goals as goal

pub returns-in_err-read_raw-clause-turns : goal.returns-in_err-read_raw-clause-turns
returns-in_err-read_raw-clause-turns g c =
    let s = g.I.Inputs.seen c.args.inputs.now in
    let t = g.I.Inputs.seen c.read_raw.new.inputs in
    let said = c.in_err-read_raw.ensures in
    let f = c.in_err-read_raw.field-0.0 in
    let at = read_at (Err f) c.args.self.now.lexer.since c.args.self.now.lexer.held c.read_raw.new.lexer.held s.left t.left c.requires.held said.answers said.shown in
    turns_on c.from_residual.result (fault_of_reading f) c.args.self.now _ s t c.from_residual.ensures.1
    (not_read f c.args.self.now _ s t c.read_raw.new.lexer.held c.requires.is_open refl refl said.held at said.moves)
    (record { plan = refl; most = said.moves.most; opened = refl; kept = refl; stage = refl })

pub overflow_add-self : goal.overflow_add-self
overflow_add-self g c =
    let said = c.in_ok-read_raw.ensures in
    omega (
      arith,
      c.args.self.now.counted,
      c.args.self.now.most_is,
      c.read_raw.new.lexer.within,
      said.moves.most,
      rises c.in_ok-read_raw.field-0 c.args.self.now.lexer c.read_raw.new.lexer
          c.in-Aborted.is c.requires.held said.held said.used,
    )

pub returns-in-Aborted-clause-turns : goal.returns-in-Aborted-clause-turns
returns-in-Aborted-clause-turns g c =
    let s = g.I.Inputs.seen c.args.inputs.now in
    let t = g.I.Inputs.seen c.read_raw.new.inputs in
    let said = c.in_ok-read_raw.ensures in
    let M : Front → Type 0 = λ x. MovesLexer (stop_of_front (Ok x)) c.args.self.now.lexer c.read_raw.new.lexer s t in
    let at = read_at (Ok c.in_ok-read_raw.field-0) c.args.self.now.lexer.since c.args.self.now.lexer.held c.read_raw.new.lexer.held s.left t.left c.requires.held said.answers said.shown in
    record {
      turns = record {
        reads = record {
          was_open = c.requires.is_open;
          in_hand = refl;
          read = is_skipped c.in_ok-read_raw.field-0 c.args.self.now.lexer.since c.read_raw.new.lexer.held s.left t.left c.in-Aborted.is said.held at;
          moves = subst M c.in-Aborted.is said.moves;
        };
        still_open = c.requires.is_open;
        operands_same = refl;
        rises = rises c.in_ok-read_raw.field-0 c.args.self.now.lexer c.read_raw.new.lexer c.in-Aborted.is c.requires.held said.held said.used;
        skipped = refl;
      };
      keeps = record { plan = refl; most = said.moves.most; opened = refl; kept = refl; stage = refl };
    }

-- it can't be taken
pub returns-in_err-read-in-Whole-clause-turns : goal.returns-in_err-read-in-Whole-clause-turns
returns-in_err-read-in-Whole-clause-turns g c =
    let s = g.I.Inputs.seen c.args.inputs.now in
    let t = g.I.Inputs.seen c.read_raw.new.inputs in
    let said = c.in_ok-read_raw.ensures in
    let f = c.in_err-read-in-Whole.field-0.0 in
    let M : Front → Type 0 = λ x. MovesLexer (stop_of_front (Ok x)) c.args.self.now.lexer c.read_raw.new.lexer s t in
    let at = read_at (Ok c.in_ok-read_raw.field-0) c.args.self.now.lexer.since c.args.self.now.lexer.held c.read_raw.new.lexer.held s.left t.left c.requires.held said.answers said.shown in
    let whole = is_whole c.in_ok-read_raw.field-0 c.in-Whole.raw c.args.self.now.lexer.since c.read_raw.new.lexer.held s.left t.left c.in-Whole.is said.held at in
    turns_on c.from_residual-in_err-read-in-Whole.result f c.args.self.now _ s t c.from_residual-in_err-read-in-Whole.ensures.1
    (not_taken f (written c.in-Whole.raw) c.args.self.now _ s t c.requires.is_open refl refl whole (subst M c.in-Whole.is said.moves) c.in_err-read-in-Whole.ensures)
    (record { plan = refl; most = said.moves.most; opened = refl; kept = refl; stage = refl })

-- memory was wanting for the list of operands
pub returns-in_err-push-in-Whole-clause-turns : goal.returns-in_err-push-in-Whole-clause-turns
returns-in_err-push-in-Whole-clause-turns g c =
    let s = g.I.Inputs.seen c.args.inputs.now in
    let t = g.I.Inputs.seen c.read_raw.new.inputs in
    let said = c.in_ok-read_raw.ensures in
    let M : Front → Type 0 = λ x. MovesLexer (stop_of_front (Ok x)) c.args.self.now.lexer c.read_raw.new.lexer s t in
    let at = read_at (Ok c.in_ok-read_raw.field-0) c.args.self.now.lexer.since c.args.self.now.lexer.held c.read_raw.new.lexer.held s.left t.left c.requires.held said.answers said.shown in
    let whole = is_whole c.in_ok-read_raw.field-0 c.in-Whole.raw c.args.self.now.lexer.since c.read_raw.new.lexer.held s.left t.left c.in-Whole.is said.held at in
    turns_on c.from_residual-in_err-push-in-Whole.result fault.Memory c.args.self.now _ s t c.from_residual-in_err-push-in-Whole.ensures.1
    (not_taken fault.Memory (written c.in-Whole.raw) c.args.self.now _ s t c.requires.is_open refl refl whole (subst M c.in-Whole.is said.moves) tt)
    (record { plan = refl; most = said.moves.most; opened = refl; kept = refl; stage = refl })

pub invariant_of-self-in-Whole : goal.invariant_of-self-in-Whole
invariant_of-self-in-Whole g c =
    let old = c.args.self.now in
    let pushed = c.in_ok-push-in-Whole.ensures.ok in
    let core = c.in_ok-read-in-Whole.read.automaton in
    let longer : length c.push.new.self ≡ length old.operands + 1 = ap length pushed ∙ length_push old.operands core in
    let all = automata_of_pushed old.operands c.push.new.self core (automaton_of core) pushed refl in
    record {
      opened_within = old.opened_within;
      tried_within = old.tried_within;
      read_within = omega (arith, longer, c.requires.room);
      next_within = λ stage opened. absurd (false≢true opened);
      tried_open = λ stage opened. absurd (false≢true opened);
      tried_closed = λ stage closed. omega (arith, longer, c.requires.tried, c.requires.is_open);
      sized = subst (All IsOfReadSize) (sym all) (All-push IsOfReadSize (map automaton_of old.operands) (automaton_of core) old.sized c.in_ok-read-in-Whole.ensures.0.size);
      all_read = λ stage. let none : stages.Over ≡ stages.Prepared = sym c.requires.stage ∙ stage in cc;
      most_is = c.in_ok-read_raw.ensures.moves.most ∙ old.most_is;
      counted = omega (arith, old.counted, c.in_ok-read_raw.ensures.moves.later);
      spent = λ stage. absurd (not_over old.stage c.requires.stage stage);
      held = λ stage. absurd (not_over old.stage c.requires.stage stage);
    }

pub returns-in_ok-push-in-Whole-clause-turns : goal.returns-in_ok-push-in-Whole-clause-turns
returns-in_ok-push-in-Whole-clause-turns g c =
    let s = g.I.Inputs.seen c.args.inputs.now in
    let t = g.I.Inputs.seen c.read_raw.new.inputs in
    let old = c.args.self.now in
    let said = c.in_ok-read_raw.ensures in
    let M : Front → Type 0 = λ x. MovesLexer (stop_of_front (Ok x)) old.lexer c.read_raw.new.lexer s t in
    let at = read_at (Ok c.in_ok-read_raw.field-0) old.lexer.since old.lexer.held c.read_raw.new.lexer.held s.left t.left c.requires.held said.answers said.shown in
    let whole = is_whole c.in_ok-read_raw.field-0 c.in-Whole.raw old.lexer.since c.read_raw.new.lexer.held s.left t.left c.in-Whole.is said.held at in
    let pushed = c.in_ok-push-in-Whole.ensures.ok in
    let core = c.in_ok-read-in-Whole.read.automaton in
    let read = c.in_ok-read-in-Whole.ensures.0 in
    record {
      turns = record {
        automaton = written c.in-Whole.raw;
        reads = record {
          was_open = c.requires.is_open;
          in_hand = refl;
          read = is_good (written c.in-Whole.raw) old.lexer.since s.left t.left read.valid read.within whole;
          moves = subst M c.in-Whole.is said.moves;
        };
        taken = automata_of_pushed old.operands c.push.new.self core _ pushed (core_is (written c.in-Whole.raw) (automaton_of core) read);
        one_more = ap length pushed ∙ length_push old.operands core;
        closed = refl;
        skipped = refl;
      };
      keeps = record { plan = refl; most = said.moves.most; opened = refl; kept = refl; stage = refl };
    }

use Rattle.std.proofs.Common.{refl}
use Rattle.std.proofs.lemmas.Result.{err_from_is_err_and}
use Rattle.hoa_parser.proofs.standing.Hopeless.{raw_aborted_shows, raw_fault_shows, raw_other_shows, raw_unlexed_shows}
use Rattle.hoa_parser.proofs.standing.StandingAnswers.{opened_so, raw_aborted, raw_fault, raw_other, raw_unlexed, raw_whole}
use Rattle.hoa_parser.proofs.read.read_raw.Goals as goal

pub returns-in_err-ahead-clause-answers : goal.returns-in_err-ahead-clause-answers
returns-in_err-ahead-clause-answers g c = raw_unlexed c.in_err-ahead.field-0.0 _ c.args.lexer.now c.next.new.self _ (g.I.Inputs.seen c.args.inputs.now) (g.I.Inputs.seen c.next.new.inputs)
    (err_from_is_err_and c.from_residual.result c.from_residual.ensures.1) c.in_err-ahead.ensures.answers

pub returns-in_err-ahead-clause-shown : goal.returns-in_err-ahead-clause-shown
returns-in_err-ahead-clause-shown g c = raw_unlexed_shows c.in_err-ahead.field-0.0 _ c.args.lexer.now c.next.new.self _ (g.I.Inputs.seen c.args.inputs.now)
    (g.I.Inputs.seen c.next.new.inputs) (err_from_is_err_and c.from_residual.result c.from_residual.ensures.1) c.in_err-ahead.ensures.holds c.in_err-ahead.ensures.answers

pub returns-then-not-opens-clause-answers : goal.returns-then-not-opens-clause-answers
returns-then-not-opens-clause-answers g c = raw_other _ _ _ _ (opened_so _ _ _ _ c.in-Some.is c.in_ok-ahead.ensures.answers c.in_ok-ahead.ensures.holds c.in_ok-ahead.ensures.moves)
    c.offset.ensures (c.if-not-opens.ensures.others refl)

pub returns-then-not-opens-clause-shown : goal.returns-then-not-opens-clause-shown
returns-then-not-opens-clause-shown g c = raw_other_shows _ _ _ _ (opened_so _ _ _ _ c.in-Some.is c.in_ok-ahead.ensures.answers c.in_ok-ahead.ensures.holds c.in_ok-ahead.ensures.moves)
    c.offset.ensures (c.if-not-opens.ensures.others refl)

pub returns-in-Ok-clause-answers : goal.returns-in-Ok-clause-answers
returns-in-Ok-clause-answers g c = raw_whole c.in-Ok.raw _ _ _ _ (opened_so _ _ _ _ c.in-Some.is c.in_ok-ahead.ensures.answers c.in_ok-ahead.ensures.holds c.in_ok-ahead.ensures.moves)
    c.in-Ok.ensures.reads

pub returns-then-abandons-clause-answers : goal.returns-then-abandons-clause-answers
returns-then-abandons-clause-answers g c =
    raw_aborted c.in-Err.fault _ _ _ _ (opened_so _ _ _ _ c.in-Some.is c.in_ok-ahead.ensures.answers c.in_ok-ahead.ensures.holds c.in_ok-ahead.ensures.moves)
    (c.if-not-opens.ensures.opens refl) (c.if-abandons.ensures.yes refl) c.in-Err.ensures.reads

pub returns-then-abandons-clause-shown : goal.returns-then-abandons-clause-shown
returns-then-abandons-clause-shown g c = raw_aborted_shows c.in-Err.fault _ _ _ _
    (opened_so _ _ _ _ c.in-Some.is c.in_ok-ahead.ensures.answers c.in_ok-ahead.ensures.holds c.in_ok-ahead.ensures.moves) (c.if-abandons.ensures.yes refl) c.in-Err.ensures.reads

pub returns-clause-answers : goal.returns-clause-answers
returns-clause-answers g c = raw_fault c.in-Err.fault _ _ _ _ (opened_so _ _ _ _ c.in-Some.is c.in_ok-ahead.ensures.answers c.in_ok-ahead.ensures.holds c.in_ok-ahead.ensures.moves)
    (c.if-abandons.ensures.no refl) c.in-Err.ensures.reads

pub returns-clause-shown : goal.returns-clause-shown
returns-clause-shown g c = raw_fault_shows c.in-Err.fault _ _ _ _ (opened_so _ _ _ _ c.in-Some.is c.in_ok-ahead.ensures.answers c.in_ok-ahead.ensures.holds c.in_ok-ahead.ensures.moves)
    (c.if-abandons.ensures.no refl) c.in-Err.ensures.reads

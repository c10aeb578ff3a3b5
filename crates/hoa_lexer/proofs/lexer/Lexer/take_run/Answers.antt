use Rattle.std.proofs.Common.{arith, take}
use Rattle.hoa_lexer.proofs.next_token.Between.{between_as}
use Rattle.hoa_lexer.proofs.spelling.Runs.{adds_run, passed, run_words}
use Rattle.hoa_lexer.proofs.lexer.Lexer.take_run.Goals as goal

pub returns-clause-answers : goal.returns-clause-answers
returns-clause-answers g c =
    let bytes = g.I.Inputs.at_hand c.args.inputs.now in
    let run = c.word_run-run.result in
    let words = run_words c.ahead-ahead.result.now c.min-most.result run c.word_run-run.ensures.run (omega (arith, c.min-most.ensures)) in
    between_as (g.I.Inputs.seen c.args.inputs.now).left (g.I.Inputs.seen c.skip.new.self).left _ _
    (λ x y e. adds_run _ _ (take run bytes) x y (rw c.ahead-ahead.ensures at c.in_ok-extend.ensures.ok)
    (rw c.ahead-ahead.ensures at words) e)
    (passed _ _ _ c.skip.ensures.passes)

use Rattle.std.proofs.Common.{arith}
use Rattle.hoa_lexer.specs.inner.Steps.{ReadsWord}
use Rattle.hoa_lexer.proofs.next_token.Between.{between_then}
use Rattle.hoa_lexer.proofs.next_token.Moving.{handed_on}
use Rattle.hoa_lexer.proofs.spelling.Comments.{byte_read, end_read}
use Rattle.hoa_lexer.proofs.spelling.Dashes.{expect_bad, expect_end, expect_err}
use Rattle.hoa_lexer.proofs.lexer.Lexer.expect.Goals as goal

pub returns-then-byte-wanted-clause-answers : goal.returns-then-byte-wanted-clause-answers
returns-then-byte-wanted-clause-answers g c =
    between_then (g.I.Inputs.seen c.args.inputs.now).left (g.I.Inputs.seen c.word.inputs).left (g.I.Inputs.seen c.fetch.new.inputs).left _ _ _
    (λ x y z p q. expect_bad c.args.word.now c.word.wanted-index c.in-Some.byte _ _ x y z (omega arith) (omega arith) p (byte_read _ _ _ z c.in-Some.is q) c.if-byte-wanted.true)
    c.word.invariant.answers c.in_ok-byte.ensures.answers

pub returns-in-None-clause-answers : goal.returns-in-None-clause-answers
returns-in-None-clause-answers g c =
    between_then (g.I.Inputs.seen c.args.inputs.now).left (g.I.Inputs.seen c.word.inputs).left (g.I.Inputs.seen c.fetch.new.inputs).left _ _ _
    (λ x y z p q. let ended = end_read _ _ z c.in-None.is q in expect_end c.args.word.now c.word.wanted-index 0 x y z (omega arith) p ended.0 ended.1)
    c.word.invariant.answers c.in_ok-byte.ensures.answers

pub returns-in_err-byte-clause-answers : goal.returns-in_err-byte-clause-answers
returns-in_err-byte-clause-answers g c =
    handed_on (λ r x z. ReadsWord r c.args.word.now c.args.self.now.offset x z) (g.I.Inputs.seen c.args.inputs.now).left (g.I.Inputs.seen c.fetch.new.inputs).left _ _ c.from_residual.ensures.1
    (between_then (g.I.Inputs.seen c.args.inputs.now).left (g.I.Inputs.seen c.word.inputs).left (g.I.Inputs.seen c.fetch.new.inputs).left _ _ _
    (λ x y z p q. expect_err c.in_err-byte.field-0.0 c.args.word.now c.word.wanted-index _ x y z c.in_err-byte.ensures.kinds (omega arith) p q)
    c.word.invariant.answers c.in_err-byte.ensures.answers)

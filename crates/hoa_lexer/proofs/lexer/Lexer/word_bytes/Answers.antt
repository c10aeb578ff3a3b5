use Rattle.std.proofs.Common.{◌∙◌, sym}
use Rattle.hoa_lexer.specs.inner.Steps.{AddsWords}
use Rattle.hoa_lexer.proofs.next_token.Between.{between_then}
use Rattle.hoa_lexer.proofs.next_token.Moving.{handed_on}
use Rattle.hoa_lexer.proofs.spelling.Comments.{byte_read}
use Rattle.hoa_lexer.proofs.spelling.Words.{takes_run, takes_word}
use Rattle.hoa_lexer.proofs.lexer.Lexer.word_bytes.Goals as goal

pub returns-in_err-push-in-Some-clause-answers : goal.returns-in_err-push-in-Some-clause-answers
returns-in_err-push-in-Some-clause-answers g c =
    handed_on (λ r x z. AddsWords r c.args.name.now c.push.new.self x z) (g.I.Inputs.seen c.args.inputs.now).left (g.I.Inputs.seen c.fetch.new.inputs).left _ _
    c.from_residual-in_err-push-in-Some.ensures.1
    (between_then (g.I.Inputs.seen c.args.inputs.now).left (g.I.Inputs.seen c.bytes.inputs).left (g.I.Inputs.seen c.fetch.new.inputs).left _ _ _
    (λ x y z p q. takes_word c.in-Some.byte _ _ _ _ z p (byte_read _ _ _ z c.in-Some.is q) (sym c.is_word.ensures ∙ c.if-not-is_word.false))
    c.bytes.invariant.answers c.in_ok-byte.ensures.answers)

pub returns-in_err-take_run-clause-answers : goal.returns-in_err-take_run-clause-answers
returns-in_err-take_run-clause-answers g c =
    handed_on (λ r x z. AddsWords r c.args.name.now c.take_run.new.name x z) (g.I.Inputs.seen c.args.inputs.now).left (g.I.Inputs.seen c.take_run.new.inputs).left _ _
    c.from_residual-in_err-take_run.ensures.1
    (between_then (g.I.Inputs.seen c.args.inputs.now).left (g.I.Inputs.seen c.fetch.new.inputs).left (g.I.Inputs.seen c.take_run.new.inputs).left _ _ _
    (λ x y z p q. takes_run _ _ x y z p q)
    (between_then (g.I.Inputs.seen c.args.inputs.now).left (g.I.Inputs.seen c.bytes.inputs).left (g.I.Inputs.seen c.fetch.new.inputs).left _ _ _
    (λ x y z p q. takes_word c.in-Some.byte _ _ _ _ z p (byte_read _ _ _ z c.in-Some.is q) (sym c.is_word.ensures ∙ c.if-not-is_word.false))
    c.bytes.invariant.answers c.in_ok-byte.ensures.answers)
    c.in_err-take_run.ensures.answers)

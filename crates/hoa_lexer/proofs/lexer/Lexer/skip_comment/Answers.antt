use Rattle.std.proofs.Common.{arith, ◌-◌, ◌∷◌, ◌∙◌, ap, Some, length}
use Rattle.hoa_lexer.specs.Reading.{unread}
use Rattle.hoa_lexer.specs.inner.Steps.{SkipsComment}
use Rattle.hoa_lexer.proofs.next_token.Between.{between_then, between_both, between_as}
use Rattle.hoa_lexer.proofs.next_token.Moving.{handed_on}
use Rattle.hoa_lexer.proofs.spelling.Comments.{byte_read, end_read}
use Rattle.hoa_lexer.proofs.next_token.Fronts.{skip_closed, skip_bad, skip_end, skip_err}
use Rattle.hoa_lexer.proofs.lexer.Lexer.skip_comment.Goals as goal

pub returns-in-Some-eq42-clause-answers : goal.returns-in-Some-eq42-clause-answers
returns-in-Some-eq42-clause-answers g c =
    between_then (g.I.Inputs.seen c.args.inputs.now).left (g.I.Inputs.seen c.peek.new.inputs).left (g.I.Inputs.seen c.close_comment.new.inputs).left _ _ _
    (λ x y z p q. skip_closed _ _ x y _ (byte_read _ 42 x y (c.in-Some-eq42.is ∙ ap Some c.in-Some-eq42.field-0-test) p) q)
    c.in_ok-peek.ensures.answers c.close_comment.ensures.answers

pub returns-in-Some-clause-answers : goal.returns-in-Some-clause-answers
returns-in-Some-clause-answers g c =
    between_both (g.I.Inputs.seen c.args.inputs.now).left (g.I.Inputs.seen c.peek.new.inputs).left _ _ _
    (λ x y p q. let read = byte_read _ c.in-Some.field-0 x y c.in-Some.is p in skip_bad _ _ _ x y (omega (arith, q, ap length read)) c.in-Some.field-0-test.1 read)
    c.in_ok-peek.ensures.answers c.in_ok-peek.ensures.advances.moves.taken

pub returns-in-None-clause-answers : goal.returns-in-None-clause-answers
returns-in-None-clause-answers g c =
    between_as (g.I.Inputs.seen c.args.inputs.now).left (g.I.Inputs.seen c.peek.new.inputs).left _ _
    (λ x y p. let ended = end_read _ x y c.in-None.is p in skip_end _ 0 x y (c.in_ok-peek.ensures.held ∙ c.in-None.is) ended.0 ended.1)
    c.in_ok-peek.ensures.answers

pub returns-in_err-peek-clause-answers : goal.returns-in_err-peek-clause-answers
returns-in_err-peek-clause-answers g c =
    handed_on (λ r x z. SkipsComment r (c.args.self.now.since - 1) (47 ∷ x) (unread c.peek.new.self.held z)) (g.I.Inputs.seen c.args.inputs.now).left (g.I.Inputs.seen c.peek.new.inputs).left
    _ _ c.from_residual.ensures.1
    (between_as (g.I.Inputs.seen c.args.inputs.now).left (g.I.Inputs.seen c.peek.new.inputs).left _ _
    (λ x y p. skip_err c.in_err-peek.field-0.0 _ _ x y c.in_err-peek.ensures.kinds c.in_err-peek.ensures.held p)
    c.in_err-peek.ensures.answers)

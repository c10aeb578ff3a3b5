use Rattle.std.proofs.Common.{rules, arith}
use Rattle.hoa_lexer.specs.Reading.{unread}
use Rattle.hoa_lexer.specs.inner.Steps.{ClosesComment}
use Rattle.hoa_lexer.proofs.next_token.Between.{between_then}
use Rattle.hoa_lexer.proofs.next_token.Moving.{handed_on}
use Rattle.hoa_lexer.proofs.spelling.Comments.{comment_step, comment_err}
use Rattle.hoa_lexer.proofs.lexer.Lexer.close_comment.Goals as goal

pub returns-in_err-depth-clause-answers : goal.returns-in_err-depth-clause-answers
returns-in_err-depth-clause-answers g c =
    handed_on (λ r x z. ClosesComment r x (unread c.step_in.new.self.held z)) (g.I.Inputs.seen c.args.inputs.now).left (g.I.Inputs.seen c.step_in.new.inputs).left _ _ c.from_residual.ensures.1
    (between_then (g.I.Inputs.seen c.args.inputs.now).left (g.I.Inputs.seen c.comment.inputs).left (g.I.Inputs.seen c.step_in.new.inputs).left _ _ _
    (λ x y z p q. comment_err c.in_err-depth.field-0.0 c.comment.depth x _ _ (omega arith) p q)
    c.comment.invariant.answers c.in_err-depth.ensures.answers)

pub comment-preserved : goal.comment-preserved
comment-preserved g c =
    record {
      answers = between_then (g.I.Inputs.seen c.args.inputs.now).left (g.I.Inputs.seen c.comment.inputs).left (g.I.Inputs.seen c.step_in.new.inputs).left _ _ _
          (λ x y z p q. comment_step c.comment.depth _ x _ _ p q)
          c.comment.invariant.answers c.in_ok-depth.ensures.answers;
      advances = search rules;
      room = omega (arith, c.in_ok-depth.ensures.deeper);
    }

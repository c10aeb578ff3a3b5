use Rattle.std.proofs.Common.{arith, sym, ◌∙◌}
use Rattle.hoa_lexer.specs.Reading.{unread}
use Rattle.hoa_lexer.specs.inner.Steps.{StepsIn}
use Rattle.hoa_lexer.proofs.next_token.Between.{between_then}
use Rattle.hoa_lexer.proofs.next_token.Moving.{handed_on}
use Rattle.hoa_lexer.proofs.spelling.Comments.{byte_read, step_err, step_closes, step_opens, step_stays}
use Rattle.hoa_lexer.proofs.lexer.Lexer.step_in.Goals as goal

pub returns-in_err-second-clause-answers : goal.returns-in_err-second-clause-answers
returns-in_err-second-clause-answers g c =
    handed_on (λ r x z. StepsIn r c.args.depth (unread c.args.self.now.held x) (unread c.peek.new.self.held z)) _ _ _ _ c.from_residual-in_err-second.ensures.1
    (between_then (g.I.Inputs.seen c.args.inputs.now).left (g.I.Inputs.seen c.take.new.inputs).left (g.I.Inputs.seen c.peek.new.inputs).left _ _ _
    (λ x y z p q. step_err _ _ _ _ _ _ y z (byte_read _ _ _ y c.in-Some.is p) c.in_ok-first.ensures.held q c.in_err-second.ensures.held c.in_err-second.ensures.kinds)
    c.in_ok-first.ensures.answers c.in_err-second.ensures.answers)

pub returns-then-closes-clause-answers : goal.returns-then-closes-clause-answers
returns-then-closes-clause-answers g c =
    between_then (g.I.Inputs.seen c.args.inputs.now).left (g.I.Inputs.seen c.take.new.inputs).left (g.I.Inputs.seen c.peek.new.inputs).left _ _ _
    (λ x y z p q. step_closes _ _ _ c.args.depth _ _ y z (omega arith) (byte_read _ _ _ y c.in-Some.is p) c.in_ok-first.ensures.held (byte_read _ _ _ z c.in-Some-2.is q)
    (sym c.closes.ensures ∙ c.if-closes.true))
    c.in_ok-first.ensures.answers c.in_ok-second.ensures.answers

pub returns-then-opens-clause-answers : goal.returns-then-opens-clause-answers
returns-then-opens-clause-answers g c =
    between_then (g.I.Inputs.seen c.args.inputs.now).left (g.I.Inputs.seen c.take.new.inputs).left (g.I.Inputs.seen c.peek.new.inputs).left _ _ _
    (λ x y z p q. step_opens _ _ _ c.args.depth _ _ y z (omega arith) (omega arith) (byte_read _ _ _ y c.in-Some.is p) c.in_ok-first.ensures.held (byte_read _ _ _ z c.in-Some-2.is q)
    (sym c.closes.ensures ∙ c.if-closes.false) (sym c.opens.ensures ∙ c.if-opens.true))
    c.in_ok-first.ensures.answers c.in_ok-second.ensures.answers

pub returns-clause-answers : goal.returns-clause-answers
returns-clause-answers g c =
    between_then (g.I.Inputs.seen c.args.inputs.now).left (g.I.Inputs.seen c.take.new.inputs).left (g.I.Inputs.seen c.peek.new.inputs).left _ _ _
    (λ x y z p q. step_stays _ _ _ _ c.args.depth _ y z (omega arith) (byte_read _ _ _ y c.in-Some.is p) c.in_ok-first.ensures.held (byte_read _ _ _ z c.in-Some-2.is q)
    (c.in_ok-second.ensures.held ∙ c.in-Some-2.is) (sym c.closes.ensures ∙ c.if-closes.false) (sym c.opens.ensures ∙ c.if-opens.false))
    c.in_ok-first.ensures.answers c.in_ok-second.ensures.answers

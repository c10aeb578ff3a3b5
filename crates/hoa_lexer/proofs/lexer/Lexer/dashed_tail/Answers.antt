use Rattle.std.proofs.Common.{◌∷◌}
use Rattle.hoa_lexer.specs.Reading.{unread}
use Rattle.hoa_lexer.specs.inner.Steps.{put, ReadsToken}
use Rattle.hoa_lexer.proofs.next_token.Between.{between_as}
use Rattle.hoa_lexer.proofs.next_token.Moving.{handed_on}
use Rattle.hoa_lexer.proofs.spelling.Dashes.{tail_answer, tail_err}
use Rattle.hoa_lexer.proofs.lexer.Lexer.dashed_tail.Goals as goal

pub returns-clause-answers : goal.returns-clause-answers
returns-clause-answers g c =
    between_as (g.I.Inputs.seen c.args.inputs.now).left (g.I.Inputs.seen c.expect.new.inputs).left _ _
    (λ x z p. tail_answer c.args.dashed c.args.letter 0 _ c.args.tail.now x z c.requires.word c.in_ok-expect.ensures.held p)
    c.in_ok-expect.ensures.answers

pub returns-in_err-expect-clause-answers : goal.returns-in_err-expect-clause-answers
returns-in_err-expect-clause-answers g c =
    handed_on (λ r x z. ReadsToken (put r c.args.token.now) c.args.self.now.offset (45 ∷ 45 ∷ c.args.letter ∷ x) (unread c.expect.new.self.held z)) (g.I.Inputs.seen c.args.inputs.now).left
    (g.I.Inputs.seen c.expect.new.inputs).left _ _ c.from_residual.ensures.1
    (between_as (g.I.Inputs.seen c.args.inputs.now).left (g.I.Inputs.seen c.expect.new.inputs).left _ _
    (λ x z p. tail_err c.in_err-expect.field-0.0 c.args.dashed c.args.letter _ _ c.args.tail.now x z c.requires.word c.in_err-expect.ensures.held p)
    c.in_err-expect.ensures.answers)

use Rattle.std.proofs.Common.{◌≡◌, ◌∷◌, ◌∙◌, arith}
use Rattle.hoa_lexer.specs.Reading.{unread}
use Rattle.hoa_lexer.specs.inner.Steps.{put, ReadsToken}
use Rattle.hoa_lexer.proofs.next_token.Between.{between_as}
use Rattle.hoa_lexer.proofs.next_token.Moving.{handed_on}
use Rattle.hoa_lexer.proofs.spelling.Comments.{byte_read, end_read, unheld}
use Rattle.hoa_lexer.proofs.spelling.Dashes.{dash_bad, dash_end, dash_err}
use Rattle.hoa_lexer.proofs.lexer.Lexer.dashes.Goals as goal

pub returns-in-Some-clause-answers : goal.returns-in-Some-clause-answers
returns-in-Some-clause-answers g c =
    between_as (g.I.Inputs.seen c.args.inputs.now).left (g.I.Inputs.seen c.fetch.new.inputs).left _ _
    (λ x z p. dash_bad _ _ c.in-Some.field-0 _ x z (omega (arith, c.in_ok-fetch.ensures.advances.offset)) c.in_ok-fetch.ensures.held (λ (q : c.in-Some.field-0 ≡ 45). omega arith)
    (byte_read _ _ x z c.in-Some.is p))
    c.in_ok-fetch.ensures.answers

pub returns-in-None-clause-answers : goal.returns-in-None-clause-answers
returns-in-None-clause-answers g c =
    between_as (g.I.Inputs.seen c.args.inputs.now).left (g.I.Inputs.seen c.fetch.new.inputs).left _ _
    (λ x z p. let ended = end_read _ _ z c.in-None.is p in (dash_end x ended.0, unheld _ z c.in_ok-fetch.ensures.held ∙ ended.1))
    c.in_ok-fetch.ensures.answers

pub returns-in_err-fetch-clause-answers : goal.returns-in_err-fetch-clause-answers
returns-in_err-fetch-clause-answers g c =
    handed_on (λ r x z. ReadsToken (put r c.args.token.now) c.args.self.now.offset (45 ∷ x) (unread c.fetch.new.self.held z)) (g.I.Inputs.seen c.args.inputs.now).left
    (g.I.Inputs.seen c.fetch.new.inputs).left _ _
    c.from_residual.ensures.1
    (between_as (g.I.Inputs.seen c.args.inputs.now).left (g.I.Inputs.seen c.fetch.new.inputs).left _ _
    (λ x z p. dash_err c.in_err-fetch.field-0.0 _ _ x z c.in_err-fetch.ensures.kinds c.in_err-fetch.ensures.held p)
    c.in_err-fetch.ensures.answers)

use Rattle.std.proofs.Common.{arith, refl, sym, ◌∷◌, ◌∙◌}
use Rattle.hoa_lexer.specs.Reading.{unread}
use Rattle.hoa_lexer.specs.inner.Steps.{put, ReadsToken}
use Rattle.hoa_lexer.proofs.next_token.Between.{between_as}
use Rattle.hoa_lexer.proofs.next_token.Moving.{handed_on}
use Rattle.hoa_lexer.proofs.spelling.Comments.{unheld}
use Rattle.hoa_lexer.proofs.spelling.Words.{words_left, words_end, alias_bad, alias_end, alias_err}
use Rattle.hoa_lexer.proofs.lexer.Lexer.alias.Goals as goal

pub returns-then-is_empty-clause-answers : goal.returns-then-is_empty-clause-answers
returns-then-is_empty-clause-answers g c =
    between_as (g.I.Inputs.seen c.args.inputs.now).left (g.I.Inputs.seen c.word_bytes.new.inputs).left _ _
    (λ x z p. alias_bad _ _ c.in-Some.field-0 _ _ _ c.word_bytes.new.name x z (omega (arith, c.in_ok-word_bytes.ensures.advances.offset)) refl c.in-Some.is c.new-name.ensures
    (sym c.is_empty.ensures ∙ c.if-is_empty.true) p)
    c.in_ok-word_bytes.ensures.answers

pub returns-in-None-clause-answers : goal.returns-in-None-clause-answers
returns-in-None-clause-answers g c =
    between_as (g.I.Inputs.seen c.args.inputs.now).left (g.I.Inputs.seen c.word_bytes.new.inputs).left _ _
    (λ x z p. (alias_end _ _ x (words_end _ _ _ x z c.in-None.is p), unheld _ z (c.in_ok-word_bytes.ensures.held ∙ c.in-None.is) ∙ words_left _ _ _ x z c.in-None.is p))
    c.in_ok-word_bytes.ensures.answers

pub returns-in_err-word_bytes-clause-answers : goal.returns-in_err-word_bytes-clause-answers
returns-in_err-word_bytes-clause-answers g c =
    handed_on (λ r x z. ReadsToken (put r c.args.token.now) c.args.self.now.offset (64 ∷ x) (unread c.word_bytes.new.self.held z)) (g.I.Inputs.seen c.args.inputs.now).left
    (g.I.Inputs.seen c.word_bytes.new.inputs).left _ _ c.from_residual.ensures.1
    (between_as (g.I.Inputs.seen c.args.inputs.now).left (g.I.Inputs.seen c.word_bytes.new.inputs).left _ _
    (λ x z p. alias_err c.in_err-word_bytes.field-0.0 _ _ _ _ x z c.in_err-word_bytes.ensures.none_held p)
    c.in_err-word_bytes.ensures.answers)

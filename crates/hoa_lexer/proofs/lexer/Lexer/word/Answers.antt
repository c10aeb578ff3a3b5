use Rattle.std.proofs.Common.{◌∷◌, ◌∙◌}
use Rattle.hoa_lexer.specs.Reading.{unread}
use Rattle.hoa_lexer.specs.inner.Steps.{put, ReadsToken}
use Rattle.hoa_lexer.proofs.next_token.Between.{between_as, between_same}
use Rattle.hoa_lexer.proofs.next_token.Moving.{handed_on}
use Rattle.hoa_lexer.proofs.spelling.Comments.{unheld}
use Rattle.hoa_lexer.proofs.spelling.Words.{words_left, words_end, word_end, word_err, word_stops}
use Rattle.hoa_lexer.proofs.lexer.Lexer.word.Goals as goal

pub returns-in-None-clause-answers : goal.returns-in-None-clause-answers
returns-in-None-clause-answers g c =
    between_as (g.I.Inputs.seen c.args.inputs.now).left (g.I.Inputs.seen c.word_bytes.new.inputs).left _ _
    (λ x z p. (word_end c.args.first _ _ x c.requires.letter (words_end _ _ _ x z c.in-None.is p), unheld _ z (c.in_ok-word_bytes.ensures.held ∙ c.in-None.is) ∙ words_left _ _ _ x z c.in-None.is p))
    c.in_ok-word_bytes.ensures.answers

pub returns-in_err-word_bytes-clause-answers : goal.returns-in_err-word_bytes-clause-answers
returns-in_err-word_bytes-clause-answers g c =
    handed_on (λ r x z. ReadsToken (put r c.args.token.now) c.args.self.now.offset (c.args.first ∷ x) (unread c.word_bytes.new.self.held z)) (g.I.Inputs.seen c.args.inputs.now).left
    (g.I.Inputs.seen c.word_bytes.new.inputs).left _ _ c.from_residual-in_err-word_bytes.ensures.1
    (between_as (g.I.Inputs.seen c.args.inputs.now).left (g.I.Inputs.seen c.word_bytes.new.inputs).left _ _
    (λ x z p. word_err c.in_err-word_bytes.field-0.0 _ _ c.args.first _ _ x z c.requires.letter c.in_err-word_bytes.ensures.none_held p)
    c.in_err-word_bytes.ensures.answers)

pub returns-in_err-name-clause-answers : goal.returns-in_err-name-clause-answers
returns-in_err-name-clause-answers g c =
    handed_on (λ r x z. ReadsToken (put r c.args.token.now) c.args.self.now.offset (c.args.first ∷ x) z) (g.I.Inputs.seen c.args.inputs.now).left (g.I.Inputs.seen c.args.inputs.now).left _ _
    c.from_residual.ensures.1
    (between_same (g.I.Inputs.seen c.args.inputs.now).left _ (λ x. word_stops c.args.first x c.requires.letter))

use Rattle.std.proofs.Common.{[], ◌∷◌, refl}
use Rattle.hoa_lexer.specs.declared.token.Token.TheVariants as token
use Rattle.hoa_parser.proofs.reading.RuleParts.{next_answer}
use Rattle.hoa_parser.proofs.reading.Steps.{handed_on, takes, takes_last}
use Rattle.hoa_parser.specs.inner.Expecting.{ClosingBracket, MaybeLabel, expected_label}
use Rattle.hoa_parser.specs.inner.RuleReads.{IsLabel, IsOpened}
use Rattle.hoa_parser.proofs.parse.body.label_of_tokens.Goals as goal

pub returns-in_err-advance : goal.returns-in_err-advance
returns-in_err-advance g c = record { reads = handed_on _ _ _ c.from_residual.ensures.1 (takes_last MaybeLabel [] token.LeftBracket c.requires.opens refl refl refl c.in_err-advance.ensures) }

pub returns : goal.returns
returns g c = record {
  reads = next_answer (expected_label 0) (ClosingBracket ∷ []) (IsLabel 0) IsOpened c.label.result _ (λ w a e h. h)
      (takes MaybeLabel [] token.LeftBracket c.requires.opens refl refl refl c.in_ok-advance.ensures) c.label.ensures.reads;
}

use Rattle.std.proofs.Common.{[], ◌∷◌, refl}
use Rattle.hoa_lexer.specs.declared.token.Token.TheVariants as token
use Rattle.hoa_parser.proofs.grammar.OtherTokens.{other}
use Rattle.hoa_parser.proofs.grammar.Values.{marks_whole, no_marks_there}
use Rattle.hoa_parser.proofs.reading.RuleParts.{next_answer}
use Rattle.hoa_parser.proofs.reading.Steps.{handed_on, takes, takes_last, token_passed}
use Rattle.hoa_parser.specs.inner.Expecting.{Marks, MaybeMarks}
use Rattle.hoa_parser.specs.inner.RuleReads.{AddsMarks, AreMarks}
use Rattle.hoa_parser.proofs.parse.lists.maybe_marks.Goals as goal

pub returns-in_default : goal.returns-in_default
returns-in_default g c = record {
  reads = token_passed MaybeMarks _ _ c.requires.unspent (other MaybeMarks _ c.in_default.not-LeftBrace) (λ a. no_marks_there c.new-marks.result a c.new-marks.ensures);
}

pub returns-in_err-advance : goal.returns-in_err-advance
returns-in_err-advance g c = record { reads = handed_on _ _ _ c.from_residual.ensures.1 (takes_last MaybeMarks [] token.LeftBrace c.in-LeftBrace.is refl refl refl c.in_err-advance.ensures) }

pub returns : goal.returns
returns g c = record {
  reads = next_answer (Marks ∷ []) [] (AddsMarks c.new-marks.result) AreMarks c.marks_behind.result _ (λ w a d h. marks_whole c.new-marks.result w a h.0 d c.new-marks.ensures h.1 h.2)
      (takes MaybeMarks [] token.LeftBrace c.in-LeftBrace.is refl refl refl c.in_ok-advance.ensures) c.marks_behind.ensures.reads;
}

use Rattle.std.proofs.Common.{[], refl, sym, ◌∙◌}
use Rattle.hoa_lexer.specs.declared.token.Token.TheVariants as token
use Rattle.hoa_parser.proofs.grammar.OtherTokens.{other}
use Rattle.hoa_parser.proofs.reading.Steps.{handed_on, takes, takes_last, token_refused}
use Rattle.hoa_parser.specs.inner.Expecting.{Quoted}
use Rattle.hoa_parser.proofs.parse.tokens.quoted.Goals as goal

pub returns-in_default-clause-reads : goal.returns-in_default-clause-reads
returns-in_default-clause-reads g c = token_refused Quoted [] _ _ c.requires.unspent c.refused.ensures (other Quoted _ c.in_default.not-Str)

pub returns-in_err-text-clause-reads : goal.returns-in_err-text-clause-reads
returns-in_err-text-clause-reads g c = handed_on _ _ _ c.from_residual.ensures.1 (takes_last Quoted [] (token.Str c.in-Str.field-0) c.in-Str.is refl refl refl c.in_err-text.ensures.advances)

pub returns-clause-reads : goal.returns-clause-reads
returns-clause-reads g c = takes Quoted [] (token.Str c.in-Str-2.text) (sym c.in_ok-text.ensures.takes ∙ c.in-Str-2.is) refl refl refl c.in_ok-text.ensures.advances

use Rattle.std.proofs.Common.{[], refl, sym, ◌∙◌}
use Rattle.hoa_lexer.specs.declared.token.Token.TheVariants as token
use Rattle.hoa_parser.proofs.grammar.OtherTokens.{other}
use Rattle.hoa_parser.proofs.reading.Steps.{handed_on, takes, takes_last, token_refused}
use Rattle.hoa_parser.specs.inner.Expecting.{Word}
use Rattle.hoa_parser.proofs.parse.tokens.word.Goals as goal

pub returns-in_default-clause-reads : goal.returns-in_default-clause-reads
returns-in_default-clause-reads g c = token_refused Word [] _ _ c.requires.unspent c.refused.ensures (other Word _ c.in_default.not-Identifier)

pub returns-in_err-word-clause-reads : goal.returns-in_err-word-clause-reads
returns-in_err-word-clause-reads g c = handed_on _ _ _ c.from_residual.ensures.1
    (takes_last Word [] (token.Identifier c.in-Identifier.field-0) c.in-Identifier.is refl refl refl c.in_err-word.ensures.advances)

pub returns-clause-reads : goal.returns-clause-reads
returns-clause-reads g c = takes Word [] (token.Identifier c.in-Identifier-2.word) (sym c.in_ok-word.ensures.takes ∙ c.in-Identifier-2.is) refl refl refl c.in_ok-word.ensures.advances

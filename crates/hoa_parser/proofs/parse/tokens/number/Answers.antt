use Rattle.std.proofs.Common.{[], refl}
use Rattle.hoa_lexer.specs.declared.token.Token.TheVariants as token
use Rattle.hoa_parser.proofs.grammar.OtherTokens.{other}
use Rattle.hoa_parser.proofs.reading.Steps.{handed_on, takes, takes_last, token_refused}
use Rattle.hoa_parser.specs.inner.Expecting.{Number}
use Rattle.hoa_parser.proofs.parse.tokens.number.Goals as goal

pub returns-in_default-clause-reads : goal.returns-in_default-clause-reads
returns-in_default-clause-reads g c = token_refused Number [] _ _ c.requires.unspent c.refused.ensures (other Number _ c.in_default.not-Int)

pub returns-in_err-advance-clause-reads : goal.returns-in_err-advance-clause-reads
returns-in_err-advance-clause-reads g c = handed_on _ _ _ c.from_residual.ensures.1 (rw c.in-Int.is (takes_last Number [] (token.Int c.in-Int.number) refl refl refl refl c.in_err-advance.ensures))

pub returns-clause-reads : goal.returns-clause-reads
returns-clause-reads g c = rw c.in-Int.is (takes Number [] (token.Int c.in-Int.number) refl refl refl refl c.in_ok-advance.ensures)

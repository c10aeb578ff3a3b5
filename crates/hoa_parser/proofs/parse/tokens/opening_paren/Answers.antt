use Rattle.std.proofs.Common.{[], refl}
use Rattle.hoa_lexer.specs.declared.token.Token.TheVariants as token
use Rattle.hoa_parser.proofs.grammar.OtherTokens.{other}
use Rattle.hoa_parser.proofs.reading.Steps.{token_read, token_refused}
use Rattle.hoa_parser.specs.inner.Expecting.{OpeningParen}
use Rattle.hoa_parser.proofs.parse.tokens.opening_paren.Goals as goal

pub returns-in-LeftParen : goal.returns-in-LeftParen
returns-in-LeftParen g c = record { reads = token_read OpeningParen token.LeftParen _ c.advance.result _ _ c.in-LeftParen.is refl refl (λ v a b h. h) c.advance.ensures }

pub returns-in_default : goal.returns-in_default
returns-in_default g c = record { reads = token_refused OpeningParen [] _ _ c.requires.unspent c.refused.ensures (other OpeningParen _ c.in_default.not-LeftParen) }

use Rattle.std.proofs.Common.{[], refl}
use Rattle.hoa_lexer.specs.declared.token.Token.TheVariants as token
use Rattle.hoa_parser.proofs.grammar.OtherTokens.{other}
use Rattle.hoa_parser.proofs.reading.Steps.{token_read, token_refused}
use Rattle.hoa_parser.specs.inner.Expecting.{ClosingParen}
use Rattle.hoa_parser.proofs.parse.tokens.closing_paren.Goals as goal

pub returns-in-RightParen : goal.returns-in-RightParen
returns-in-RightParen g c = record { reads = token_read ClosingParen token.RightParen _ c.advance.result _ _ c.in-RightParen.is refl refl (λ v a b h. h) c.advance.ensures }

pub returns-in_default : goal.returns-in_default
returns-in_default g c = record { reads = token_refused ClosingParen [] _ _ c.requires.unspent c.refused.ensures (other ClosingParen _ c.in_default.not-RightParen) }

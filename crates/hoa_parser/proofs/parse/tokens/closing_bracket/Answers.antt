use Rattle.std.proofs.Common.{[], refl}
use Rattle.hoa_lexer.specs.declared.token.Token.TheVariants as token
use Rattle.hoa_parser.proofs.grammar.OtherTokens.{other}
use Rattle.hoa_parser.proofs.reading.Steps.{token_read, token_refused}
use Rattle.hoa_parser.specs.inner.Expecting.{ClosingBracket}
use Rattle.hoa_parser.proofs.parse.tokens.closing_bracket.Goals as goal

pub returns-in-RightBracket : goal.returns-in-RightBracket
returns-in-RightBracket g c = record { reads = token_read ClosingBracket token.RightBracket _ c.advance.result _ _ c.in-RightBracket.is refl refl (λ v a b h. h) c.advance.ensures }

pub returns-in_default : goal.returns-in_default
returns-in_default g c = record { reads = token_refused ClosingBracket [] _ _ c.requires.unspent c.refused.ensures (other ClosingBracket _ c.in_default.not-RightBracket) }

use Rattle.std.proofs.Common.{Some, None, refl}
use Rattle.hoa_lexer.specs.declared.token.Token.TheVariants as token
use Rattle.hoa_parser.proofs.grammar.OtherTokens.{other}
use Rattle.hoa_parser.proofs.reading.Steps.{token_passed, token_read}
use Rattle.hoa_parser.specs.inner.Expecting.{MaybeQuoted}
use Rattle.hoa_parser.proofs.parse.tokens.maybe_quoted.Goals as goal

pub returns-in-Str : goal.returns-in-Str
returns-in-Str g c = record { reads = token_read MaybeQuoted (token.Str c.in-Str.field-0) _ c.advance.result _ _ c.in-Str.is refl refl (λ v a b h. (Some c.in-Str.field-0, h)) c.advance.ensures }

pub returns-in_default : goal.returns-in_default
returns-in_default g c = record { reads = token_passed MaybeQuoted _ _ c.requires.unspent (other MaybeQuoted _ c.in_default.not-Str) (λ a. (None, refl)) }

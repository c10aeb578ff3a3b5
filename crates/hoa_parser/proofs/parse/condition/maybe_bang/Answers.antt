use Rattle.std.proofs.Common.{false, [], refl}
use Rattle.hoa_lexer.specs.declared.token.Token.TheVariants as token
use Rattle.hoa_parser.proofs.grammar.OtherTokens.{other}
use Rattle.hoa_parser.proofs.reading.Steps.{handed_on, takes, takes_last, token_passed}
use Rattle.hoa_parser.specs.inner.Expecting.{MaybeBang}
use Rattle.hoa_parser.specs.inner.RuleReads.{IsMaybeBang}
use Rattle.hoa_parser.proofs.parse.condition.maybe_bang.Goals as goal

pub returns-in_default : goal.returns-in_default
returns-in_default g c = record { reads = token_passed MaybeBang (IsMaybeBang false) _ c.requires.unspent (other MaybeBang _ c.in_default.not-Bang) (λ a. refl) }

pub returns-in_err-advance : goal.returns-in_err-advance
returns-in_err-advance g c = record { reads = handed_on _ _ _ c.from_residual.ensures.1 (takes_last MaybeBang [] token.Bang c.in-Bang.is refl refl refl c.in_err-advance.ensures) }

pub returns : goal.returns
returns g c = record { reads = takes MaybeBang [] token.Bang c.in-Bang.is refl refl refl c.in_ok-advance.ensures }

use Rattle.std.proofs.Common.{[], refl, sym, ◌∙◌}
use Rattle.hoa_lexer.specs.declared.token.Token.TheVariants as token
use Rattle.hoa_parser.proofs.grammar.OtherTokens.{other}
use Rattle.hoa_parser.proofs.reading.Steps.{handed_on, takes, takes_last, token_refused}
use Rattle.hoa_parser.specs.inner.Expecting.{AliasName}
use Rattle.hoa_parser.proofs.parse.tokens.alias_name.Goals as goal

pub returns-in_default : goal.returns-in_default
returns-in_default g c = record { reads = token_refused AliasName [] _ _ c.requires.unspent c.refused.ensures (other AliasName _ c.in_default.not-Alias) }

pub returns-in_err-name : goal.returns-in_err-name
returns-in_err-name g c = record {
  reads =
      handed_on _ _ _ c.from_residual.ensures.1 (takes_last AliasName [] (token.Alias c.in-Alias.field-0) c.in-Alias.is refl refl refl c.in_err-name.ensures.advances);
}

pub returns : goal.returns
returns g c = record { reads = takes AliasName [] (token.Alias c.in-Alias-2.name) (sym c.in_ok-name.ensures.takes ∙ c.in-Alias-2.is) refl refl refl c.in_ok-name.ensures.advances }

use Rattle.std.proofs.Common.{None, refl}
use Rattle.hoa_parser.proofs.grammar.OtherTokens.{other}
use Rattle.hoa_parser.proofs.reading.Bodies.{bracketed}
use Rattle.hoa_parser.proofs.reading.Steps.{fails_after, handed_on, reads_as, reads_then, token_passed}
use Rattle.hoa_parser.specs.inner.Expecting.{MaybeLabel}
use Rattle.hoa_parser.specs.inner.RuleReads.{IsMaybeLabel}
use Rattle.hoa_parser.proofs.parse.body.maybe_label.Goals as goal

pub returns-in_default : goal.returns-in_default
returns-in_default g c = record {
  reads = token_passed MaybeLabel (IsMaybeLabel None) _ c.requires.unspent (other MaybeLabel _ c.in_default.not-LeftBracket)
      (λ a. record { phrase = None; within = tt; passed = refl; means = refl });
}

pub returns-in_err-label : goal.returns-in_err-label
returns-in_err-label g c = record { reads = handed_on _ _ _ c.from_residual.ensures.1 c.in_err-label.ensures.reads }

pub returns-in_err-closing_bracket : goal.returns-in_err-closing_bracket
returns-in_err-closing_bracket g c = record {
  reads = handed_on _ _ _ c.from_residual-in_err-closing_bracket.ensures.1 (fails_after c.in_ok-label.ensures.reads c.in_err-closing_bracket.ensures.reads);
}

pub returns : goal.returns
returns g c = record { reads = reads_as (λ a d h. bracketed _ a h.1.0 h.0 d h.1.1 h.1.2 h.2) (reads_then c.in_ok-label.ensures.reads c.in_ok-closing_bracket.ensures.reads) }

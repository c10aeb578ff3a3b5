use Rattle.std.proofs.Common.{[], ◌∷◌, refl, sym, ◌∙◌}
use Rattle.hoa_parser.proofs.grammar.OtherTokens.{other_value}
use Rattle.hoa_parser.proofs.grammar.Values.{value_at, no_more, one_spelled}
use Rattle.hoa_parser.proofs.reading.Steps.{handed_on, reads_end, reads_nothing}
use Rattle.hoa_parser.specs.inner.RuleReads.{values_part}
use Rattle.hoa_parser.proofs.parse.lists.values.Goals as goal

pub values-init : goal.values-init
values-init g c = reads_nothing (values_part c.args.texts ∷ []) _ _ c.requires.unspent (λ a. ([], refl))

pub returns-then-not-is_value : goal.returns-then-not-is_value
returns-then-not-is_value g c = record { reads = reads_end (values_part c.args.texts) (other_value c.args.texts c.values.ahead (sym c.is_value.ensures ∙ c.if-not-is_value.true)) c.values.invariant }

pub returns-in_err-advance : goal.returns-in_err-advance
returns-in_err-advance g c = record {
  reads =
      handed_on _ _ _ c.from_residual.ensures.1 (no_more (value_at c.args.texts _ (sym c.is_value.ensures ∙ c.if-not-is_value.false)) c.values.invariant c.in_err-advance.ensures);
}

pub values-preserved : goal.values-preserved
values-preserved g c = one_spelled (value_at c.args.texts _ (sym c.is_value.ensures ∙ c.if-not-is_value.false)) c.values.invariant c.in_ok-advance.ensures

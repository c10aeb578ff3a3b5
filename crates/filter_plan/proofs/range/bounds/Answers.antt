use Rattle.std.proofs.Common.{MatchOption, subst, sym}
use Rattle.filter_plan.specs.declared.range.Range.{Range}
use Rattle.filter_plan.specs.inner.Bounds.{IsBounds}
use Rattle.filter_plan.proofs.range.bounds.Goals as goal

pub returns-in_err-low : goal.returns-in_err-low
returns-in_err-low c =
    subst (λ o. MatchOption o ((r : Range) → IsBounds c.args.before.now c.args.after.now r → ⊥) (IsBounds c.args.before.now c.args.after.now)) (sym c.from_residual.ensures)
    (λ r h. c.in_err-low.ensures r.low h.low)

use Rattle.std.proofs.Common.{◌∙◌, ap, sym, arith}
use Rattle.aut_base.specs.Formula.{formula_tree, formula_list}
use Rattle.aut_base.proofs.lists.Steps.{map_more}
use Rattle.lasso_emptiness.specs.inner.Taken.{substituted}
use Rattle.lasso_emptiness.proofs.conditions.Parts.{taken-And, taken-Or}
use Rattle.lasso_emptiness.proofs.taken.+take.Goals as goal

pub take-returns-in_ok-take_parts-in-And : goal.take-returns-in_ok-take_parts-in-And
take-returns-in_ok-take_parts-in-And t c =
    taken-And c.args.side.set c.args.side.neg c.args.value c.in-And.parts c.in_ok-take_parts-in-And.field-0 c.in_ok-take_parts-in-And.ensures
    ∙ sym (ap (λ f. substituted c.args.side.set c.args.side.neg c.args.value (formula_tree f)) c.in-And.is)

pub take-returns-in_ok-take_parts-in-Or : goal.take-returns-in_ok-take_parts-in-Or
take-returns-in_ok-take_parts-in-Or t c =
    taken-Or c.args.side.set c.args.side.neg c.args.value c.in-Or.parts c.in_ok-take_parts-in-Or.field-0 c.in_ok-take_parts-in-Or.ensures
    ∙ sym (ap (λ f. substituted c.args.side.set c.args.side.neg c.args.value (formula_tree f)) c.in-Or.is)

pub take_parts-parts-preserved : goal.take_parts-parts-preserved
take_parts-parts-preserved t c =
    map_more (substituted c.args.side.set c.args.side.neg c.args.value) (formula_list c.args.parts.now) c.parts.place (formula_tree c.at-in-parts.result.now) (formula_list c.parts.new) _ _ _
    c.at-in-parts.ensures c.parts.invariant c.in_ok-part.ensures c.in_ok-push.ensures.ok

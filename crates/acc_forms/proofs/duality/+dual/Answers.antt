use Rattle.std.proofs.Common.{◌∙◌, ap, sym}
use Rattle.aut_base.specs.Formula.{formula_tree, formula_list}
use Rattle.acc_forms.specs.Dual.{dual}
use Rattle.aut_base.proofs.lists.Steps.{map_more}
use Rattle.acc_forms.proofs.Parts.{dual-And, dual-Or}
use Rattle.acc_forms.proofs.duality.+dual.Goals as goal

pub exchanged-returns-in_ok-exchanged_parts-in-And :
    goal.exchanged-returns-in_ok-exchanged_parts-in-And
exchanged-returns-in_ok-exchanged_parts-in-And t c =
    dual-And c.in-And.parts c.in_ok-exchanged_parts-in-And.field-0 c.in_ok-exchanged_parts-in-And.ensures
    ∙ sym (ap (λ f. dual (formula_tree f)) c.in-And.is)

pub exchanged-returns-in_ok-exchanged_parts-in-Or :
    goal.exchanged-returns-in_ok-exchanged_parts-in-Or
exchanged-returns-in_ok-exchanged_parts-in-Or t c =
    dual-Or c.in-Or.parts c.in_ok-exchanged_parts-in-Or.field-0 c.in_ok-exchanged_parts-in-Or.ensures
    ∙ sym (ap (λ f. dual (formula_tree f)) c.in-Or.is)

pub exchanged_parts-parts-preserved : goal.exchanged_parts-parts-preserved
exchanged_parts-parts-preserved t c =
    map_more dual (formula_list c.args.parts.now) c.parts.place (formula_tree c.at-in-parts.result.now) (formula_list c.parts.duals) _ _ _
    c.at-in-parts.ensures c.parts.invariant c.in_ok-part.ensures c.in_ok-push.ensures.ok

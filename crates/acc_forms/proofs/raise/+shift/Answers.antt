use Rattle.std.proofs.Common.{◌∙◌, ◌-◌, ◌^◌, ap, sym, arith}
use Rattle.aut_base.specs.Formula.{formula_tree, formula_list}
use Rattle.aut_base.proofs.trees.FormulaSizes.{formula_size-at}
use Rattle.acc_forms.specs.Shift.{shift}
use Rattle.aut_base.proofs.lists.Steps.{map_more}
use Rattle.acc_forms.proofs.Parts.{shift-And, shift-Or, below-at}
use Rattle.acc_forms.proofs.raise.+shift.Goals as goal

pub shifted-returns-in_ok-shifted_parts-in-And : goal.shifted-returns-in_ok-shifted_parts-in-And
shifted-returns-in_ok-shifted_parts-in-And t c =
    shift-And c.args.by c.in-And.parts c.in_ok-shifted_parts-in-And.field-0 c.in_ok-shifted_parts-in-And.ensures
    ∙ sym (ap (λ f. shift c.args.by (formula_tree f)) c.in-And.is)

pub shifted-returns-in_ok-shifted_parts-in-Or : goal.shifted-returns-in_ok-shifted_parts-in-Or
shifted-returns-in_ok-shifted_parts-in-Or t c =
    shift-Or c.args.by c.in-Or.parts c.in_ok-shifted_parts-in-Or.field-0 c.in_ok-shifted_parts-in-Or.ensures
    ∙ sym (ap (λ f. shift c.args.by (formula_tree f)) c.in-Or.is)

pub shifted_parts-shifted-requires-in-parts : goal.shifted_parts-shifted-requires-in-parts
shifted_parts-shifted-requires-in-parts t c =
    let list = formula_list c.args.parts.now in
    let part = formula_tree c.at-in-parts.result.now in
    let smaller = formula_size-at list c.parts.place part c.at-in-parts.ensures in
    (omega arith, below-at (2 ^ 32 - c.args.by) list c.parts.place part c.at-in-parts.ensures c.requires)

pub shifted_parts-parts-preserved : goal.shifted_parts-parts-preserved
shifted_parts-parts-preserved t c =
    map_more (shift c.args.by) (formula_list c.args.parts.now) c.parts.place (formula_tree c.at-in-parts.result.now) (formula_list c.parts.shifts) _ _ _
    c.at-in-parts.ensures c.parts.invariant c.in_ok-part.ensures c.in_ok-push.ensures.ok

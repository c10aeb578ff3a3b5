use Rattle.std.proofs.Common.{◌∙◌, ap, sym}
use Rattle.aut_base.specs.Formula.{formula_tree, formula_list}
use Rattle.acc_forms.specs.Atoms.{has_fin}
use Rattle.aut_base.proofs.lists.Steps.{any_more, any_here}
use Rattle.acc_forms.proofs.Parts.{has_fin-And, has_fin-Or}
use Rattle.acc_forms.proofs.atoms.+fin.Goals as goal

pub fin_stands_in-returns-in-And : goal.fin_stands_in-returns-in-And
fin_stands_in-returns-in-And t c =
    c.fin_stands_in_some.ensures ∙ sym (ap (λ f. has_fin (formula_tree f)) c.in-And.is ∙ has_fin-And c.in-And.parts)

pub fin_stands_in-returns-in-Or : goal.fin_stands_in-returns-in-Or
fin_stands_in-returns-in-Or t c =
    c.fin_stands_in_some-in-Or.ensures ∙ sym (ap (λ f. has_fin (formula_tree f)) c.in-Or.is ∙ has_fin-Or c.in-Or.parts)

pub fin_stands_in_some-returns-then-fin_stands_in : goal.fin_stands_in_some-returns-then-fin_stands_in
fin_stands_in_some-returns-then-fin_stands_in t c =
    any_here has_fin (formula_list c.args.parts.now) c.parts.place (formula_tree c.at.result.now) c.at.ensures c.parts.invariant
    (sym c.fin_stands_in.ensures ∙ c.if-fin_stands_in.true)

pub fin_stands_in_some-parts-preserved : goal.fin_stands_in_some-parts-preserved
fin_stands_in_some-parts-preserved t c =
    any_more has_fin (formula_list c.args.parts.now) c.parts.place (formula_tree c.at.result.now) c.at.ensures c.parts.invariant
    (sym c.fin_stands_in.ensures ∙ c.if-fin_stands_in.false)

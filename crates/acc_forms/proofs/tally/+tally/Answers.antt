use Rattle.std.proofs.Common.{◌∙◌, ap, sym, take}
use Rattle.aut_base.specs.Formula.{formula_tree, formula_list}
use Rattle.acc_forms.specs.Terms.{terms}
use Rattle.acc_forms.specs.inner.Tally.{part_terms, tally_of}
use Rattle.acc_forms.proofs.Tallies.{part_terms_more}
use Rattle.acc_forms.proofs.TermLaws.{terms-And, terms-Or}
use Rattle.acc_forms.proofs.tally.+tally.Goals as goal

pub tally_of_formula-returns-in-And : goal.tally_of_formula-returns-in-And
tally_of_formula-returns-in-And t c =
    c.tally_of_parts.ensures ∙ sym (ap (λ f. tally_of (terms (formula_tree f))) c.in-And.is ∙ ap tally_of (terms-And c.in-And.parts))

pub tally_of_formula-returns-in-Or : goal.tally_of_formula-returns-in-Or
tally_of_formula-returns-in-Or t c =
    c.tally_of_parts-in-Or.ensures ∙ sym (ap (λ f. tally_of (terms (formula_tree f))) c.in-Or.is ∙ ap tally_of (terms-Or c.in-Or.parts))

pub tally_of_parts-parts-preserved : goal.tally_of_parts-parts-preserved
tally_of_parts-parts-preserved t c =
    let list = formula_list c.args.parts.now in
    c.joined-all.ensures (part_terms c.args.join (take c.parts.place list)) (terms (formula_tree c.at.result.now)) c.parts.invariant c.tally_of_formula.ensures
    ∙ sym (ap tally_of (part_terms_more c.args.join list c.parts.place (formula_tree c.at.result.now) c.at.ensures))

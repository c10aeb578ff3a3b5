use Rattle.std.proofs.Common.{◌∙◌, ap, sym}
use Rattle.aut_base.specs.Formula.{formula_tree}
use Rattle.acc_forms.specs.Terms.{some_term_met}
use Rattle.acc_forms.proofs.TermLaws.{met-terms, met-of_terms}
use Rattle.acc_forms.proofs.terms.disjuncts.Goals as goal

pub returns-clause-meaning : goal.returns-clause-meaning
returns-clause-meaning c = λ cycle. met-terms cycle (formula_tree c.args.formula.now) ∙ ap (some_term_met cycle) (sym c.in_ok-found.ensures)

pub returns-clause-again : goal.returns-clause-again
returns-clause-again c = λ cycle.
    met-of_terms cycle c.in_ok-found.found ∙ ap (some_term_met cycle) c.in_ok-found.ensures ∙ sym (met-terms cycle (formula_tree c.args.formula.now))

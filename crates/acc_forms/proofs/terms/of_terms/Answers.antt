use Rattle.std.proofs.Common.{◌∙◌, ap, arith}
use Rattle.std.proofs.lemmas.List.{take_all}
use Rattle.aut_base.specs.Formula.{met}
use Rattle.acc_forms.specs.Terms.{of_terms}
use Rattle.acc_forms.proofs.TermLaws.{met-of_terms}
use Rattle.acc_forms.proofs.terms.of_terms.Goals as goal

pub returns-clause-meaning : goal.returns-clause-meaning
returns-clause-meaning c = λ cycle.
    ap (met cycle) (c.terms.invariant ∙ ap of_terms (take_all c.terms.term-index c.as_slice-term-items.result.now (omega arith) ∙ c.as_slice-term-items.ensures))
    ∙ met-of_terms cycle c.args.terms.now

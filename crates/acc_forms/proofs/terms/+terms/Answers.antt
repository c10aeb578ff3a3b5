use Rattle.std.proofs.Common.{◌≡◌, ◌∙◌, ◌++◌, ap, sym, map, take}
use Rattle.std.specs.List.{flat_map}
use Rattle.std.proofs.lemmas.Result.{IfOk-weaker}
use Rattle.aut_base.specs.Formula.{formula_tree, formula_list}
use Rattle.acc_forms.specs.Terms.{terms, choices, pairs}
use Rattle.acc_forms.proofs.Tallies.{choices_more, terms_more}
use Rattle.acc_forms.proofs.TermLaws.{terms-And, terms-Or}
use Rattle.acc_forms.proofs.terms.+terms.Goals as goal

pub terms_of-returns-in-And : goal.terms_of-returns-in-And
terms_of-returns-in-And t c =
    IfOk-weaker c.terms_of_all.result
    (λ found. found ≡ choices (map terms (formula_list c.in-And.parts)))
    (λ found. found ≡ terms (formula_tree c.args.formula.now))
    (λ found e. e ∙ sym (ap (λ f. terms (formula_tree f)) c.in-And.is ∙ terms-And c.in-And.parts))
    c.terms_of_all.ensures

pub terms_of-returns-in-Or : goal.terms_of-returns-in-Or
terms_of-returns-in-Or t c =
    IfOk-weaker c.terms_of_some.result
    (λ found. found ≡ flat_map terms (formula_list c.in-Or.parts))
    (λ found. found ≡ terms (formula_tree c.args.formula.now))
    (λ found e. e ∙ sym (ap (λ f. terms (formula_tree f)) c.in-Or.is ∙ terms-Or c.in-Or.parts))
    c.terms_of_some.ensures

pub terms_of_all-parts-preserved : goal.terms_of_all-parts-preserved
terms_of_all-parts-preserved t c =
    let list = formula_list c.args.parts.now in
    c.in_ok-found-2.ensures
    ∙ ap (λ found. pairs found c.in_ok-those.those) c.parts.invariant
    ∙ ap (λ those. pairs (choices (map terms (take c.parts.place list))) those) c.in_ok-those.ensures
    ∙ sym (choices_more list c.parts.place (formula_tree c.at.result.now) c.at.ensures)

pub terms_of_some-parts-preserved : goal.terms_of_some-parts-preserved
terms_of_some-parts-preserved t c =
    let list = formula_list c.args.parts.now in
    c.in_ok-append.ensures
    ∙ ap (λ found. found ++ c.in_ok-those.those) c.parts.invariant
    ∙ ap (λ those. flat_map terms (take c.parts.place list) ++ those) c.in_ok-those.ensures
    ∙ sym (terms_more list c.parts.place (formula_tree c.at.result.now) c.at.ensures)

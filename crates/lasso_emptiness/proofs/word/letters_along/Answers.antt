use Rattle.std.proofs.Common.{◌∷◌, ◌++◌, [], List, subst, sym, take}
use Rattle.std.proofs.lemmas.List.{get_or_default}
use Rattle.aut_base.proofs.lists.Lists.{take-push}
use Rattle.aut_base.specs.Word.{NameSet}
use Rattle.lasso_emptiness.specs.declared.live.EdgeRef.{EdgeRef}
use Rattle.lasso_emptiness.specs.inner.Letters.{AreLettersOf}
use Rattle.lasso_emptiness.specs.inner.Tours.{listed_edge}
use Rattle.lasso_emptiness.proofs.trails.Lettered.{letters_push}
use Rattle.lasso_emptiness.proofs.word.letters_along.Goals as goal

pub edges-preserved : goal.edges-preserved
edges-preserved c =
    let edges = c.args.edges.now in
    let i = c.edges.edge-index in
    let e = listed_edge edges i in
    subst (λ (es : List EdgeRef). AreLettersOf c.args.a.now es c.push.new.self) (sym (take-push edges i e c.edges-test.true (get_or_default edges i _ e c.edges-test.true)))
    (subst (λ (xs : List NameSet). AreLettersOf c.args.a.now (take i edges ++ e ∷ []) xs) (sym c.in_ok-push.ensures.ok)
    (letters_push c.args.a.now (take i edges) c.edges.letters e c.in_ok-letter_on.field-0 c.edges.invariant c.in_ok-letter_on.ensures))

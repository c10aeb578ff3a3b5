use Rattle.std.proofs.Common.{◌≡◌, ◌∙◌, ℕ, List, ◌||◌, ap}
use Rattle.aut_base.specs.Formula.{formula_tree, met}
use Rattle.acc_forms.specs.Joined.{disj}
use Rattle.acc_forms.proofs.JoinLaws.{met-disj}
use Rattle.acc_forms.proofs.Meanings.{holds_of_new}
use Rattle.acc_forms.proofs.join.disj.Goals as goal

pub returns-clause-meaning : goal.returns-clause-meaning
returns-clause-meaning c =
    let f = formula_tree c.args.f.now in
    let g = formula_tree c.args.g.now in
    let first = formula_tree c.in_ok-first.first in
    holds_of_new c.join_to.result (disj first g) (λ new. (cycle : List (List ℕ)) → met cycle new ≡ (met cycle f || met cycle g))
    (λ cycle. met-disj cycle first g ∙ ap (λ h. met cycle h || met cycle g) c.in_ok-first.ensures)
    c.join_to.ensures

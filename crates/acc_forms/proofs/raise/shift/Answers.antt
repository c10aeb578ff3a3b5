use Rattle.std.proofs.Common.{◌≡◌, ℕ, List}
use Rattle.aut_base.specs.Formula.{formula_tree, met}
use Rattle.acc_forms.specs.Shift.{shift, raised, lowered}
use Rattle.acc_forms.proofs.ShiftLaw.{met-shift, met-raised}
use Rattle.acc_forms.proofs.Meanings.{holds_of_new}
use Rattle.acc_forms.proofs.raise.shift.Goals as goal

pub returns-clause-meaning : goal.returns-clause-meaning
returns-clause-meaning c =
    let tree = formula_tree c.args.formula.now in
    holds_of_new c.shifted.result (shift c.args.by tree) (λ new. (cycle : List (List ℕ)) → met cycle new ≡ met (lowered c.args.by cycle) tree) (λ cycle. met-shift c.args.by cycle tree)
    c.shifted.ensures

pub returns-clause-on_raised : goal.returns-clause-on_raised
returns-clause-on_raised c =
    let tree = formula_tree c.args.formula.now in
    holds_of_new c.shifted.result (shift c.args.by tree) (λ new. (cycle : List (List ℕ)) → met (raised c.args.by cycle) new ≡ met cycle tree) (λ cycle. met-raised c.args.by cycle tree)
    c.shifted.ensures

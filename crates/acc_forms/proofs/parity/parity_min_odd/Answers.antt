use Rattle.std.proofs.Common.{◌≡◌, ◌∙◌, ◌-◌, sym, ap, arith}
use Rattle.aut_base.specs.Formula.{formula_tree, met}
use Rattle.acc_forms.specs.Parity.{parity_from, parity_min_odd}
use Rattle.acc_forms.proofs.ParityLaw.{met-parity_says, met-parity_means}
use Rattle.acc_forms.proofs.parity.parity_min_odd.Goals as goal

pub returns-clause-meaning : goal.returns-clause-meaning
returns-clause-meaning c =
    let n = c.args.n in
    let first : c.sets.set ≡ 0 = omega arith in
    let all : n - 1 - 0 ≡ n - 1 = omega arith in
    let whole : formula_tree c.sets.formula ≡ parity_min_odd n = c.sets.invariant ∙ ap (λ s. parity_from (n - 1 - s) s) first ∙ ap (λ m. parity_from m 0) all in
    λ cycle. (
      (λ holds. met-parity_says cycle n c.requires.some (sym (ap (met cycle) whole) ∙ holds)),
      (λ odd. ap (met cycle) whole ∙ met-parity_means cycle n c.requires.some odd),
    )

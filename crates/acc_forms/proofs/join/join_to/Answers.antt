use Rattle.std.proofs.Common.{◌≡◌, ◌∙◌, sym}
use Rattle.aut_base.specs.Formula.{formula_tree}
use Rattle.acc_forms.specs.inner.Join.{joined_by}
use Rattle.acc_forms.proofs.JoinLaws.{first_outweighs, second_neutral, second_outweighs, first_neutral}
use Rattle.acc_forms.proofs.Meanings.{holds_of_new}
use Rattle.acc_forms.proofs.join.join_to.Goals as goal
use Rattle.acc_forms.proofs.join.join_to.Goals.{then-outweighs-via-then-outweighs, then-outweighs-via-else-outweighs+then-is_neutral}
use Rattle.acc_forms.proofs.join.join_to.Goals.{then-outweighs-2-via-then-outweighs-2, then-outweighs-2-via-else-outweighs-2+then-is_neutral-2}

pub returns-then-outweighs : goal.returns-then-outweighs
returns-then-outweighs c =
    elim c.then-outweighs.branch [
      | then-outweighs-via-then-outweighs w ↦ first_outweighs c.args.join _ _ (sym c.outweighs.ensures ∙ w.if-outweighs.true)
      | then-outweighs-via-else-outweighs+then-is_neutral w ↦ second_neutral c.args.join _ _ (sym w.is_neutral.ensures ∙ w.if-is_neutral.true)
    ]

pub returns-then-outweighs-2 : goal.returns-then-outweighs-2
returns-then-outweighs-2 c =
    let f = formula_tree c.args.f in
    let g = formula_tree c.args.g.now in
    let same : g ≡ joined_by c.args.join f g =
    elim c.then-outweighs-2.branch [
      | then-outweighs-2-via-then-outweighs-2 w ↦ second_outweighs c.args.join f g (sym c.outweighs-2.ensures ∙ w.if-outweighs-2.true)
      | then-outweighs-2-via-else-outweighs-2+then-is_neutral-2 w ↦ first_neutral c.args.join f g (sym w.is_neutral-else-outweighs-2.ensures ∙ w.if-is_neutral-2.true)
    ] in
    holds_of_new c.copy.result g (λ new. new ≡ joined_by c.args.join f g) same c.copy.ensures

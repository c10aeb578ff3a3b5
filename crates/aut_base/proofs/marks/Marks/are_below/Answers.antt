use Rattle.std.proofs.Common.{◌/◌, ◌^◌, ◌<◌, ◌↔◌, All, IsTrue, nat_eq, rules, subst}
use Rattle.std.proofs.lemmas.Bool.{le-leb}
use Rattle.aut_base.proofs.order.SetBits.{are_bits_below, below_all, word_view}
use Rattle.aut_base.proofs.marks.Marks.are_below.Goals as goal

pub returns-then-sets-ge64-clause-below : goal.returns-then-sets-ge64-clause-below
returns-then-sets-ge64-clause-below c = (
  λ e. subst (All (λ mark. mark < c.args.sets)) (word_view c.in-Word.is c.self.view_is) (below_all c.in-Word.word c.args.sets c.if-sets-ge64.true),
  λ all. le-leb 64 c.args.sets c.if-sets-ge64.true,
)

pub returns-else-sets-ge64-clause-below : goal.returns-else-sets-ge64-clause-below
returns-else-sets-ge64-clause-below c =
    subst (λ ms. IsTrue (nat_eq (c.in-Word.word / 2 ^ c.args.sets) 0) ↔ All (λ mark. mark < c.args.sets) ms) (word_view c.in-Word.is c.self.view_is)
    (are_bits_below c.in-Word.word c.args.sets (search rules))

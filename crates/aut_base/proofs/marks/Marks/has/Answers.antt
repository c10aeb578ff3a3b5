use Rattle.std.proofs.Common.{◌∙◌, ap, nat_lt}
use Rattle.std.proofs.lemmas.Bool.{le-ltb}
use Rattle.aut_base.proofs.order.SetBits.{has_bit, has_no_bit, word_view}
use Rattle.aut_base.specs.Marks.{is_in}
use Rattle.aut_base.proofs.marks.Marks.has.Goals as goal

pub returns-then-set-lt64 : goal.returns-then-set-lt64
returns-then-set-lt64 c = has_bit c.in-Word.word c.args.set c.if-set-lt64.true ∙ ap (is_in c.args.set) (word_view c.in-Word.is c.self.view_is)

pub returns-else-set-lt64 : goal.returns-else-set-lt64
returns-else-set-lt64 c =
    has_no_bit c.in-Word.word c.args.set (nat_lt c.args.set 64) (le-ltb c.args.set 64 c.if-set-lt64.false) c.if-set-lt64.false
    ∙ ap (is_in c.args.set) (word_view c.in-Word.is c.self.view_is)

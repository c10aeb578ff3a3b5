use Rattle.std.proofs.Common.{◌∙◌, ◌+◌, ◌<◌, ◌++◌, All, map, rules, subst, sym}
use Rattle.aut_base.proofs.order.SetBits.{joint_word_is, small_word}
use Rattle.aut_base.specs.HeldMarks.{held_marks}
use Rattle.aut_base.proofs.marks.joint_word.Goals as goal

pub returns : goal.returns
returns c =
    let low = subst (λ held. All (λ mark. mark < c.args.by) (held_marks held)) c.in-Word.is c.requires in
    joint_word_is c.in-Word.first c.in-Word-others.second c.args.by (small_word c.in-Word.first c.args.by (search rules) low) c.if-by-ge64.false c.if-second-by.false
    ∙ λ i. held_marks (sym c.in-Word.is i) ++ map (λ mark. mark + c.args.by) (held_marks (sym c.in-Word-others.is i))

use Rattle.std.proofs.Common.{◌∙◌, List, ap, arith, length, subst, sym}
use Rattle.aut_core.proofs.Growth.{keeps_none}
use Rattle.label_guards.specs.declared.guard.Guard.{Guard}
use Rattle.letter_classes.specs.Known.{IsKnown}
use Rattle.letter_classes.proofs.known.known_classes.Goals as goal

pub returns-then-len-most-clause-keeps : goal.returns-then-len-most-clause-keeps
returns-then-len-most-clause-keeps c = keeps_none c.args.guards.now

pub returns-then-len-most-clause-classes : goal.returns-then-len-most-clause-classes
returns-then-len-most-clause-classes c =
    let is = c.requires.known c.args.list c.in-Some.classes.now (sym c.in-Some.ensures.value) in
    omega (arith, c.if-len-most.true, c.len.ensures, is.are.all)

pub returns-in_err-copy-clause-keeps : goal.returns-in_err-copy-clause-keeps
returns-in_err-copy-clause-keeps c = keeps_none c.args.guards.now

pub returns-in-Some-clause-keeps : goal.returns-in-Some-clause-keeps
returns-in-Some-clause-keeps c = keeps_none c.args.guards.now

pub returns-in-Some-clause-classes : goal.returns-in-Some-clause-classes
returns-in-Some-clause-classes c =
    subst (IsKnown c.args.guards.now c.args.list) (sym (c.in_ok-copy.ensures.items ∙ c.as_slice.ensures)) (c.requires.known c.args.list c.in-Some.classes.now (sym c.in-Some.ensures.value))

pub returns-in-Some-clause-few : goal.returns-in-Some-clause-few
returns-in-Some-clause-few c = omega (arith, c.if-len-most.false, c.len.ensures, ap (λ (gs : List Guard). length gs) (c.in_ok-copy.ensures.items ∙ c.as_slice.ensures))

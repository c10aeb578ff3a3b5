use Rattle.std.proofs.Common.{◌∙◌, ap, arith}
use Rattle.std.proofs.lemmas.List.{take_all}
use Rattle.std.specs.List.{list_all}
use Rattle.letter_classes.proofs.SetGuards.{guards_has}
use Rattle.letter_classes.proofs.Told.{told_has}
use Rattle.letter_classes.specs.SetClasses.{TellTheSame, guards_from}
use Rattle.letter_classes.proofs.guards.set_guards.Goals as goal

pub returns-clause-told : goal.returns-clause-told
returns-clause-told c = λ p. c.set.invariant p ∙ ap (λ qs. list_all p (guards_from c.args.a.now qs)) (take_all c.set.state-index c.args.set.now (omega (arith, c.set-test.false)))

pub returns-clause-has : goal.returns-clause-has
returns-clause-has c =
    let a = c.args.a.now in
    let told : TellTheSame c.set.list (guards_from a c.args.set.now) = returns-clause-told c in
    told_has a.store c.set.list (guards_from a c.args.set.now) told (guards_has a c.well_formedness.ensures c.args.set.now)

use Rattle.label_guards.specs.declared.guards.Operation.TheVariants.{And}
use Rattle.label_guards.proofs.labelled.Literals.{beside_guard}
use Rattle.label_guards.proofs.guards.Guards.and_literal.Goals as goal

pub returns-clause-and : goal.returns-clause-and
returns-clause-and c =
    beside_guard c.reduced.ensures c.reduced-2.ensures And c.args.prop c.args.holds c.args.g _ c.requires.has c.in_ok-place.ensures.met

use Rattle.label_guards.specs.declared.guards.Operation.TheVariants.{Or}
use Rattle.label_guards.proofs.labelled.Literals.{beside_guard}
use Rattle.label_guards.proofs.guards.Guards.or_literal.Goals as goal

pub returns-clause-or : goal.returns-clause-or
returns-clause-or c =
    beside_guard c.reduced.ensures c.reduced-2.ensures Or c.args.prop c.args.holds c.args.g _ c.requires.has c.in_ok-place.ensures.joined

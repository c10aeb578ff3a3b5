use Rattle.label_guards.proofs.rebuilt.Fixed.{fixed_guard}
use Rattle.label_guards.proofs.guards.Guards.fix.Goals as goal

pub returns-clause-fixed : goal.returns-clause-fixed
returns-clause-fixed c = fixed_guard c.reduced.ensures c.reduced-2.ensures c.fix_with.ensures.grows c.args.prop c.args.value _ _ c.requires.has c.in_ok-place.ensures.fixed

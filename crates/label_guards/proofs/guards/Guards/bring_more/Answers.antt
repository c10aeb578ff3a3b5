use Rattle.std.proofs.Common.{get_or}
use Rattle.label_guards.proofs.rebuilt.Brought.{brought_guard}
use Rattle.label_guards.proofs.rebuilt.Dependence.{guard_goes_below}
use Rattle.label_guards.proofs.guards.Guards.bring_more.Goals as goal

pub bring_with-requires-clause-within : goal.bring_with-requires-clause-within
bring_with-requires-clause-within c = guard_goes_below _ (λ k. get_or c.args.to.now k 0) c.args.other.now c.args.g c.reduced.ensures c.requires.has c.requires.within

pub returns-clause-brought : goal.returns-clause-brought
returns-clause-brought c = brought_guard c.args.other.now c.reduced.ensures c.reduced-2.ensures (λ k. get_or c.args.to.now k 0) c.args.g _ c.requires.has c.in_ok-place.ensures.brought

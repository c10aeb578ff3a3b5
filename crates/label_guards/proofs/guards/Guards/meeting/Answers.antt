use Rattle.std.proofs.Common.{subst, sym}
use Rattle.label_guards.specs.Leasts.{IsNeverMetAt}
use Rattle.label_guards.proofs.valuations.Leasts.{least_false, met_guard, never_met}
use Rattle.label_guards.proofs.guards.Guards.meeting.Goals as goal

pub returns-then-g-eq0 : goal.returns-then-g-eq0
returns-then-g-eq0 c = never_met _ c.reduced.ensures c.args.g c.requires (subst (IsNeverMetAt c.args.self.now) (sym c.if-g-eq0.true) (least_false c.args.self.now))

pub returns : goal.returns
returns c = met_guard _ c.reduced.ensures c.args.g c.requires _ c.meeting_at.ensures.met

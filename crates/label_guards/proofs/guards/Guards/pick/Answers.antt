use Rattle.std.proofs.Common.{subst}
use Rattle.label_guards.specs.Leasts.{IsLeastIn}
use Rattle.label_guards.proofs.valuations.Leasts.{least_letter}
use Rattle.label_guards.proofs.guards.Guards.pick.Goals as goal

pub returns-in_ok-letter_at-in-Some : goal.returns-in_ok-letter_at-in-Some
returns-in_ok-letter_at-in-Some c = least_letter _ c.args.g _ c.requires.names c.in-Some.number _
    (subst (IsLeastIn c.args.self.now c.args.g) c.in-Some.is c.in_ok-number.ensures.label) c.in_ok-letter_at-in-Some.ensures

pub returns-in-None : goal.returns-in-None
returns-in-None c = subst (IsLeastIn c.args.self.now c.args.g) c.in-None.is c.in_ok-number.ensures.label

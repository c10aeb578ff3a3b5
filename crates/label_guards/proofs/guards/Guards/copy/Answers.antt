use Rattle.std.proofs.Common.{subst, sym}
use Rattle.label_guards.specs.Computed.{AreRemembered}
use Rattle.label_guards.specs.declared.guards.Fields.{Fields}
use Rattle.label_guards.proofs.labelled.Remembered.{none_remembered}
use Rattle.label_guards.proofs.guards.Guards.copy.Goals as goal

pub invariant_of-result : goal.invariant_of-result
invariant_of-result c = subst (λ (f : Fields). AreRemembered f.nodes f.results f.letters) (sym c.in_ok-new.ensures.ok) (none_remembered _ _ _ c.new.ensures (c.new-2.ensures _))

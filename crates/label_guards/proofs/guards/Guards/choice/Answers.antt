use Rattle.std.proofs.Common.{sym, subst}
use Rattle.label_guards.specs.Computed.{AreRemembered}
use Rattle.label_guards.specs.declared.guards.Fields.{Fields}
use Rattle.label_guards.proofs.labelled.Remembered.{remembered_kept}
use Rattle.label_guards.proofs.guards.Guards.choice.Goals as goal

pub invariant_of-self : goal.invariant_of-self
invariant_of-self c = remembered_kept c.make.ensures.grows _ _ (subst (λ (f : Fields). AreRemembered f.nodes f.results f.letters) (sym c.deref_mut.ensures.value) c.self.invariant)

use Rattle.std.proofs.Common.{◌⊎◌, false, subst, sym, true}
use Rattle.label_guards.specs.Computed.{AreRemembered}
use Rattle.label_guards.specs.Guards.{IsGuardOf}
use Rattle.label_guards.specs.Store.{Has}
use Rattle.label_guards.specs.declared.guard.Guard.{Guard}
use Rattle.label_guards.specs.declared.guards.Fields.{Fields}
use Rattle.label_guards.proofs.labelled.LabelTruth.{only_constants}
use Rattle.label_guards.proofs.labelled.Remembered.{none_remembered}
use Rattle.label_guards.proofs.guards.Guards.new.Goals as goal

pub invariant_of-result : goal.invariant_of-result
invariant_of-result c = subst (λ (f : Fields). AreRemembered f.nodes f.results f.letters) (sym c.in_ok-new.ensures.ok) (none_remembered _ _ _ c.new.ensures (c.new-2.ensures _))

pub returns-clause-bare : goal.returns-clause-bare
returns-clause-bare c = subst (λ (f : Fields). (g : Guard) → Has f.nodes g → IsGuardOf f.nodes (λ on. false) g ⊎ IsGuardOf f.nodes (λ on. true) g) (sym c.in_ok-new.ensures.ok)
    (only_constants _ c.reduced.ensures c.new-nodes.ensures.nodes)

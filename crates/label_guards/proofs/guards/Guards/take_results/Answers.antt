use Rattle.std.proofs.Common.{subst, sym}
use Rattle.label_guards.specs.Computed.{AreComputed, AreRemembered}
use Rattle.label_guards.specs.Store.{Store}
use Rattle.label_guards.specs.declared.guards.Fields.{Fields}
use Rattle.label_guards.proofs.guards.Guards.take_results.Goals as goal

pub returns-clause-results : goal.returns-clause-results
returns-clause-results c =
    let before = subst (λ (f : Fields). AreRemembered f.nodes f.results f.letters) (sym c.deref_mut.ensures.value) c.self.invariant in
    subst (λ (s : Store). AreComputed s c.replace.result) c.self.view_is
    (subst (λ (f : Fields). AreComputed f.nodes c.replace.result) c.deref_mut.ensures.value (subst (λ r. AreComputed c.deref_mut.result.now.nodes r) (sym c.replace.ensures.value) before.results))

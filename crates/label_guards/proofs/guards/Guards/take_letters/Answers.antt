use Rattle.std.proofs.Common.{subst, sym}
use Rattle.label_guards.specs.Computed.{AreRemembered}
use Rattle.label_guards.specs.Letters.{AreLastPlaces}
use Rattle.label_guards.specs.declared.guards.Fields.{Fields}
use Rattle.label_guards.proofs.guards.Guards.take_letters.Goals as goal

pub invariant_of-self : goal.invariant_of-self
invariant_of-self c =
    let before = subst (λ (f : Fields). AreRemembered f.nodes f.results f.letters) (sym c.deref_mut.ensures.value) c.self.invariant in
    record { results = before.results; letters = subst (AreLastPlaces c.deref_mut.result.now.nodes) (sym c.replace.ensures.after) (c.new.ensures c.deref_mut.result.now.nodes) }

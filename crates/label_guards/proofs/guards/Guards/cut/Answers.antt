use Rattle.std.proofs.Common.{◌∙◌, ap, subst, sym}
use Rattle.label_guards.specs.Computed.{AreComputed}
use Rattle.label_guards.specs.Store.{Store}
use Rattle.label_guards.specs.declared.guards.Fields.{Fields}
use Rattle.label_guards.proofs.diagrams.Taken.{front_of}
use Rattle.label_guards.proofs.guards.Guards.cut.Goals as goal

pub invariant_of-self : goal.invariant_of-self
invariant_of-self c = record {
  results = subst (λ (s : Store). AreComputed s c.args.results)
      (sym (c.cut.ensures ∙ (ap (λ (f : Fields). front_of c.args.count f.nodes) c.deref_mut-fields.ensures.value ∙ ap (front_of c.args.count) c.self.view_is))) c.requires;
  letters = c.clear.ensures c.cut.new.self;
}

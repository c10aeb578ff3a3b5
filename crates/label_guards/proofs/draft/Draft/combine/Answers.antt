use Rattle.std.proofs.Common.{arith, subst, sym}
use Rattle.label_guards.specs.Computed.{AreComputed}
use Rattle.label_guards.specs.Store.{Store}
use Rattle.label_guards.proofs.diagrams.Growth.{places_kept}
use Rattle.label_guards.proofs.diagrams.Taken.{front_kept}
use Rattle.label_guards.proofs.draft.Draft.combine.Goals as goal

pub invariant_of-self : goal.invariant_of-self
invariant_of-self c =
    let within = c.self.invariant.0 in
    let more = places_kept c.combine.ensures.grows in
    (omega (arith, within, more), subst (λ (s : Store). AreComputed s c.self.inside.results) (sym (front_kept c.self.inside.count within c.combine.ensures.grows)) c.self.invariant.1)

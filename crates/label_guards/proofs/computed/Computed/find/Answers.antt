use Rattle.std.proofs.Common.{◌∙◌, subst, sym}
use Rattle.label_guards.specs.Computed.{AreComputed}
use Rattle.label_guards.proofs.labelled.Remembered.{computed_at, question_same}
use Rattle.label_guards.proofs.computed.Computed.find.Goals as goal

pub returns-then-known-right : goal.returns-then-known-right
returns-then-known-right c = λ s are.
    let at = c.in_ok-known.ensures.lookup.3 in
    let here = subst (AreComputed s) (sym (c.deref.ensures.value ∙ c.self.view_is)) are in
    computed_at s c.deref.result.now c.index.result c.in_ok-known.known.now c.args.question c.args.left c.args.right here at.0 (at.1 c.in_ok-known.known.now)
    (question_same _ _ (sym c.eq.ensures ∙ c.if-eq.true)) c.if-known-left.true c.if-known-right.true

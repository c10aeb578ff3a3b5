use Rattle.std.proofs.Common.{subst, sym, ◌+◌, ℕ}
use Rattle.label_guards.specs.Leasts.{IsMetAt}
use Rattle.label_guards.proofs.valuations.Leasts.{met_high, met_small, met_true}
use Rattle.label_guards.proofs.guards.Guards.+meeting_at.Goals as goal

pub returns-then-place-eq1-clause-met : goal.returns-then-place-eq1-clause-met
returns-then-place-eq1-clause-met t c = subst (λ (p : ℕ). IsMetAt c.args.self.now p 0) (sym c.if-place-eq1.true) (met_true c.args.self.now)

pub returns-then-node-eq0-clause-met : goal.returns-then-node-eq0-clause-met
returns-then-node-eq0-clause-met t c =
    let p = c.node_at-node.result.prop in
    subst (λ (w : ℕ). IsMetAt c.args.self.now c.args.place (c.meeting_at.result + w)) (sym c.weight.ensures.weight)
    (met_high _ c.reduced.ensures _ _ c.node_at-node.ensures c.requires.has _ c.meeting_at.ensures.met)

pub returns-then-node-eq0-clause-small : goal.returns-then-node-eq0-clause-small
returns-then-node-eq0-clause-small t c =
    met_small _ c.reduced.ensures c.args.place _ (subst (λ (w : ℕ). IsMetAt c.args.self.now c.args.place (c.meeting_at.result + w)) (sym c.weight.ensures.weight)
    (met_high _ c.reduced.ensures _ _ c.node_at-node.ensures c.requires.has _ c.meeting_at.ensures.met))

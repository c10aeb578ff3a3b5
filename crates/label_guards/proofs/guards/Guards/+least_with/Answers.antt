use Rattle.std.proofs.Common.{ℕ, None, Some, subst, sym}
use Rattle.label_guards.specs.Leasts.{IsLeastAt, IsLeastOf}
use Rattle.label_guards.specs.Tables.{AreDone}
use Rattle.label_guards.proofs.valuations.Leasts.{least_false, least_true, least_small, least_step}
use Rattle.label_guards.proofs.diagrams.Tables.{done_put}
use Rattle.label_guards.proofs.guards.Guards.+least_with.Goals as goal

pub returns-then-place-eq0-clause-least : goal.returns-then-place-eq0-clause-least
returns-then-place-eq0-clause-least t c = subst (λ (p : ℕ). IsLeastAt c.args.self.now p None) (sym c.if-place-eq0.true) (least_false c.args.self.now)

pub returns-then-place-eq1-clause-least : goal.returns-then-place-eq1-clause-least
returns-then-place-eq1-clause-least t c = subst (λ (p : ℕ). IsLeastAt c.args.self.now p (Some 0)) (sym c.if-place-eq1.true) (least_true c.args.self.now)

pub lesser-found-requires-clause-high : goal.lesser-found-requires-clause-high
lesser-found-requires-clause-high t c = least_small _ c.reduced.ensures _ _ c.in_ok-high.ensures.least

pub returns-in_err-put_done-clause-done : goal.returns-in_err-put_done-clause-done
returns-in_err-put_done-clause-done t c = subst (AreDone (IsLeastOf c.args.self.now)) (sym c.in_err-put_done.ensures.err) c.least_with-2.ensures.done

pub returns-clause-done : goal.returns-clause-done
returns-clause-done t c = done_put (IsLeastOf c.args.self.now) _ _ c.args.place _ c.in_ok-put_done.ensures.ok c.least_with-2.ensures.done (record {
  has = c.requires.has;
  least = subst (IsLeastAt c.args.self.now c.args.place) (sym c.lesser-found.ensures)
      (least_step _ c.reduced.ensures _ _ c.node_at-node.ensures c.requires.has _ _ c.in_ok-low.ensures.least c.in_ok-high.ensures.least);
})

pub returns-clause-least : goal.returns-clause-least
returns-clause-least t c = subst (IsLeastAt c.args.self.now c.args.place) (sym c.lesser-found.ensures)
    (least_step _ c.reduced.ensures _ _ c.node_at-node.ensures c.requires.has _ _ c.in_ok-low.ensures.least c.in_ok-high.ensures.least)

use Rattle.std.proofs.Common.{ℕ, List, subst, sym, arith}
use Rattle.label_guards.specs.Tables.{AreDone, IsFixedAt}
use Rattle.label_guards.proofs.rebuilt.Fixed.{fixed_kept, fixed_behind, fixed_high, fixed_low, fixed_later, fixed_step}
use Rattle.label_guards.proofs.diagrams.Growth.{grows_on, grows_none}
use Rattle.label_guards.proofs.diagrams.Tables.{done_put, done_under}
use Rattle.label_guards.proofs.guards.Guards.+fix_with.Goals as goal

pub returns-then-prop-level-clause-fixed : goal.returns-then-prop-level-clause-fixed
returns-then-prop-level-clause-fixed t c = fixed_behind _ c.reduced.ensures c.args.prop c.args.value c.args.place _ c.requires.has c.level-level.ensures.level c.if-prop-level.true

pub returns-then-value-clause-fixed : goal.returns-then-value-clause-fixed
returns-then-value-clause-fixed t c = subst (λ b. IsFixedAt c.args.self.now c.args.prop b c.args.place c.sides-low.result.1) (sym c.if-value.true)
    (fixed_high _ c.reduced.ensures c.args.prop c.args.place _ _ _ c.requires.has c.level-level.ensures.level c.if-level-prop.true c.sides-low.ensures)

pub returns-else-value-clause-fixed : goal.returns-else-value-clause-fixed
returns-else-value-clause-fixed t c = subst (λ b. IsFixedAt c.args.self.now c.args.prop b c.args.place c.sides-low.result.0) (sym c.if-value.false)
    (fixed_low _ c.reduced.ensures c.args.prop c.args.place _ _ _ c.requires.has c.level-level.ensures.level c.if-level-prop.true c.sides-low.ensures)

pub choice-requires-clause-low_later : goal.choice-requires-clause-low_later
choice-requires-clause-low_later t c =
    let a = c.sides-low.ensures.low_bound in
    let b = c.requires.has in
    fixed_later c.fix_with.ensures.grows c.fix_with-2.ensures.grows c.args.prop _ _ _ c.args.value (omega arith) c.sides-low.ensures.low_later c.in_ok-fixed_low.ensures.fixed

pub choice-requires-clause-high_later : goal.choice-requires-clause-high_later
choice-requires-clause-high_later t c =
    let a = c.sides-low.ensures.high_bound in
    let b = c.requires.has in
    fixed_later (grows_on c.fix_with.ensures.grows c.fix_with-2.ensures.grows) (grows_none _) c.args.prop _ _ _ c.args.value (omega arith) c.sides-low.ensures.high_later
    c.in_ok-fixed_high.ensures.fixed

pub returns-in_err-found-clause-done : goal.returns-in_err-found-clause-done
returns-in_err-found-clause-done t c = done_under _ (fixed_kept c.choice.ensures.grows c.args.prop c.args.value) c.fix_with-2.ensures.done

pub returns-in_err-put_done-clause-done : goal.returns-in_err-put_done-clause-done
returns-in_err-put_done-clause-done t c = subst (λ (entries : List (ℕ × ℕ)). AreDone (IsFixedAt c.choice.new.self c.args.prop c.args.value) entries) (sym c.in_err-put_done.ensures.err)
    (done_under _ (fixed_kept c.choice.ensures.grows c.args.prop c.args.value) c.fix_with-2.ensures.done)

pub returns-clause-done : goal.returns-clause-done
returns-clause-done t c = done_put (IsFixedAt c.choice.new.self c.args.prop c.args.value) _ _ c.args.place _ c.in_ok-put_done.ensures.ok
    (done_under _ (fixed_kept c.choice.ensures.grows c.args.prop c.args.value) c.fix_with-2.ensures.done)
    (fixed_step c.fix_with.ensures.grows c.fix_with-2.ensures.grows c.choice.ensures.grows c.args.prop c.args.place _ _ _ _ _ _ c.args.value c.requires.has c.level-level.ensures.level
    c.if-prop-level.false c.if-level-prop.false c.sides-low.ensures c.in_ok-fixed_low.ensures.fixed c.in_ok-fixed_high.ensures.fixed c.in_ok-found.ensures.made)

pub returns-clause-fixed : goal.returns-clause-fixed
returns-clause-fixed t c = fixed_step c.fix_with.ensures.grows c.fix_with-2.ensures.grows c.choice.ensures.grows c.args.prop c.args.place _ _ _ _ _ _ c.args.value c.requires.has
    c.level-level.ensures.level c.if-prop-level.false c.if-level-prop.false c.sides-low.ensures c.in_ok-fixed_low.ensures.fixed c.in_ok-fixed_high.ensures.fixed c.in_ok-found.ensures.made

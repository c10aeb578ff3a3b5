use Rattle.std.proofs.Common.{arith, length, subst, sym, ℕ}
use Rattle.std.proofs.lemmas.List.{get_or_read}
use Rattle.word_syntax.proofs.lassos.LeastPeriods.{root_shorter, root_whole}
use Rattle.word_syntax.specs.inner.Periods.{IsLeastPeriod}
use Rattle.word_syntax.proofs.period.root_size.Goals as goal

pub returns-then-letters-period-eq0 : goal.returns-then-letters-period-eq0
returns-then-letters-period-eq0 c =
    let P : ℕ → Type 0 = λ x. IsLeastPeriod c.args.letters.now (length c.args.letters.now) x in
    root_shorter c.args.letters.now c.index-period.result.now c.requires
    (subst P (sym (get_or_read c.in_ok-periods.periods.items (length c.args.letters.now) c.index-period.result.now (omega (arith, c.in_ok-periods.ensures.size)) c.index-period.ensures
    0)) (c.in_ok-periods.ensures.least (length c.args.letters.now) (omega arith))) c.if-letters-period-eq0.true

pub returns : goal.returns
returns c =
    let P : ℕ → Type 0 = λ x. IsLeastPeriod c.args.letters.now (length c.args.letters.now) x in
    root_whole c.args.letters.now c.index-period.result.now c.requires
    (subst P (sym (get_or_read c.in_ok-periods.periods.items (length c.args.letters.now) c.index-period.result.now (omega (arith, c.in_ok-periods.ensures.size)) c.index-period.ensures
    0)) (c.in_ok-periods.ensures.least (length c.args.letters.now) (omega arith))) c.if-letters-period-eq0.false

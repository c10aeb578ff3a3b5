use Rattle.std.proofs.Common.{◌≡◌, ◌+◌, length}
use Rattle.word_syntax.specs.inner.Periods.{AreLeastPeriods}
use Rattle.word_syntax.proofs.period.least_periods.Given as goal

abbrev pub invariant-fronts : goal.invariant-fronts
invariant-fronts l = record {
  size : length l.periods.items ≡ l.front + 1;
  least : AreLeastPeriods l.letters (l.front + 1) l.periods.items;
}

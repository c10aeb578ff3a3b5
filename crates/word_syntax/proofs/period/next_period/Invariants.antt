use Rattle.std.proofs.Common.{◌+◌, ◌-◌}
use Rattle.word_syntax.specs.inner.Periods.{IsCandidate}
use Rattle.word_syntax.proofs.period.next_period.Given as goal

abbrev pub invariant-candidates : goal.invariant-candidates
invariant-candidates l = IsCandidate l.letters l.front l.period

abbrev pub decreases-candidates : goal.decreases-candidates
decreases-candidates l = l.front + 1 - l.period

use Rattle.word_syntax.specs.inner.Periods.{IsMidShared}
use Rattle.word_syntax.proofs.period.shared_end.Given as goal

abbrev pub invariant-stem : goal.invariant-stem
invariant-stem l = IsMidShared l.stem l.root l.kept l.from

abbrev pub decreases-stem : goal.decreases-stem
decreases-stem l = l.kept

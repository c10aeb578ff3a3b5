use Rattle.std.proofs.Common.{◌-◌, length}
use Rattle.word_syntax.specs.inner.Reading.{HasReadTo}
use Rattle.word_syntax.proofs.read.read_tokens.Given as goal

abbrev pub invariant-tokens : goal.invariant-tokens
invariant-tokens l = HasReadTo l.bytes l.at l.reader

abbrev pub decreases-tokens : goal.decreases-tokens
decreases-tokens l = length l.bytes - l.at

use Rattle.std.proofs.Common.{◌≡◌, ◌-◌, ◌≤◌, length, drop}
use Rattle.std.specs.Option.{option_map}
use Rattle.word_syntax.specs.inner.Fronts.{unquoted}
use Rattle.word_syntax.proofs.texts.Strings.{quoted_after}
use Rattle.word_syntax.proofs.lexer.unquoted.Given as goal

abbrev pub invariant-bytes : goal.invariant-bytes
invariant-bytes l = record {
  within : l.at ≤ length l.bytes;
  same : unquoted l.bytes ≡ option_map (quoted_after l.text l.at) (unquoted (drop l.at l.bytes));
}

abbrev pub decreases-bytes : goal.decreases-bytes
decreases-bytes l = length l.bytes - l.at

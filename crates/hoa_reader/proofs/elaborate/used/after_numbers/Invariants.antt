use Rattle.std.proofs.Common.{◌≡◌, max, drop}
use Rattle.hoa_reader.specs.inner.Numbers.{after_all}
use Rattle.hoa_reader.proofs.elaborate.used.after_numbers.Given as goal

abbrev pub invariant-numbers : goal.invariant-numbers
invariant-numbers l = max l.after (after_all (drop l.number-index l.numbers)) ≡ max l.least (after_all l.numbers)

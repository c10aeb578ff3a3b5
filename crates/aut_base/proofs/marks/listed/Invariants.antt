use Rattle.std.proofs.Common.{◌≡◌}
use Rattle.aut_base.specs.HeldMarks.{bits_below}
use Rattle.aut_base.proofs.marks.listed.Given as goal

abbrev pub invariant-numbers : goal.invariant-numbers
invariant-numbers l = l.numbers ≡ bits_below l.number l.word

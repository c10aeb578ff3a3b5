use Rattle.std.proofs.Common.{◌≡◌, ◌+◌, ◌-◌, ◌≤◌, length}
use Rattle.aut_base.specs.HeldMarks.{bits_below}
use Rattle.aut_base.proofs.marks.bit_number.Given as goal

abbrev pub invariant-numbers : goal.invariant-numbers
invariant-numbers l = (length (bits_below l.number l.word) + l.left ≡ l.place) × (l.number ≤ 64)

abbrev pub decreases-numbers : goal.decreases-numbers
decreases-numbers l = 64 - l.number

-- The list that a `Marks` holds, whichever way it is stored.
use Rattle.std.specs.Int.{bit_at}
use Rattle.std.specs.List.{range_with_len}
use Rattle.std.specs.Prelude.{ℕ, List, filter, ◌==◌}
use Rattle.aut_base.specs.declared.marks.HeldMarks.{HeldMarks}
use Rattle.aut_base.specs.declared.marks.HeldMarks.TheVariants as held

-- the numbers below n whose bits are set in a word, in order
unfoldable pub bits_below : ℕ → ℕ → List ℕ
bits_below n word = filter (λ k. bit_at word k == 1) (range_with_len 0 n)

-- the marks, in order
abbrev pub held_marks : HeldMarks → List ℕ
held_marks (held.Word word) = bits_below 64 word
held_marks (held.List numbers) = numbers.value

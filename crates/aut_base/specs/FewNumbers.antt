-- The list that a `FewNumbers` holds, whichever way it is stored.
use Rattle.std.specs.Prelude.{ℕ, List, []}
use Rattle.aut_base.specs.declared.few.Held.{Held}
use Rattle.aut_base.specs.declared.few.Held.TheVariants.{None, One, Two, Three, More}

-- the numbers, in order
abbrev pub held_numbers : Held → List ℕ
held_numbers None = []
held_numbers (One numbers) = numbers
held_numbers (Two numbers) = numbers
held_numbers (Three numbers) = numbers
held_numbers (More numbers) = numbers.value.items

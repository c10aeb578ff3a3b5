-- Lists of numbers, and names by a test, as contracts and proofs speak of them.
use Rattle.std.specs.Prelude.{ℕ, Bool, List, filter, length}
use Rattle.std.specs.List.{range_with_len}
use Rattle.aut_base.specs.Marks.{is_in}

-- the number is in the list
abbrev pub has : List ℕ → ℕ → Bool
has xs s = is_in s xs

-- the names that pass a test, and how many of them are below a name: its new name, where the test is survival
abbrev pub names_where : (ℕ → Bool) → ℕ → List ℕ
names_where p k = filter p (range_with_len 0 k)

abbrev pub rank : (ℕ → Bool) → ℕ → ℕ
rank p y = length (names_where p y)

-- What is said of the numbers of states, under names of their own.
use Rattle.std.specs.Prelude.{ℕ, ◌+◌, ◌==◌, List, map}
use Rattle.aut_base.specs.Lists.{distinct}
pub use Rattle.hoa_reader.specs.Described.{marks_in_order, only_state}
use Rattle.hoa_reader.specs.Described.{greatest}

-- the numbers in order, each where it stands first
abbrev pub without_repeats : List ℕ → List ℕ
without_repeats = distinct ◌==◌

-- the least number that is above all of these
abbrev pub after_all : List ℕ → ℕ
after_all xs = greatest (map (λ x. x + 1) xs)

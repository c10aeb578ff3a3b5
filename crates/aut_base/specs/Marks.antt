-- The acceptance sets that an edge is in.
use Rattle.std.specs.Prelude.{ℕ, Bool, ◌==◌, List}
use Rattle.std.specs.List.{list_any}

-- the edge with these marks is in the set
abbrev pub is_in : ℕ → List ℕ → Bool
is_in set marks = list_any (λ mark. mark == set) marks

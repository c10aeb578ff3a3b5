-- The condition of parity automata (parity min odd), and when the least set that is visited is odd.
use Rattle.std.specs.Prelude.{ℕ, zero, suc, ◌+◌, ◌-◌, ◌%◌, ◌<◌, Bool, false, ◌==◌, if◌then◌else◌, IsTrue, ◌⊎◌, List}
use Rattle.std.specs.List.{list_any}
use Rattle.aut_base.specs.Formula.{FormulaTree, Inf, Fin, And, Or, none}
use Rattle.aut_base.specs.Marks.{is_in}

abbrev pub is_odd : ℕ → Bool
is_odd n = n % 2 == 1

-- the atom of a set: Inf of an odd one, Fin of an even one
abbrev pub parity_atom : ℕ → FormulaTree
parity_atom set = if is_odd set then Inf set false else Fin set false

-- the condition over a set and as many more sets after it
abbrev pub parity_from : ℕ → ℕ → FormulaTree
parity_from zero set = parity_atom set
parity_from (suc more) set =
    if is_odd set then Or (parity_atom set) (parity_from more (set + 1)) none
    else And (parity_atom set) (parity_from more (set + 1)) none

-- The condition over the first n sets. Law: it holds on a cycle exactly where MinIsOdd does.
abbrev pub parity_min_odd : ℕ → FormulaTree
parity_min_odd n = parity_from (n - 1) 0

-- some edge of the cycle is in the set
abbrev pub IsCarried : List (List ℕ) → ℕ → Type 0
IsCarried cycle set = IsTrue (list_any (is_in set) cycle)

-- this is the least set that some edge of the cycle is in
pub record IsLeastCarried (cycle : List (List ℕ)) (set : ℕ) : Type 0 where
  pub carried : IsCarried cycle set
  pub least : (k : ℕ) → k < set → ¬ (IsCarried cycle k)

-- an odd number below n is the least set that some edge is in
pub record LeastIsOdd (n : ℕ) (cycle : List (List ℕ)) : Type 0 where
  pub set : ℕ
  pub below : set < n
  pub least : IsLeastCarried cycle set
  pub odd : IsTrue (is_odd set)

-- no edge is in any of the first n sets, and n is odd
pub record NoneAndOdd (n : ℕ) (cycle : List (List ℕ)) : Type 0 where
  pub none_carried : (k : ℕ) → k < n → ¬ (IsCarried cycle k)
  pub odd : IsTrue (is_odd n)

-- the least of the first n sets that some edge is in is odd, or there is none and n is odd
abbrev pub MinIsOdd : ℕ → List (List ℕ) → Type 0
MinIsOdd n cycle = LeastIsOdd n cycle ⊎ NoneAndOdd n cycle

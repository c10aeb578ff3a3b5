-- The two transition systems that the program explores.
use Rattle.std.specs.Prelude.{◌≡◌, ◌↔◌, ◌+◌, ◌*◌, ◌%◌, ◌∷◌, ℕ, true, List, [], filter, if◌then◌else◌, leb, ltb, nat_eq}
use Rattle.std.specs.Cmp.{unsigned_Decides}
use Rattle.exploration.specs.TransitionFunctions.{StepFailed, Successor, NoSuccessor, StepOutcome, TransitionFunction}
use Rattle.base_rows.specs.declared.exploring.doubling.Number.{Number}

-- the double of a number modulo 7, plus one in the second class; a step above the bound fails
abbrev pub doubled : ℕ → ℕ → ℕ → StepOutcome ℕ
doubled bound n k = if leb ((2 * n + k) % 7) bound then Successor ((2 * n + k) % 7) else StepFailed

abbrev pub doubling_moves : ℕ → TransitionFunction ℕ
doubling_moves bound = record { count = λ _. 2; step = doubled bound }

pub same_numbers : (m n : ℕ) → (nat_eq m n ≡ true) ↔ (m ≡ n)
same_numbers = unsigned_Decides

pub number_tells : (a b : Number) → (nat_eq a.n b.n ≡ true) ↔ (a.n ≡ b.n)
number_tells a b = unsigned_Decides a.n b.n

abbrev pub unless_empty : List ℕ → StepOutcome (List ℕ)
unless_empty [] = NoSuccessor
unless_empty (x ∷ xs) = Successor (x ∷ xs)

-- the items of a list that are above the class, or no successor where there is none
abbrev pub rising_moves : TransitionFunction (List ℕ)
rising_moves = record { count = λ _. 3; step = λ xs k. unless_empty (filter (λ x. ltb k x) xs) }

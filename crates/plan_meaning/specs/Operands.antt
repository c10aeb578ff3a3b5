-- The automata that a plan compares or combines others with. They are listed as their names are: in the order in which they
-- are read.
use Rattle.std.specs.Prelude.{◌≡◌, ℕ, ◌+◌, ◌≤◌, List, length, slice_get, All, Option, Some, None}
use Rattle.aut_base.specs.Automaton.{Automaton}
use Rattle.aut_base.specs.declared.limit.TheConstants.{MOST_SETS, MOST_STATES}
use Rattle.filter_plan.specs.Table.{refuted}
use Rattle.filter_plan.specs.Words.{file_list, operands}
use Rattle.filter_plan.specs.declared.plan.Plan.{Plan}

-- the index of each operand in the list: the number of operands of the options before
abbrev pub place_of_included_in : ℕ
place_of_included_in = 0

abbrev pub place_of_equivalent_to : Plan → ℕ
place_of_equivalent_to p = length (file_list p.included_in)

abbrev pub place_of_intersect : Plan → ℕ
place_of_intersect p = place_of_equivalent_to p + length (file_list p.equivalent_to)

abbrev pub place_of_product : Plan → ℕ
place_of_product p = place_of_intersect p + length (file_list p.intersect)

abbrev pub place_of_product_or : Plan → ℕ
place_of_product_or p = place_of_product p + length (file_list p.product)

abbrev pub place_of_sum : Plan → ℕ
place_of_sum p = place_of_product_or p + length (file_list p.product_or)

abbrev pub place_of_refuted : Plan → ℕ
place_of_refuted p = place_of_sum p + length (file_list p.sum)

-- the operand of this index, if its option is given
abbrev pub operand_at : Option (List ℕ) → ℕ → List Automaton → Option Automaton
operand_at None place ops = None
operand_at (Some name) place ops = slice_get ops place

-- the operand of `--refute`, if that option is given
abbrev pub refuted_operand : Plan → List Automaton → Option Automaton
refuted_operand p ops = operand_at (refuted p.output) (place_of_refuted p) ops

-- The automaton has no more states and sets than an automaton that is read may have.
pub record IsOfReadSize (a : Automaton) : Type 0 where
  pub states : a.states ≤ MOST_STATES
  pub sets : a.sets ≤ MOST_SETS

-- there is an operand for each name
pub record AreOperands (p : Plan) (ops : List Automaton) : Type 0 where
  pub number : length ops ≡ length (operands p)
  pub sized : All IsOfReadSize ops

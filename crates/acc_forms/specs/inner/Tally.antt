-- The numbers of terms and of literals, as the code counts them.
use Rattle.std.specs.Prelude.{ℕ, ◌-◌, ◌^◌, ◌++◌, min, length, List, map}
use Rattle.std.specs.List.{flat_map}
use Rattle.aut_base.specs.Formula.{FormulaTree}
use Rattle.acc_forms.specs.Terms.{choices, literals, pairs, terms}
use Rattle.acc_forms.specs.declared.join.Join.{Join}
use Rattle.acc_forms.specs.declared.join.Join.TheVariants.{All, Any}
use Rattle.acc_forms.specs.declared.literal.Literal.{Literal}
use Rattle.acc_forms.specs.declared.tally.Tally.{Tally}

-- a number of 128 bits, of which the last is for all numbers from there on
abbrev pub capped : ℕ → ℕ
capped n = min n (2 ^ 128 - 1)

abbrev pub tally_of : List (List Literal) → Tally
tally_of terms = record { terms = capped (length terms); literals = capped (literals terms) }

-- the terms of the join of these parts
abbrev pub part_terms : Join → List FormulaTree → List (List Literal)
part_terms All fs = choices (map terms fs)
part_terms Any fs = flat_map terms fs

-- the terms of the join of two conditions, from the terms of each
abbrev pub joined_terms : Join → List (List Literal) → List (List Literal) → List (List Literal)
joined_terms All = pairs
joined_terms Any = ◌++◌

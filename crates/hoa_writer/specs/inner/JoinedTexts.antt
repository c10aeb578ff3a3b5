-- The parts of a condition, joined by a separator.
use Rattle.std.specs.Prelude.{ℕ, List, [], ◌∷◌, ◌++◌, flat_map}
use Rattle.aut_base.specs.Formula.{FormulaTree}
use Rattle.hoa_writer.specs.CanonicalText.{formula_text, part}

-- a part of a condition, in parentheses where it needs them
abbrev pub part_text : FormulaTree → List ℕ
part_text f = part f (formula_text f)

-- parts of a condition, with the separator between them
abbrev pub list_text : List ℕ → List FormulaTree → List ℕ
list_text separator [] = []
list_text separator (f ∷ fs) = part_text f ++ flat_map (λ g. separator ++ part_text g) fs

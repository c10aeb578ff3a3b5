-- The canonical text of an automaton, line by line (HOA v1, with explicit labels and marks on edges).
use Rattle.std.specs.Prelude.{ℕ, Bool, true, false, ◌==◌, if◌then◌else◌, List, [], ◌∷◌, ◌++◌, length, map, filter, flat_map, codes, Option}
use Rattle.std.specs.Fmt.{decimal}
use Rattle.std.specs.List.{range_with_len}
use Rattle.std.specs.Option.{option_map_or}
use Rattle.aut_base.specs.Automaton.{LabelledEdge, Automaton}
use Rattle.aut_base.specs.Formula.{FormulaTree, FormulaTrees, True, False, Inf, Fin, And, Or, none, more}
use Rattle.aut_base.specs.LabelText.{joined, label_text}
pub use Rattle.aut_base.specs.Strings.{escaped_byte, quoted}
use Rattle.aut_base.specs.Text.{line}

-- the number of an acceptance set, with `!` before it where it is negated
abbrev pub set_text : ℕ → Bool → List ℕ
set_text set true = codes "!" ++ decimal set
set_text set false = decimal set

abbrev pub is_compound : FormulaTree → Bool
is_compound (And a b cs) = true
is_compound (Or a b cs) = true
is_compound _ = false

-- a part that is itself a conjunction or disjunction stands in parentheses
abbrev pub part : FormulaTree → List ℕ → List ℕ
part f text = if is_compound f then codes "(" ++ (text ++ codes ")") else text

abbrev mutual
  pub formula_text : FormulaTree → List ℕ
  formula_text True = codes "t"
  formula_text False = codes "f"
  formula_text (Inf set neg) = codes "Inf(" ++ (set_text set neg ++ codes ")")
  formula_text (Fin set neg) = codes "Fin(" ++ (set_text set neg ++ codes ")")
  formula_text (And a b cs) = part a (formula_text a) ++ (codes " & " ++ (part b (formula_text b) ++ parts_text (codes " & ") cs))
  formula_text (Or a b cs) = part a (formula_text a) ++ (codes " | " ++ (part b (formula_text b) ++ parts_text (codes " | ") cs))

  -- each part after the separator
  pub parts_text : List ℕ → FormulaTrees → List ℕ
  parts_text separator none = []
  parts_text separator (more f fs) = separator ++ (part f (formula_text f) ++ parts_text separator fs)

abbrev pub marks_text : List ℕ → List ℕ
marks_text [] = []
marks_text (m ∷ ms) = codes " {" ++ (joined (codes " ") (map decimal (m ∷ ms)) ++ codes "}")

-- an edge, in an automaton of this many names
abbrev pub edge_line : ℕ → LabelledEdge → List ℕ
edge_line n e = line (codes "[" ++ (label_text n e.label ++ (codes "] " ++ (decimal e.to ++ marks_text e.marks))))

abbrev pub state_lines : Automaton → ℕ → List ℕ
state_lines a q =
    line (codes "State: " ++ decimal q) ++ flat_map (edge_line (length a.names)) (filter (λ e. e.from == q) a.edges)

abbrev pub name_line : Option (List ℕ) → List ℕ
name_line name = option_map_or (λ text. line (codes "name: " ++ quoted text)) name []

abbrev pub header_lines : Automaton → Option (List ℕ) → List ℕ
header_lines a name =
    line (codes "HOA: v1") ++ (name_line name ++ (line (codes "States: " ++ decimal a.states)
    ++ (flat_map (λ s. line (codes "Start: " ++ decimal s)) a.starts
    ++ (line (codes "AP: " ++ (decimal (length a.names) ++ flat_map (λ name. codes " " ++ quoted name) a.names))
    ++ (line (codes "Acceptance: " ++ (decimal a.sets ++ (codes " " ++ formula_text a.formula)))
    ++ line (codes "properties: trans-labels explicit-labels trans-acc"))))))

-- the canonical text of an automaton, and of its name if it has one
abbrev pub canonical_text : Automaton → Option (List ℕ) → List ℕ
canonical_text a name =
    header_lines a name ++ (line (codes "--BODY--") ++ (flat_map (state_lines a) (range_with_len 0 a.states) ++ line (codes "--END--")))

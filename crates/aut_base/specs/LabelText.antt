-- The canonical text of a label: its cubes, written out (HOA v1, label-expr).
use Rattle.std.specs.Prelude.{ℕ, if◌then◌else◌, List, [], ◌∷◌, ◌++◌, map, codes}
use Rattle.std.specs.Fmt.{decimal}
use Rattle.aut_base.specs.CanonicalLabel.{Literal, cubes}
use Rattle.aut_base.specs.Label.{LabelTree}
use Rattle.aut_base.specs.Valuation.{truth_on}

-- the pieces with the separator between them
abbrev pub joined : List ℕ → List (List ℕ) → List ℕ
joined separator [] = []
joined separator (piece ∷ []) = piece
joined separator (piece ∷ next ∷ pieces) = piece ++ (separator ++ joined separator (next ∷ pieces))

abbrev pub literal_text : Literal → List ℕ
literal_text l = if l.holds then decimal l.prop else codes "!" ++ decimal l.prop

-- the disjunction of cubes: `f` where there is none, `t` where the only one is empty
abbrev pub cubes_text : List (List Literal) → List ℕ
cubes_text [] = codes "f"
cubes_text ([] ∷ cs) = codes "t"
cubes_text ((l ∷ ls) ∷ cs) = joined (codes " | ") (map (λ cube. joined (codes "&") (map literal_text cube)) ((l ∷ ls) ∷ cs))

-- the canonical text of a label over n propositions
abbrev pub label_text : ℕ → LabelTree → List ℕ
label_text n t = cubes_text (cubes 0 n (truth_on t))

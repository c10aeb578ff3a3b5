-- Which edges meet the literals of a term (HOA v1, Acceptance).
use Rattle.std.specs.Prelude.{ℕ, Bool, true, false, not, max, if◌then◌else◌, List, length, filter, slice_get}
use Rattle.std.specs.Option.{option_map_or}
use Rattle.aut_base.specs.Marks.{is_in}
use Rattle.acc_forms.specs.declared.literal.Literal.{Literal}
use Rattle.acc_forms.specs.declared.literal.Literal.TheVariants.{Inf, Fin}

-- Whether an edge with these marks meets the literal. On a cycle, an Inf holds where some edge meets it, and a Fin where
-- every edge does.
abbrev pub meets : List ℕ → Literal → Bool
meets marks (Inf set neg) = if neg then not (is_in set marks) else is_in set marks
meets marks (Fin set neg) = if neg then is_in set marks else not (is_in set marks)

abbrev pub is_inf : Literal → Bool
is_inf (Inf set neg) = true
is_inf (Fin set neg) = false

-- the literals of a term that some edge has to meet again and again
abbrev pub infs : List Literal → List Literal
infs term = filter is_inf term

-- the literals of a term that every edge has to meet
abbrev pub fins : List Literal → List Literal
fins term = filter (λ literal. not (is_inf literal)) term

-- How many edges a run waits for, one after the other, to meet each of these literals once: one for each literal, and one
-- where there is none.
abbrev pub literal_places : List Literal → ℕ
literal_places literals = max 1 (length literals)

-- whether an edge with these marks meets the literal of this index; where there is no such literal, each edge does
abbrev pub meets_at : List Literal → ℕ → List ℕ → Bool
meets_at literals place marks = option_map_or (meets marks) (slice_get literals place) true

-- What a plan asks of a run: which files are read, how many automata, and what is printed when.
use Rattle.std.specs.Prelude.{ℕ, ◌==◌, Bool, true, not, ◌&&◌, ◌||◌, if◌then◌else◌, List, [], ◌∷◌, ◌++◌, codes}
use Rattle.std.specs.Fmt.{decimal}
use Rattle.std.specs.List.{slice_index_or}
use Rattle.std.specs.Option.{option_map_or}
use Rattle.made_stream.specs.Made.{made_name}
use Rattle.filter_plan.specs.Words.{operands}
use Rattle.filter_plan.specs.declared.plan.Plan.{Plan}

-- the names of the streams, in the order in which they are read
abbrev pub plan_streams : Plan → List (List ℕ)
plan_streams p = option_map_or (λ n. made_name ∷ []) p.made p.streams

-- all files, in the order in which they are read: those of operands, and then the streams
abbrev pub files_of : Plan → List (List ℕ)
files_of p = operands p ++ plan_streams p

-- whether more automata are asked for, after so many were kept
abbrev pub asks_on : Plan → ℕ → Bool
asks_on p kept = option_map_or (λ most. not (kept == most)) p.most true

-- whether something is printed of each automaton that is kept
abbrev pub prints_each : Plan → Bool
prints_each p = not (p.quiet || p.count)

-- whether the number of automata that were kept is printed at the end
abbrev pub prints_count : Plan → Bool
prints_count p = p.count && not p.quiet

-- the name of the file that was tried last, after so many were
abbrev pub tried_name : List (List ℕ) → ℕ → List ℕ
tried_name files tried = slice_index_or ([] ∷ files) tried []

-- what is written at the end: under `-c` this number and a line feed, and else nothing
abbrev pub count_text : Plan → ℕ → List ℕ
count_text p kept = if prints_count p then decimal kept ++ codes "\n" else []

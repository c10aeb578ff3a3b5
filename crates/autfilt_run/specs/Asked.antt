-- The names that a run opens, and the words that are refused.
use Rattle.std.specs.Prelude.{ℕ, List, [], ◌++◌}
use Rattle.std.specs.Option.{option_map_or}
use Rattle.filter_plan.specs.Words.{IsPlan, operands}
use Rattle.filter_plan.specs.declared.plan.Plan.{Plan}

-- the words are no plan
abbrev pub AreRefused : List (List ℕ) → Type 0
AreRefused words = (plan : Plan) → IsPlan words plan → ⊥

-- all names that are opened: those of operands, and of streams unless the stream is generated
abbrev pub names_opened : Plan → List (List ℕ)
names_opened p = operands p ++ option_map_or (λ n. []) p.made p.streams

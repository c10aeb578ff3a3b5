-- The names that are opened: those of operands, and those of streams unless the stream is generated.
use Rattle.std.proofs.Common.{◌≡◌, ℕ, List, [], ◌∷◌, Option, Some, None, sym, subst}
use Rattle.std.specs.List.{All}
use Rattle.std.specs.Option.{option_map_or}
use Rattle.aut_base.proofs.lists.Members.{all_of_first, all_of_second}
use Rattle.autfilt_run.specs.Asked.{names_opened}
use Rattle.autfilt_run.specs.Plans.{plan_streams}
use Rattle.made_stream.specs.Made.{made_name}
use Rattle.filter_plan.specs.Words.{operands}
use Rattle.filter_plan.specs.declared.plan.Plan.{Plan}

-- the streams that are opened
abbrev opened : Plan → List (List ℕ)
opened plan = option_map_or (λ n. []) plan.made plan.streams

pub may_open_operands : (P : List ℕ → Type 0) (plan own : Plan) → own ≡ plan → All P (names_opened plan) → All P (operands own)
may_open_operands P plan own same all = subst (λ (x : Plan). All P (operands x)) (sym same) (all_of_first P (operands plan) (opened plan) all)

streams_opened : (P : List ℕ → Type 0) (streams : List (List ℕ)) (made : Option ℕ) → made ≡ None → All P (option_map_or (λ n. []) made streams)
    → All P (option_map_or (λ n. made_name ∷ []) made streams)
streams_opened P streams None is all = all
streams_opened P streams (Some n) is all = let none : Some n ≡ None = is in cc

pub may_open_streams : (P : List ℕ → Type 0) (plan own : Plan) → own ≡ plan → plan.made ≡ None → All P (names_opened plan) → All P (plan_streams own)
may_open_streams P plan own same made all =
    subst (λ (x : Plan). All P (plan_streams x)) (sym same) (streams_opened P plan.streams plan.made made (all_of_second P (operands plan) (opened plan) all))

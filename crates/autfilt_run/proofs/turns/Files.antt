-- The files of a plan: those of operands, and then those of streams.
use Rattle.std.proofs.Common.{◌≡◌, ℕ, ◌+◌, ◌-◌, ◌≤◌, List, [], ◌∷◌, ◌++◌, Option, None, length, ap, ◌∙◌, arith}
use Rattle.std.specs.List.{slice_index_or}
use Rattle.std.specs.Option.{option_map_or}
use Rattle.std.proofs.lemmas.List.{get_or-append-add}
use Rattle.autfilt_run.specs.Plans.{plan_streams}
use Rattle.made_stream.specs.Made.{made_name}
use Rattle.filter_plan.specs.declared.plan.Plan.{Plan}

-- an index past the first list is one of the second
pub stream_behind : (ops streams : List (List ℕ)) (place n : ℕ) → n ≡ length ops → n ≤ place → slice_index_or (ops ++ streams) place [] ≡ slice_index_or streams (place - n) []
stream_behind ops streams place n is behind =
    let split : place ≡ length ops + (place - n) = omega (arith, is, behind) in
    ap (λ (k : ℕ). slice_index_or (ops ++ streams) k []) split ∙ get_or-append-add ops streams (place - n) []

pub streams_are : (p : Plan) → p.made ≡ None → plan_streams p ≡ p.streams
streams_are p none = ap (λ (made : Option ℕ). option_map_or (λ n. made_name ∷ []) made p.streams) none

-- The two ends of a range, as the texts before and after its dots.
use Rattle.std.specs.Prelude.{◌≡◌, ◌⊎◌, ℕ, List, [], Option, Some, None}
use Rattle.filter_plan.specs.Numbers.{IsNumber}
use Rattle.filter_plan.specs.declared.range.Range.{Range}

abbrev pub IsLow : List ℕ → ℕ → Type 0
IsLow text n = ((text ≡ []) × (n ≡ 0)) ⊎ IsNumber text n

abbrev pub IsHigh : List ℕ → Option ℕ → Type 0
IsHigh text None = text ≡ []
IsHigh text (Some n) = IsNumber text n

-- at least one end is there
pub record IsBounds (before after : List ℕ) (r : Range) : Type 0 where
  pub low : IsLow before r.low
  pub high : IsHigh after r.high
  pub one : before ≡ [] → after ≡ [] → ⊥

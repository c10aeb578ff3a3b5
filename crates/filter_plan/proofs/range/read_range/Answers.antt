use Rattle.std.proofs.Common.{◌≡◌, ◌++◌, MatchOption, Option, Some, None, List, ℕ, codes}
use Rattle.std.specs.Str.Parse.{AllDigits}
use Rattle.filter_plan.proofs.RangeTexts.{IsOnlyCut, bounds_of_range, range_of_bounds, range_of_single, single_of_range}
use Rattle.filter_plan.specs.Numbers.{IsNumber}
use Rattle.filter_plan.specs.Spans.{IsRange}
use Rattle.filter_plan.specs.declared.range.Range.{Range}
use Rattle.filter_plan.specs.inner.Bounds.{IsBounds}
use Rattle.filter_plan.proofs.range.read_range.Goals as goal

at_bounds : (text a b : List ℕ) → text ≡ a ++ (codes ".." ++ b) → IsOnlyCut text a b → (found : Option Range) → MatchOption found ((r : Range) → IsBounds a b r → ⊥) (IsBounds a b)
    → MatchOption found ((r : Range) → IsRange text r → ⊥) (IsRange text)
at_bounds text a b is only None none = λ r h. none r (bounds_of_range text a b r is only h)
at_bounds text a b is only (Some r) some = range_of_bounds text a b r is some

at_single : (text : List ℕ) → ((a b : List ℕ) → AllDigits 10 a → text ≡ a ++ (codes ".." ++ b) → ⊥) → (found : Option Range)
    → MatchOption found ((n : ℕ) → IsNumber text n → ⊥) (λ r. IsNumber text r.low × (r.high ≡ Some r.low))
    → MatchOption found ((r : Range) → IsRange text r → ⊥) (IsRange text)
at_single text only None none = λ r h. none r.low (single_of_range text r only h)
at_single text only (Some r) some = range_of_single text r some

pub returns-in-Some : goal.returns-in-Some
returns-in-Some c = at_bounds c.args.text.now c.in-Some.before.now c.in-Some.after.now c.in-Some.ensures.found c.in-Some.ensures.only c.bounds.result c.bounds.ensures

pub returns-in-None : goal.returns-in-None
returns-in-None c = at_single c.args.text.now c.in-None.ensures.only c.single.result c.single.ensures

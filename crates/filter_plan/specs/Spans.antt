-- Ranges of numbers: how they are written, and what is in them.
use Rattle.std.specs.Prelude.{◌≡◌, ◌≤◌, ℕ, List, ◌++◌, Some, None, IfSome, codes}
use Rattle.filter_plan.specs.Numbers.{IsNumber}
use Rattle.filter_plan.specs.declared.range.Range.{Range}

-- how a range is written: `n`, `n..m`, `n..` or `..m`
pub data IsRange (text : List ℕ) (r : Range) : Type 0 where
  one : (n : ℕ) → IsNumber text n → r ≡ record { low = n; high = Some n } → IsRange text r
  between : (a b : List ℕ) (n m : ℕ) → text ≡ a ++ (codes ".." ++ b) → IsNumber a n → IsNumber b m → r ≡ record { low = n; high = Some m } → IsRange text r
  from : (a : List ℕ) (n : ℕ) → text ≡ a ++ codes ".." → IsNumber a n → r ≡ record { low = n; high = None } → IsRange text r
  up_to : (b : List ℕ) (m : ℕ) → text ≡ codes ".." ++ b → IsNumber b m → r ≡ record { low = 0; high = Some m } → IsRange text r

-- the number is in the range, both ends included; a range whose end is below its beginning is empty
abbrev pub IsInRange : Range → ℕ → Type 0
IsInRange r n = (r.low ≤ n) × IfSome r.high (λ high. n ≤ high)

-- The order in which nodes may claim a state: children before their parents, and the descendants of an older sibling before
-- those of a younger one.
use Rattle.std.specs.Prelude.{◌≡◌, ◌+◌, ◌<◌, ◌≤◌, ℕ}

-- Names below m have distinct numbers; a name comes before its parent, and right before it among the lower names.
pub record IsOrder (m : ℕ) (parent order : ℕ → ℕ) : Type 0 where
  pub below : (x : ℕ) → x < m → order x < m
  pub apart : (x y : ℕ) → x < m → y < m → order x ≡ order y → x ≡ y
  pub over : (y : ℕ) → 0 < y → y < m → order y < order (parent y)
  pub next : (y z : ℕ) → y < m → z < y → order z < order (parent y) → order z < order y

-- the new number is the old one, and one more where that was `first` or above
pub record IsShifted (first : ℕ) (old new : ℕ → ℕ) (z : ℕ) : Type 0 where
  pub low : old z < first → new z ≡ old z
  pub high : first ≤ old z → new z ≡ old z + 1

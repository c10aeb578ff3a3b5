-- Periods of lists, and the parts of reducing a lasso word.
use Rattle.std.specs.Prelude.{◌≡◌, ◌≢◌, ℕ, ◌+◌, ◌-◌, ◌*◌, ◌%◌, ◌<◌, ◌≤◌, List, length, slice_get, slice_index, Option, true}
use Rattle.std.specs.FinSet.{contains}
use Rattle.aut_base.specs.Word.{NameSet}

-- the first `front` elements have the period p: each is the same as the one p places later
abbrev pub IsPeriod : List NameSet → ℕ → ℕ → Type 0
IsPeriod v front p = (k : ℕ) → k + p < front → slice_get v k ≡ slice_get v (k + p)

-- the least period of the first `front` elements
pub record IsLeastPeriod (v : List NameSet) (front p : ℕ) : Type 0 where
  pub some : 0 < p
  pub is : IsPeriod v front p
  pub least : (q : ℕ) → 0 < q → IsPeriod v front q → p ≤ q

-- the least periods of all prefixes that are shorter than `count`
abbrev pub AreLeastPeriods : List NameSet → ℕ → List ℕ → Type 0
AreLeastPeriods v count periods = (front : ℕ) → front < count → IsLeastPeriod v front (slice_index periods front)

-- a candidate for the least period of the first `front` + 1 elements: a period of the first `front`, and at most that least period
pub record IsCandidate (v : List NameSet) (front p : ℕ) : Type 0 where
  pub some : 0 < p
  pub is : IsPeriod v front p
  pub small : p ≤ front + 1
  pub least : (q : ℕ) → 0 < q → IsPeriod v (front + 1) q → p ≤ q

-- the i-th element of the list repeated for ever
abbrev pub cyclic : List NameSet → ℕ → Option NameSet
cyclic v i = slice_get v (i % length v)

-- the list is copies of its first `size` elements, which aren't copies of fewer
pub record IsRoot (v : List NameSet) (size : ℕ) : Type 0 where
  pub some : 0 < size
  pub within : size ≤ length v
  pub stem_rounds : ℕ
  pub whole : length v ≡ stem_rounds * size
  pub same : (i : ℕ) → i < length v → slice_get v i ≡ slice_get v (i % size)
  pub least : (e k : ℕ) → 0 < e → 2 ≤ k → size ≡ k * e → ((i : ℕ) → slice_get v ((i + e) % size) ≡ slice_get v (i % size)) → ⊥

-- The invariant of dropping letters of the stem: its letters from `kept` on are whole copies of the cycle rotated to begin at `from`.
pub record IsMidShared (stem root : List NameSet) (kept from : ℕ) : Type 0 where
  pub within : kept ≤ length stem
  pub inside : from < length root
  pub same : (n : ℕ) → kept ≤ n → n < length stem → slice_get stem n ≡ cyclic root (from + (n - kept))
  pub stem_rounds : ℕ
  pub whole : from + (length stem - kept) ≡ stem_rounds * length root

-- and the last letter that is kept is not the last of the rotated cycle
pub record IsShared (stem root : List NameSet) (kept from : ℕ) : Type 0 where
  pub shared : IsMidShared stem root kept from
  pub last : 0 < kept → slice_get stem (kept - 1) ≢ cyclic root (from + (length root - 1))

-- the least period of each prefix, by its length
pub record ArePeriods (v : List NameSet) (periods : List ℕ) : Type 0 where
  pub size : length periods ≡ length v + 1
  pub least : AreLeastPeriods v (length v + 1) periods

-- each name of the first letter is in the second
abbrev pub IsSubset : NameSet → NameSet → Type 0
IsSubset a b = (name : List ℕ) → contains a name ≡ true → contains b name ≡ true

-- How single calls change the texts, the unread rest, the written bytes and the counts that contracts see of input and output.
use Rattle.std.specs.Prelude.{◌≡◌, ℕ, zero, suc, ◌+◌, ◌-◌, ◌^◌, min, List, [], ◌∷◌, ◌++◌, take, Option, Some, None, unwrap_or, Result, Ok, Err}
use Rattle.std.specs.Cmp.Lexicographic.{slice_cmp}
use Rattle.std.specs.Ordering.{nat_cmp}
use Rattle.std.specs.FinMap.{FinMap, get}

-- a count one higher, except that it stays at the last value of a `u64`
abbrev pub incremented : ℕ → ℕ
incremented count = min (count + 1) (2 ^ 64 - 1)

-- a count after it rose this many times
abbrev pub raised_by : ℕ → ℕ → ℕ
raised_by zero count = count
raised_by (suc times) count = incremented (raised_by times count)

-- a count rose by one
abbrev pub Rose : ℕ → ℕ → Type 0
Rose before after = after ≡ incremented before

-- a map from names to the texts of those names
abbrev pub Texts : Type 0
Texts = FinMap (slice_cmp nat_cmp) (List ℕ)

-- the text of a name; empty where the map doesn't have the name
abbrev pub text_of : Texts → List ℕ → List ℕ
text_of texts name = unwrap_or (get texts name) []

-- Once a name is opened, its whole text is unread. Nothing is said where contracts don't see the texts.
abbrev pub Opened : Option Texts → List ℕ → Option (List ℕ) → Type 0
Opened None name left = Unit {0}
Opened (Some texts) name left = left ≡ Some (text_of texts name)

-- No text is open, so the unread rest is empty. Where contracts see the texts, they see the rest too.
abbrev pub Closed : Option Texts → Option (List ℕ) → Type 0
Closed None None = Unit {0}
Closed None (Some left) = left ≡ []
Closed (Some texts) left = left ≡ Some []

-- A read takes the first byte of the unread rest and answers it, or None where the rest is empty. A failed read takes nothing.
abbrev pub TakesByte : {E : Type 0} → Option (List ℕ) → Option (List ℕ) → Result (Option ℕ) E → Type 0
TakesByte None new result = new ≡ None
TakesByte (Some old) new (Err e) = new ≡ Some old
TakesByte (Some []) new (Ok byte) = (byte ≡ None) × (new ≡ Some [])
TakesByte (Some (b ∷ rest)) new (Ok byte) = (byte ≡ Some b) × (new ≡ Some rest)

-- Exactly these bytes were taken from the front of the unread rest.
abbrev pub Consumes : Option (List ℕ) → List ℕ → Option (List ℕ) → Type 0
Consumes None bytes new = new ≡ None
Consumes (Some old) bytes None = ⊥
Consumes (Some old) bytes (Some new) = old ≡ bytes ++ new

-- the piece was appended to what was written
abbrev pub Gains : Option (List ℕ) → Option (List ℕ) → List ℕ → Type 0
Gains None new piece = new ≡ None
Gains (Some old) new piece = new ≡ Some (old ++ piece)

-- a prefix of the piece was appended to what was written
abbrev pub GainsPrefix : Option (List ℕ) → Option (List ℕ) → List ℕ → Type 0
GainsPrefix None new piece = new ≡ None
GainsPrefix (Some old) new piece = (k : ℕ) × (new ≡ Some (old ++ take k piece))

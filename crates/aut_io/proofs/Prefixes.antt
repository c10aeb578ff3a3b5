-- Prefixes of a piece that is written.
use Rattle.std.proofs.Common.{◌≡◌, ℕ, ◌/◌, inl, inr, min, List, length, take, arith}
use Rattle.std.proofs.lemmas.Bool.{cases_lt}
use Rattle.std.proofs.lemmas.List.{take-take, take_all, length-take}
use Rattle.aut_io.specs.InMemory.{half}

-- a prefix of the first half is a prefix of the whole
pub take_half : (k : ℕ) (piece : List ℕ) → take k (half piece) ≡ take (min k (length piece / 2)) piece
take_half k piece =
    let h = length piece / 2 in
    elim (cases_lt k h) [
      | inl short ↦ let e : min k h ≡ k = omega arith in rw e (take-take k h piece (omega arith))
      | inr long ↦ let e : min k h ≡ h = omega arith in rw e (take_all k (take h piece) (omega (arith, length-take h piece)))
    ]

-- A count at a place of the list passes its number, and those before it don't.
use Rattle.std.proofs.Common.{◌≡◌, ◌+◌, ◌∷◌, ◌++◌, ℕ, true, nat_lt, drop, refl, take}
use Rattle.std.specs.List.{AllByRecursion}
use Rattle.hoa_parser.specs.Raw.{Written}
use Rattle.hoa_reader.specs.Counts.{Counted, IsCountWithin, limit_counts}
use Rattle.hoa_reader.specs.Elaborating.{PassesLimit}
use Rattle.hoa_reader.specs.Validity.{IsValid}

pub passed_first : (place : ℕ) (one : Counted) (w : Written) → IsValid w → limit_counts w ≡ take place (limit_counts w) ++ one ∷ drop (place + 1) (limit_counts w)
    → AllByRecursion IsCountWithin (take place (limit_counts w)) → nat_lt one.most one.count ≡ true → PassesLimit one.which w
passed_first place one w valid all earlier passes = (
  valid,
  one,
  record { before = take place (limit_counts w); after = drop (place + 1) (limit_counts w); all = all; earlier = earlier },
  passes,
  refl,
)

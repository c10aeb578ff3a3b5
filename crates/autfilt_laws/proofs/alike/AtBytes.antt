-- No automaton that was read whole passes the limit of depth or that of bytes, so these two are told where a text is read.
use Rattle.std.proofs.Common.{◌≡◌, ◌⊎◌, ℕ, List, inl, inr, refl}
use Rattle.aut_base.specs.declared.limit.Limit.{Limit}
use Rattle.aut_base.specs.declared.limit.Limit.TheVariants as limit
use Rattle.autfilt_laws.specs.Places.{WholePassesOthers}
use Rattle.autfilt_run.proofs.handling.PassedLimits.{IsOfWhole, both_ways, counts_pass, not_bytes, not_depth}
use Rattle.autfilt_run.specs.Runs.{StopsAtLimit}
use Rattle.hoa_parser.specs.Raw.{Written}
use Rattle.hoa_parser.specs.Reads.{AsksOn}
use Rattle.hoa_reader.specs.Elaborating.{PassesLimit}

pub asks_at_bytes : (over : Limit → Written → Type 0) → ((which : Limit) (w : Written) → over which w → IsOfWhole which) → (start : ℕ) (rest left : List ℕ)
    → StopsAtLimit limit.Bytes over start rest left → AsksOn start rest left
asks_at_bytes over whole start rest left (inl h) = let none : limit.Bytes ≡ limit.Depth = h.0 in cc
asks_at_bytes over whole start rest left (inr (inl h)) = h.1
asks_at_bytes over whole start rest left (inr (inr h)) = absurd (not_bytes limit.Bytes (of_whole h.automaton h.holds) refl)
  where
    of_whole : (w : Written) → PassesLimit limit.Bytes w ⊎ over limit.Bytes w → IsOfWhole limit.Bytes
    of_whole w (inl passes) = counts_pass limit.Bytes w passes
    of_whole w (inr o) = whole limit.Bytes w o

pub whole_passes_others : WholePassesOthers
whole_passes_others which plan ops w h =
    let whole = both_ways which plan ops w h in
    (not_depth which whole, not_bytes which whole)

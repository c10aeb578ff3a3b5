-- In the rest of every text something is next: an automaton, blanks or a fault.
use Rattle.std.proofs.Common.{◌≡◌, ◌⊎◌, ℕ, List, [], refl, inl, inr}
use Rattle.aut_base.specs.declared.limit.Limit.{Limit}
use Rattle.aut_base.specs.declared.limit.Limit.TheVariants as limit
use Rattle.autfilt_run.specs.declared.ended.End.TheVariants as end
use Rattle.autfilt_laws.proofs.existence.Examined.{keeps_or_breaks, within_or_passes}
use Rattle.autfilt_laws.proofs.existence.Stopping.{passed_other}
use Rattle.autfilt_laws.specs.Places.{BadIsShown, CutIsShown, DeepIsShown}
use Rattle.autfilt_laws.specs.Runs.{IsByText}
use Rattle.autfilt_run.proofs.handling.PassedLimits.{counts_pass}
use Rattle.autfilt_run.specs.Events.{IsGood}
use Rattle.autfilt_run.specs.Runs.{StopsReading}
use Rattle.autfilt_run.specs.declared.fault.RunFault.{RunFault}
use Rattle.autfilt_run.specs.declared.fault.RunFault.TheVariants as run
use Rattle.hoa_lexer.specs.Blanks.{IsBlanks}
use Rattle.hoa_parser.specs.Raw.{Written}
use Rattle.hoa_parser.specs.Standing as standing
use Rattle.hoa_parser.specs.Standing.{IsWhole, SomeStanding, Standing, Stands}
use Rattle.hoa_reader.specs.Counts.{PassesNone}
use Rattle.hoa_reader.specs.Elaborating.{PassesLimit}
use Rattle.hoa_reader.specs.Validity.{IsFirstBroken, IsValid}
use Rattle.hoa_reader.specs.declared.elaborate.Rule.{Rule}

-- for each fault of a text there is a byte at which a reader stops
pub record AreShown : Type 0 where
  pub bad : BadIsShown
  pub deep : DeepIsShown
  pub cut : CutIsShown

-- what is next ends the run with a fault
pub record IsRefused (over : Limit → Written → Type 0) (start : ℕ) (rest : List ℕ) : Type 0 where
  pub fault : RunFault
  pub by_text : IsByText (end.Fault fault)
  pub other : fault ≡ run.Limit limit.Bytes → ⊥
  pub left : List ℕ
  pub stops : StopsReading over fault start rest left

pub data Found (over : Limit → Written → Type 0) (start : ℕ) (rest : List ℕ) : Type 0 where
  OnlyBlanks : IsBlanks rest → Found over start rest
  OneGood : (w : Written) (next : List ℕ) → IsGood start rest w next → Found over start rest
  OneAborted : (next : List ℕ) → Stands (standing.Aborted next) start rest → Found over start rest
  OneRefused : IsRefused over start rest → Found over start rest

module _ (over : Limit → Written → Type 0) (start : ℕ) (rest : List ℕ) where
  within : (w : Written) (next : List ℕ) → IsWhole start rest w next → IsValid w → PassesNone w ⊎ ((which : Limit) × PassesLimit which w) → Found over start rest
  within w next whole valid (inl h) = OneGood w next (record { whole = whole; valid = valid; within = h })
  within w next whole valid (inr h) =
      let of_whole = counts_pass h.0 w h.1 in
      OneRefused (record {
        fault = run.Limit h.0;
        by_text = tt;
        other = passed_other h.0 of_whole;
        left = next;
        stops = inr (inr (record { automaton = w; whole = whole; holds = inl h.1 }));
      })

  whole_found : (w : Written) (next : List ℕ) → IsWhole start rest w next → IsValid w ⊎ ((rule : Rule) × IsFirstBroken rule w) → Found over start rest
  whole_found w next whole (inl h) = within w next whole h (within_or_passes w h)
  whole_found w next whole (inr h) = OneRefused (record { fault = run.Invalid h.0; by_text = tt; other = λ e. cc; left = next; stops = record { automaton = w; whole = whole; holds = h.1 } })

  found_so : AreShown → (s : Standing) → Stands s start rest → Found over start rest
  found_so shown standing.Blank h = OnlyBlanks h
  found_so shown (standing.Whole w next) h = whole_found w next h (keeps_or_breaks w)
  found_so shown standing.Deep h =
      let place = shown.deep start rest h in
      OneRefused (record { fault = run.Limit limit.Depth; by_text = tt; other = λ e. cc; left = place.0; stops = inl (refl, record { deep = h; ends = place.1; last = place.2 }) })
  found_so shown (standing.Bad k) h =
      let place = shown.bad start k rest h in
      OneRefused (record { fault = run.SyntaxAt k; by_text = tt; other = λ e. cc; left = place.0; stops = record { bad = h; shown = place.1; last = place.2 } })
  found_so shown (standing.Aborted next) h = OneAborted next h
  found_so shown standing.Cut h = OneRefused (record { fault = run.Truncated; by_text = tt; other = λ e. cc; left = []; stops = record { cut = h; nothing = refl; asks = shown.cut start rest h } })

  pub something_found : SomeStanding → AreShown → (Found over start rest → ⊥) → ⊥
  something_found some shown none = some start rest (λ s h. none (found_so shown s h))

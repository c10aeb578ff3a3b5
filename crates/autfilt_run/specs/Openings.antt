-- How many times `open` is called: once for each file or stream that a run comes to, and no more.
use Rattle.std.specs.Prelude.{◌≡◌, ◌⊎◌, ℕ, ◌+◌, ◌<◌, ◌≤◌, Bool, false}
use Rattle.aut_io.specs.Outside.{raised_by}
use Rattle.aut_io.specs.Seen.{Seen}
use Rattle.autfilt_run.specs.declared.ended.End.{End}
use Rattle.autfilt_run.specs.declared.ended.End.TheVariants as end
use Rattle.autfilt_run.specs.declared.fault.RunFault.TheVariants as fault

-- `open` was called so many times
abbrev pub AreOpened : ℕ → Seen → Seen → Type 0
AreOpened count seen seen' = seen'.openings ≡ raised_by count seen.openings

-- The next file is to be opened: none is open, and fewer were opened than there are names.
pub record WantsFile (is_open : Bool) (opened all : ℕ) : Type 0 where
  pub closed : is_open ≡ false
  pub more : opened < all

-- `open` was called so many times, and maybe once more, by the call that failed, where a file was to be opened: surely where
-- the end is that it can't be opened, and maybe where memory is wanting.
pub record AreTried (e : End) (wanting : Type 0) (count : ℕ) (seen seen' : Seen) : Type 0 where
  pub tried : ℕ
  pub once : tried ≤ 1
  pub wanted : tried ≡ 1 → wanting × ((e ≡ end.Fault fault.CannotOpen) ⊎ (e ≡ end.Fault fault.Memory))
  pub failed : e ≡ end.Fault fault.CannotOpen → tried ≡ 1
  pub opened : AreOpened (count + tried) seen seen'

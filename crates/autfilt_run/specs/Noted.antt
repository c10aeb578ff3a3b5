-- What a sink for notes has gained.
use Rattle.std.specs.Prelude.{◌≡◌, ℕ, Bool, true, false, List}
use Rattle.aut_io.specs.Outside.{Gains, GainsPrefix, Rose}
use Rattle.aut_io.specs.Seen.{SinkSeen}

-- The whole text was written and no write failed, or a prefix of it was and one did: nothing is written after that.
abbrev pub HasNoted : List ℕ → Bool → SinkSeen → SinkSeen → Type 0
HasNoted text true old new = Gains old.written new.written text × (new.faults ≡ old.faults)
HasNoted text false old new = GainsPrefix old.written new.written text × Rose old.faults new.faults

abbrev pub Notes : List ℕ → SinkSeen → SinkSeen → Type 0
Notes text old new = (whole : Bool) × HasNoted text whole old new

-- What a step that isn't the last one did.
use Rattle.std.proofs.Common.{◌≡◌, ◌≢◌, false, refl, rules, subst, true}
use denote.Enum.Bare.{sameb, same_true}
use Rattle.aut_io.specs.Seen.{Seen, SinkSeen}
use Rattle.autfilt_run.proofs.running.Stepped.{StepsAs, Stepped, dropped, ended, kept, opened, skipped}
use Rattle.autfilt_run.specs.Events.{Dropped, Ended, Event, Kept, Opened, Skipped}
use Rattle.autfilt_run.specs.Plans.{asks_on}
use Rattle.autfilt_run.specs.Points.{name_in}
use Rattle.autfilt_run.specs.Run.{noted_of}
use Rattle.autfilt_run.specs.Turns.{Turns, progress, progress_after}
use Rattle.autfilt_run.specs.contracts.session.Turn.{the_type}
use Rattle.autfilt_run.specs.declared.session.Session.{Session}
use Rattle.autfilt_run.specs.declared.session.Turn.{Turn}
use Rattle.autfilt_run.specs.declared.session.Turn.TheVariants as turn
use Rattle.autfilt_run.specs.inner.Running.{turn_line}

pub is_done : (x : Turn) → sameb the_type x turn.Done ≡ true → x ≡ turn.Done
is_done x h = same_true the_type (search rules) x turn.Done h

pub not_done : (x : Turn) → sameb the_type x turn.Done ≡ false → x ≢ turn.Done
not_done x h e = let same : sameb the_type turn.Done turn.Done ≡ false = subst (λ (y : Turn). sameb the_type y turn.Done ≡ false) e h in cc

pub record Advances (x : Turn) (old new : Session) (m t : Seen) (p q : SinkSeen) : Type 0 where
  pub event : Event
  pub asks : asks_on old.plan old.kept ≡ true
  pub step : Stepped event old new m t p q
  pub noted : noted_of event ≡ turn_line x (name_in new)

pub advances : (x : Turn) (old new : Session) (m t : Seen) (p q : SinkSeen) → x ≢ turn.Done → StepsAs old new → progress new ≡ progress_after x (progress old) → Turns x old new m t p q
    → Advances x old new m t p q
advances turn.Opened old new m t p q going steady done did =
    record { event = Opened did.name; asks = did.opening.asks; step = opened old new m t p q steady done did; noted = refl }
advances turn.Kept old new m t p q going steady done did =
    record { event = Kept did.automaton did.text; asks = did.reading.asks; step = kept old new m t p q steady done did; noted = refl }
advances turn.Dropped old new m t p q going steady done did =
    record { event = Dropped did.automaton; asks = did.reads.reading.asks; step = dropped old new m t p q steady done did; noted = refl }
advances turn.StreamEnd old new m t p q going steady done did =
    record { event = Ended; asks = did.reading.asks; step = ended old new m t p q steady done did; noted = refl }
advances turn.Skipped old new m t p q going steady done did =
    record { event = Skipped (name_in new); asks = did.reading.asks; step = skipped old new m t p q steady done did; noted = refl }
advances turn.Done old new m t p q going steady done did = absurd (going refl)

-- Why a run ended: which counts of I/O faults rose.
use Rattle.std.proofs.Common.{◌≡◌, ◌≢◌, ℕ, refl}
use Rattle.aut_io.specs.Outside.{Rose}
use Rattle.aut_io.specs.Seen.{Seen, SinkSeen}
use Rattle.autfilt_run.specs.Run.{EndsBecause, RisesWhere}
use Rattle.autfilt_run.specs.declared.ended.Ended.{Ended}
use Rattle.autfilt_run.specs.declared.ended.Ended.TheVariants as ended
use Rattle.autfilt_run.specs.inner.Running.{AreCalm}

rises : {is : Type 0} (a b : ℕ) → is → Rose a b → RisesWhere is a b
rises a b so rose = (λ x. rose, λ none. absurd (none so))

stays : {is : Type 0} (a b : ℕ) → (is → ⊥) → b ≡ a → RisesWhere is a b
stays a b none same = (λ x. absurd (none x), λ x. same)

-- an answer that is no I/O fault
abbrev pub IsOfNoCall : Ended → Type 0
IsOfNoCall answer = (answer ≢ ended.CannotOpen) × (answer ≢ ended.ReadFault) × (answer ≢ ended.WriteFault)

pub because_calm : (answer : Ended) (s t : Seen) (o q : SinkSeen) → IsOfNoCall answer → AreCalm s t o q → EndsBecause answer s t o q
because_calm answer s t o q none h = record {
  opens = stays s.open_faults t.open_faults none.0 h.opens;
  reads = stays s.read_faults t.read_faults none.1 h.reads;
  writes = stays o.faults q.faults none.2 h.writes;
}

pub because_opening : (s t : Seen) (o q : SinkSeen) → Rose s.open_faults t.open_faults → t.read_faults ≡ s.read_faults → q.faults ≡ o.faults → EndsBecause ended.CannotOpen s t o q
because_opening s t o q opens reads writes = record {
  opens = rises s.open_faults t.open_faults refl opens;
  reads = stays s.read_faults t.read_faults (λ is. cc) reads;
  writes = stays o.faults q.faults (λ is. cc) writes;
}

pub because_reading : (s t : Seen) (o q : SinkSeen) → t.open_faults ≡ s.open_faults → Rose s.read_faults t.read_faults → q.faults ≡ o.faults → EndsBecause ended.ReadFault s t o q
because_reading s t o q opens reads writes = record {
  opens = stays s.open_faults t.open_faults (λ is. cc) opens;
  reads = rises s.read_faults t.read_faults refl reads;
  writes = stays o.faults q.faults (λ is. cc) writes;
}

pub because_writing : (s t : Seen) (o q : SinkSeen) → t.open_faults ≡ s.open_faults → t.read_faults ≡ s.read_faults → Rose o.faults q.faults → EndsBecause ended.WriteFault s t o q
because_writing s t o q opens reads writes = record {
  opens = stays s.open_faults t.open_faults (λ is. cc) opens;
  reads = stays s.read_faults t.read_faults (λ is. cc) reads;
  writes = rises o.faults q.faults refl writes;
}

-- One step of a session, where something was read.
use Rattle.std.proofs.Common.{◌≡◌, ◌≢◌, ℕ, ◌+◌, ◌<◌, Option, None, Result, Ok, Err, refl, sym, ap, ◌∙◌, subst, inr, arith}
use Rattle.std.specs.Result.{IsErrAnd}
use Rattle.aut_base.proofs.Outcomes.{hands_on}
use Rattle.aut_base.specs.declared.limit.Limit.{Limit}
use Rattle.aut_io.specs.Seen.{Seen, SinkSeen}
use Rattle.autfilt_run.proofs.handling.PassedLimits.{both_ways, elsewhere}
use Rattle.autfilt_run.proofs.turns.Reading.{AnswersAt, is_broken, is_good, is_past, is_wanting, stops}
use Rattle.autfilt_run.specs.Faults.{fault_of_reading}
use Rattle.autfilt_run.specs.Over.{IsOverLimit}
use Rattle.autfilt_run.specs.Points.{operands_in}
use Rattle.autfilt_run.specs.Turns.{FailsAfter, IsReading, IsStep, progress}
use Rattle.autfilt_run.specs.inner.Handling.{Handles}
use Rattle.autfilt_run.specs.declared.fault.RunFault.{RunFault}
use Rattle.autfilt_run.specs.declared.fault.RunFault.TheVariants as fault
use Rattle.autfilt_run.specs.declared.session.Session.{Session}
use Rattle.autfilt_run.specs.declared.session.Turn.{Turn}
use Rattle.hoa_lexer.specs.Moves.{Elsewhere, MovesLexer, Stop}
use Rattle.hoa_lexer.specs.Reading.{Between, held_count}
use Rattle.hoa_lexer.specs.declared.lexer.Lexer.{Lexer}
use Rattle.hoa_parser.specs.Raw.{Written}
use Rattle.hoa_parser.specs.Reads as reads
use Rattle.hoa_parser.specs.Reads.{HoldsBehind}
use Rattle.hoa_parser.specs.Standing.{Stands, Whole}
use Rattle.hoa_parser.specs.declared.fault.ReadFault.{ReadFault}
use Rattle.hoa_parser.specs.declared.fault.ReadFault.TheVariants as reading
use Rattle.hoa_parser.specs.declared.raw.Raw.{Raw}
use Rattle.hoa_parser.specs.declared.read.Front.{Front}
use Rattle.hoa_parser.specs.declared.read.Front.TheVariants as front

-- the limits that are passed after reading
abbrev pub over_in : Session → Limit → Written → Type 0
over_in s which w = IsOverLimit which s.plan (operands_in s) w

-- a fault of the reader
pub not_read : (f : ReadFault) (old new : Session) (s t : Seen) (o : SinkSeen) (held' : Option ℕ) → IsReading old → new.tried ≡ old.tried → HoldsBehind (Err f) held'
    → Between s.left t.left (AnswersAt (Err f) old.lexer.since held')
    → MovesLexer (reads.stop_of_read_fault f) old.lexer new.lexer s t → FailsAfter (fault_of_reading f) old new s t o o
not_read (reading.Syntax k) old new s t o held' r hand n at moves =
    record { reading = r; in_hand = hand; read = stops (over_in old) (reading.Syntax k) old.lexer.since held' s.left t.left n at; moves = moves; output = refl }
not_read reading.Truncated old new s t o held' r hand n at moves =
    record { reading = r; in_hand = hand; read = stops (over_in old) reading.Truncated old.lexer.since held' s.left t.left n at; moves = moves; output = refl }
not_read reading.Depth old new s t o held' r hand n at moves =
    record { reading = r; in_hand = hand; read = stops (over_in old) reading.Depth old.lexer.since held' s.left t.left n at; moves = moves; output = refl }
not_read reading.Bytes old new s t o held' r hand n at moves =
    record { reading = r; in_hand = hand; read = stops (over_in old) reading.Bytes old.lexer.since held' s.left t.left n at; moves = moves; output = refl }
not_read reading.Read old new s t o held' r hand n at moves =
    record { reading = r; in_hand = hand; read = stops (over_in old) reading.Read old.lexer.since held' s.left t.left n at; moves = moves; output = refl }
not_read reading.Memory old new s t o held' r hand n at moves =
    inr (record { reading = r; in_hand = hand; read = stops (over_in old) reading.Memory old.lexer.since held' s.left t.left n at; moves = moves; output = refl })

-- an automaton was read whole, and a fault comes of it
pub not_handled : (f : RunFault) (w : Written) (old new : Session) (s t : Seen) (o o' : SinkSeen) → IsReading old → new.tried ≡ old.tried
    → Between s.left t.left (λ rest next. Stands (Whole w next) old.lexer.since rest)
    → MovesLexer Elsewhere old.lexer new.lexer s t → Handles (Err f) old.plan (operands_in old) w o o' → FailsAfter f old new s t o o'
not_handled fault.WriteFault w old new s t o o' r hand whole moves h = record {
  prints = h.1;
  reading = r;
  in_hand = hand;
  automaton = w;
  text = h.0;
  read = is_good w old.lexer.since s.left t.left h.2.valid h.2.within whole;
  kept = h.2.kept;
  due = h.2.due;
  moves = moves;
  gains = h.3;
  writes = h.4;
}
not_handled (fault.Invalid rule) w old new s t o o' r hand whole moves h =
    record { reading = r; in_hand = hand; read = is_broken (over_in old) rule w old.lexer.since s.left t.left h.0 whole; moves = moves; output = h.1 }
not_handled (fault.Limit which) w old new s t o o' r hand whole moves h = record {
  reading = r;
  in_hand = hand;
  read = is_past (over_in old) which w old.lexer.since s.left t.left h.0 whole;
  moves = subst (λ (x : Stop). MovesLexer x old.lexer new.lexer s t) (sym (elsewhere which (both_ways which old.plan (operands_in old) w h.0))) moves;
  output = h.1;
}
not_handled fault.Memory w old new s t o o' r hand whole moves h = inr (record { reading = r; in_hand = hand; read = is_wanting w old.lexer.since s.left t.left whole; moves = moves; output = h })
not_handled _ w old new s t o o' r hand whole moves h = absurd h

-- what a fault doesn't change
pub record IsUnmoved (old new : Session) : Type 0 where
  pub plan : new.plan ≡ old.plan
  pub operands : new.operands ≡ old.operands
  pub most : new.lexer.most ≡ old.lexer.most
  pub counts : progress new ≡ progress old

-- a fault that `?` returns
pub steps_on : (r : Result Turn RunFault) (f : RunFault) (old new : Session) (s t : Seen) (o o' : SinkSeen) → IsErrAnd r (λ y. y ≡ f) → FailsAfter f old new s t o o' → IsUnmoved old new
    → IsStep r old new s t o o'
steps_on r f old new s t o o' h fails same = hands_on r f (λ x. IsStep x old new s t o o') h (record {
  steps = fails;
  plan = same.plan;
  operands = same.operands;
  most = same.most;
  rises = tt;
  counts = tt;
  failed = same.counts;
  spent = tt;
  held = tt;
})

-- an automaton that was read whole took a byte
pub rises_whole : (field : Front) (raw : Raw) (old new : Lexer) → field ≡ front.Whole raw → old.held ≡ None → HoldsBehind (Ok field) new.held
    → (field ≢ front.Blank → old.taken + held_count new.held < new.taken + held_count old.held) → old.taken < new.taken
rises_whole field raw old new is none after used =
    let more = used (λ e. let same : front.Whole raw ≡ front.Blank = sym is ∙ e in cc) in
    omega (arith, more, ap held_count after, ap held_count none)

-- Which event of the run each turn of a session is.
use Rattle.std.proofs.Common.{◌≡◌, ℕ, ◌+◌, ◌≤◌, true, List, [], ◌++◌, length, take, append-nil, Option, Some, sym, ap, ◌∙◌, subst}
use Rattle.aut_base.specs.declared.limit.TheConstants.{MOST_BYTES}
use Rattle.aut_io.specs.Outside.{Gains, Texts}
use Rattle.aut_io.specs.Seen.{Seen, SinkSeen}
use Rattle.autfilt_run.proofs.running.Stepping.{GoesOn, stands_in_same_streams, opens_next}
use Rattle.autfilt_run.proofs.printing.Gains.{nothing}
use Rattle.autfilt_run.proofs.turns.Preparing.{taken_few, take_named}
use Rattle.autfilt_run.proofs.turns.Stepping.{KeepsOn, ends_stream, is_open, name_as, one_name, reads_on}
use Rattle.autfilt_run.specs.Events.{Dropped, EndsStream, Ended, Event, EventLeads, IsGood, IsEventJudged, Kept, Opened, Point, ReadsOn, Skipped, Tally, tally_with, open_by, opened_stream, written_of}
use Rattle.autfilt_run.specs.Openings.{AreOpened}
use Rattle.autfilt_run.specs.Plans.{plan_streams}
use Rattle.autfilt_run.specs.Points.{StandsInStreams, name_in, operands_in}
use Rattle.autfilt_run.specs.Turns as turns
use Rattle.autfilt_run.specs.Turns.{Progress, progress_after, progress}
use Rattle.autfilt_run.specs.inner.Running.{AreCalm}
use Rattle.autfilt_run.specs.declared.session.Session.{Session}
use Rattle.autfilt_run.specs.declared.session.Turn.TheVariants as turn
use Rattle.hoa_lexer.specs.Moves.{Elsewhere, MovesLexer}
use Rattle.hoa_lexer.specs.Reading.{Between}
use Rattle.hoa_parser.specs.Standing.{Aborted, Stands}

-- A step of a session was this event.
pub record Stepped (event : Event) (old new : Session) (m t : Seen) (p q : SinkSeen) : Type 0 where
  pub judged : IsEventJudged old.plan (operands_in old) event
  pub goes : (texts : Texts) → m.texts ≡ Some texts → (at : Point) → StandsInStreams old m.left at → GoesOn (λ x. EventLeads texts event at x) new t.left
  pub gains : Gains p.written q.written (written_of event)
  pub tallied : tally_with (record { kept = old.kept; skipped = old.skipped }) event ≡ record { kept = new.kept; skipped = new.skipped }
  pub named : take new.opened (plan_streams old.plan) ≡ take old.opened (plan_streams old.plan) ++ opened_stream event
  pub still : new.is_open ≡ open_by old.is_open event
  pub openings : AreOpened (length (opened_stream event)) m t
  pub calm : AreCalm m t p q
  pub texts : t.texts ≡ m.texts

-- what else a step doesn't change
pub record StepsAs (old new : Session) : Type 0 where
  pub plan : new.plan ≡ old.plan
  pub most : new.lexer.most ≡ MOST_BYTES
  pub few : new.lexer.taken ≤ MOST_BYTES

pub steps_as : (old new : Session) → new.plan ≡ old.plan → StepsAs old new
steps_as old new plan = record { plan = plan; most = new.most_is; few = taken_few new }

still_gains : (p q : SinkSeen) → q ≡ p → Gains p.written q.written []
still_gains p q same = subst (λ (x : SinkSeen). Gains p.written x.written []) (sym same) (nothing p.written)

pub still_writes : (p q : SinkSeen) → q ≡ p → q.faults ≡ p.faults
still_writes p q same = ap (λ (x : SinkSeen). x.faults) same

-- the counts of the session after a turn
pub record IsAfter (new : Session) (a : Progress) : Type 0 where
  pub opened : new.opened ≡ a.opened
  pub is_open : new.is_open ≡ a.is_open
  pub kept : new.kept ≡ a.kept
  pub skipped : new.skipped ≡ a.skipped

pub parts_of : (new : Session) (a : Progress) → progress new ≡ a → IsAfter new a
parts_of new a e = record {
  opened = ap (λ (x : Progress). x.opened) e;
  is_open = ap (λ (x : Progress). x.is_open) e;
  kept = ap (λ (x : Progress). x.kept) e;
  skipped = ap (λ (x : Progress). x.skipped) e;
}

abbrev tally_of : ℕ → ℕ → Tally
tally_of kept skipped = record { kept = kept; skipped = skipped }

tally_as : (k s k' s' : ℕ) → k' ≡ k → s' ≡ s → tally_of k s ≡ tally_of k' s'
tally_as k s k' s' a b = ap (λ (x : ℕ). tally_of x s) (sym a) ∙ ap (λ (x : ℕ). tally_of k' x) (sym b)

pub keeps_on : (old new : Session) → StepsAs old new → new.tried ≡ old.tried → KeepsOn old new
keeps_on old new steady tried = record { plan = steady.plan; tried = tried; few = steady.few }

-- more of the open stream is read
pub reads_more : (R : ℕ → List ℕ → List ℕ → Type 0) (old new : Session) (m t : Seen) (at : Point) → StepsAs old new → StandsInStreams old m.left at → old.is_open ≡ true → new.is_open ≡ old.is_open
    → new.opened ≡ old.opened → new.tried ≡ old.tried
    → Between m.left t.left (R old.lexer.since) → MovesLexer Elsewhere old.lexer new.lexer m t → GoesOn (λ x. ReadsOn at R new.kept x) new t.left
reads_more R old new m t at steady stands opened_so open_still opened tried read moves =
    stands_in_same_streams (λ x. ReadsOn at R new.kept x) old new m.left t.left at steady.plan opened stands
    (reads_on R old new m t at Elsewhere stands.at opened_so (open_still ∙ opened_so) read moves (keeps_on old new steady tried))

kept_at : (old new : Session) (left : Option (List ℕ)) (at : Point) (P : ℕ → Type 0) → StandsInStreams old left at → new.kept ≡ old.kept → P new.kept → P at.kept
kept_at old new left at P stands same h = subst P (same ∙ sym stands.at.kept) h

-- no other stream was opened
none_named : (old new : Session) → new.opened ≡ old.opened → take new.opened (plan_streams old.plan) ≡ take old.opened (plan_streams old.plan) ++ []
none_named old new same = ap (λ (n : ℕ). take n (plan_streams old.plan)) same ∙ sym (append-nil (take old.opened (plan_streams old.plan)))

pub opened : (old new : Session) (m t : Seen) (p q : SinkSeen) → StepsAs old new → progress new ≡ progress_after turn.Opened (progress old) → (h : turns.Turns turn.Opened old new m t p q)
    → Stepped (Opened h.name) old new m t p q
opened old new m t p q steady done h =
    let x = parts_of new (progress_after turn.Opened (progress old)) done in
    record {
      judged = tt;
      goes = λ texts told at stands. opens_next texts old new m t at h.name told stands h.opening h.opens h.begins h.in_hand steady.plan x.opened x.is_open x.kept;
      gains = still_gains p q h.output;
      tallied = tally_as old.kept old.skipped new.kept new.skipped x.kept x.skipped;
      named = ap (λ (n : ℕ). take n (plan_streams old.plan)) x.opened ∙ take_named (plan_streams old.plan) old.opened h.name h.opening.named;
      still = x.is_open;
      openings = h.opens.counted;
      calm = record { opens = h.opens.calm; reads = h.opens.reads; writes = still_writes p q h.output };
      texts = h.opens.texts;
    }

pub ended : (old new : Session) (m t : Seen) (p q : SinkSeen) → StepsAs old new → progress new ≡ progress_after turn.StreamEnd (progress old) → turns.Turns turn.StreamEnd old new m t p q
    → Stepped Ended old new m t p q
ended old new m t p q steady done h =
    let x = parts_of new (progress_after turn.StreamEnd (progress old)) done in
    record {
      judged = tt;
      goes = λ texts told at stands.
          stands_in_same_streams (λ y. EndsStream at y) old new m.left t.left at steady.plan x.opened stands
          (ends_stream old new m t at stands.at h.reading.is_open x.is_open x.kept h.read h.moves steady.most (keeps_on old new steady h.in_hand));
      gains = still_gains p q h.output;
      tallied = tally_as old.kept old.skipped new.kept new.skipped x.kept x.skipped;
      named = none_named old new x.opened;
      still = x.is_open;
      openings = h.moves.openings;
      calm = record { opens = h.moves.opens; reads = h.moves.reads; writes = still_writes p q h.output };
      texts = h.moves.texts;
    }

pub dropped : (old new : Session) (m t : Seen) (p q : SinkSeen) → StepsAs old new → progress new ≡ progress_after turn.Dropped (progress old) → (h : turns.Turns turn.Dropped old new m t p q)
    → Stepped (Dropped h.automaton) old new m t p q
dropped old new m t p q steady done h =
    let x = parts_of new (progress_after turn.Dropped (progress old)) done in
    record {
      judged = h.dropped;
      goes = λ texts told at stands.
          let on = reads_more (λ start rest next. IsGood start rest h.automaton next) old new m t at steady stands h.reads.reading.is_open x.is_open x.opened h.reads.in_hand h.reads.read
          h.reads.moves in
          record {
            point = on.point;
            goes = kept_at old new m.left at (λ (k : ℕ). ReadsOn at (λ start rest next. IsGood start rest h.automaton next) k on.point) stands x.kept on.goes;
            stands = on.stands;
          };
      gains = still_gains p q h.reads.output;
      tallied = tally_as old.kept old.skipped new.kept new.skipped x.kept x.skipped;
      named = none_named old new x.opened;
      still = x.is_open;
      openings = h.reads.moves.openings;
      calm = record { opens = h.reads.moves.opens; reads = h.reads.moves.reads; writes = still_writes p q h.reads.output };
      texts = h.reads.moves.texts;
    }

pub kept : (old new : Session) (m t : Seen) (p q : SinkSeen) → StepsAs old new → progress new ≡ progress_after turn.Kept (progress old) → (h : turns.Turns turn.Kept old new m t p q)
    → Stepped (Kept h.automaton h.text) old new m t p q
kept old new m t p q steady done h =
    let x = parts_of new (progress_after turn.Kept (progress old)) done in
    record {
      judged = (h.kept, h.due);
      goes = λ texts told at stands.
          let on = reads_more (λ start rest next. IsGood start rest h.automaton next) old new m t at steady stands h.reading.is_open x.is_open x.opened h.in_hand h.read h.moves in
          record {
            point = on.point;
            goes = subst (λ (k : ℕ). ReadsOn at (λ start rest next. IsGood start rest h.automaton next) k on.point) (x.kept ∙ ap (λ (k : ℕ). k + 1) (sym stands.at.kept)) on.goes;
            stands = on.stands;
          };
      gains = h.gains;
      tallied = tally_as (old.kept + 1) old.skipped new.kept new.skipped x.kept x.skipped;
      named = none_named old new x.opened;
      still = x.is_open;
      openings = h.moves.openings;
      calm = record { opens = h.moves.opens; reads = h.moves.reads; writes = h.writes };
      texts = h.moves.texts;
    }

-- an automaton that was skipped is of the stream whose name is in hand
pub skipped : (old new : Session) (m t : Seen) (p q : SinkSeen) → StepsAs old new → progress new ≡ progress_after turn.Skipped (progress old) → turns.Turns turn.Skipped old new m t p q
    → Stepped (Skipped (name_in new)) old new m t p q
skipped old new m t p q steady done h =
    let x = parts_of new (progress_after turn.Skipped (progress old)) done in
    record {
      judged = tt;
      goes = λ texts told at stands.
          let on = reads_more (λ start rest next. Stands (Aborted next) start rest) old new m t at steady stands h.reading.is_open x.is_open x.opened h.in_hand h.read h.moves in
          let reads = kept_at old new m.left at (λ (k : ℕ). ReadsOn at (λ start rest next. Stands (Aborted next) start rest) k on.point) stands x.kept on.goes in
          let there = is_open old m.left at stands.at h.reading.is_open in
          record {
            point = on.point;
            goes = record { reads = reads; named = one_name at.stream reads.stream there.stream reads.is_open there.is ∙ sym there.named ∙ sym (name_as old new steady.plan h.in_hand) };
            stands = on.stands;
          };
      gains = still_gains p q h.output;
      tallied = tally_as old.kept (old.skipped + 1) new.kept new.skipped x.kept x.skipped;
      named = none_named old new x.opened;
      still = x.is_open;
      openings = h.moves.openings;
      calm = record { opens = h.moves.opens; reads = h.moves.reads; writes = still_writes p q h.output };
      texts = h.moves.texts;
    }

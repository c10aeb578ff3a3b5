-- What turns of the loop over operands mean as events of a run.
use Rattle.std.proofs.Common.{◌≡◌, ◌≢◌, ℕ, suc, ◌+◌, ◌-◌, ◌<◌, ◌≤◌, Bool, true, false, List, [], ◌∷◌, ◌++◌, length, drop, get_or, take, Option, Some, None, Result, fold}
use Rattle.std.proofs.Common.{Err, refl, sym, ap, ◌∙◌, subst, inl, inr, append_assoc, append-nil, arith}
use Rattle.std.proofs.Math.Numerals.{suc-eq-add-one}
use Rattle.std.proofs.lemmas.List.{length-append}
use Rattle.std.proofs.lemmas.Option.{same_Some, slice_get-get_or, slice_get_within}
use Rattle.aut_base.proofs.Outcomes.{hands_on}
use Rattle.aut_base.proofs.lists.Lists.{take-push}
use Rattle.std.specs.Prelude.{map, slice_get}
use Rattle.std.specs.Result.{IsErrAnd}
use Rattle.aut_base.specs.declared.fault.OpenFail.TheVariants as opening
use Rattle.aut_base.specs.declared.limit.Limit.{Limit}
use Rattle.aut_base.specs.declared.limit.Limit.TheVariants as limit
use Rattle.aut_base.specs.declared.limit.TheConstants.{MOST_BYTES}
use Rattle.aut_core.specs.SymbolicAutomata.{automaton_of}
use Rattle.aut_io.specs.Outside.{Closed, Texts}
use Rattle.aut_io.specs.Seen.{Seen}
use Rattle.autfilt_run.proofs.turns.Counted.{counted}
use Rattle.autfilt_run.proofs.turns.Openings.{fault_in, opened_as, opened_then, tried_behind, tried_for, tried_none, wants_next}
use Rattle.autfilt_run.proofs.turns.Stepping.{KeepsOn, closed_counted, is_closed, name_as, one_name, opens_stream, reads_on, rest_from, stops_at, stops_named, stream_counted, takes_operand}
use Rattle.autfilt_run.proofs.printing.Writing.{rose_from}
use Rattle.autfilt_run.specs.Events.{Point, ReadsOn}
use Rattle.autfilt_run.specs.Openings.{AreOpened, AreTried, WantsFile}
use Rattle.autfilt_run.specs.OperandEvents.{AreRead, FileOpened, OperandEvent, PassedOver, Proceeds, Taken, all_passed, file_open_by}
use Rattle.autfilt_run.specs.OperandEvents.{opened_file, opened_files, operand_of, operands_read, passed_of}
use Rattle.autfilt_run.specs.Points.{IsAt, StandsIn, name_in, open_count, operands_in}
use Rattle.autfilt_run.specs.Preparing.{CountsAt, FailsToPrepare, HasReadOperands, HasSkipped, HasAllOperands, Prepares, WantsOperand, opened_names}
use Rattle.autfilt_run.specs.Runs.{AtNamed, IsCounted, StopsAtOperand, StopsInOperands, WantsMemory, WantsStream, taken_until}
use Rattle.autfilt_run.specs.Turns.{stop_of_run_fault}
use Rattle.autfilt_run.specs.declared.ended.End.TheVariants as end
use Rattle.autfilt_run.specs.declared.fault.RunFault.{RunFault}
use Rattle.autfilt_run.specs.declared.fault.RunFault.TheVariants as fault
use Rattle.autfilt_run.specs.declared.session.Prep.{Prep}
use Rattle.autfilt_run.specs.declared.session.Session.{Session}
use Rattle.autfilt_run.specs.inner.OperandTurns.{FailsOperand, FailsReading, IsAllTaken, KeepsAll, OpensOperandFile, PassesOne, TakesNext, TriesFile}
use Rattle.filter_plan.specs.Words.{operands}
use Rattle.filter_plan.specs.declared.plan.Plan.{Plan}
use Rattle.hoa_lexer.proofs.next_token.Between.{between_as}
use Rattle.hoa_lexer.specs.Moves.{CountsReads, Elsewhere, IsWithinByteLimit, MovesLexer, Stop}
use Rattle.hoa_parser.specs.Standing.{Aborted, Stands}

-- ---- lists of events

are_read_push : (texts : Texts) (events : List OperandEvent) (event : OperandEvent) (p m q : Point) → AreRead texts events p m → Proceeds texts event m q → AreRead texts (events ++ event ∷ []) p q
are_read_push texts [] event p m q h goes =
    let P : Point → Type 0 = λ x. AreRead texts (event ∷ []) x q in
    subst P (sym h) (q, goes, refl)
are_read_push texts (e ∷ es) event p m q h goes = (h.0, h.1, are_read_push texts es event h.0 m q h.2 goes)

operands_push : (events : List OperandEvent) (event : OperandEvent) → operands_read (events ++ event ∷ []) ≡ operands_read events ++ operand_of event
operands_push [] event = append-nil (operand_of event)
operands_push (e ∷ es) event = ap (λ x. operand_of e ++ x) (operands_push es event) ∙ sym (append_assoc (operand_of e) (operands_read es) (operand_of event))

pub passed_push : (events : List OperandEvent) (event : OperandEvent) → all_passed (events ++ event ∷ []) ≡ all_passed events ++ passed_of event
passed_push [] event = append-nil (passed_of event)
passed_push (e ∷ es) event = ap (λ x. passed_of e ++ x) (passed_push es event) ∙ sym (append_assoc (passed_of e) (all_passed es) (passed_of event))

opened_files_push : (events : List OperandEvent) (event : OperandEvent) → opened_files (events ++ event ∷ []) ≡ opened_files events ++ opened_file event
opened_files_push [] event = append-nil (opened_file event)
opened_files_push (e ∷ es) event = ap (λ x. opened_file e ++ x) (opened_files_push es event) ∙ sym (append_assoc (opened_file e) (opened_files es) (opened_file event))

opened_push : (events : List OperandEvent) (event : OperandEvent) → length (opened_files events) + length (opened_file event) ≡ length (opened_files (events ++ event ∷ []))
opened_push events event = sym (length-append (opened_files events) (opened_file event)) ∙ ap length (sym (opened_files_push events event))

pub file_open_then : (before : Bool) (events others : List OperandEvent) → fold file_open_by before (events ++ others) ≡ fold file_open_by (fold file_open_by before events) others
file_open_then before [] others = refl
file_open_then before (e ∷ es) others = file_open_then (file_open_by before e) es others

-- ---- one turn

-- A turn was this event.
pub record Turned (event : OperandEvent) (old new : Session) (s t : Seen) : Type 0 where
  pub goes : (texts : Texts) → s.texts ≡ Some texts → (p : Point) → StandsIn old s.left p → (q : Point) × Proceeds texts event p q × StandsIn new t.left q
  pub operands : operands_in new ≡ operands_in old ++ operand_of event
  pub named : opened_names new ≡ opened_names old ++ opened_file event
  pub still : new.is_open ≡ file_open_by old.is_open event
  pub openings : AreOpened (length (opened_file event)) s t
  pub opens : t.open_faults ≡ s.open_faults
  pub reads : t.read_faults ≡ s.read_faults
  pub texts : t.texts ≡ s.texts

-- the names of operands whose files are still to be opened
coming_at : (s : Session) (n : ℕ) → length s.operands + open_count s.is_open ≡ n → drop (length s.operands + open_count s.is_open) (operands s.plan) ≡ drop n (operands s.plan)
coming_at s n is = ap (λ (k : ℕ). drop k (operands s.plan)) is

coming_of : (old new : Session) → new.plan ≡ old.plan → (n : ℕ) → length new.operands + open_count new.is_open ≡ n
    → drop n (operands old.plan) ≡ drop (length new.operands + open_count new.is_open) (operands new.plan)
coming_of old new plan n is = ap (λ (p : Plan). drop n (operands p)) (sym plan) ∙ sym (coming_at new n is)

counted_open : (s : Session) (n : ℕ) → s.is_open ≡ true → length s.operands ≡ n → length s.operands + open_count s.is_open ≡ n + 1
counted_open s n is len = ap (λ (b : Bool). length s.operands + open_count b) is ∙ ap (λ (k : ℕ). k + 1) len

plus_none : (n : ℕ) → n + 0 ≡ n
plus_none n = omega arith

counted_closed : (s : Session) (n : ℕ) → s.is_open ≡ false → length s.operands ≡ n → length s.operands + open_count s.is_open ≡ n
counted_closed s n is len = ap (λ (b : Bool). length s.operands + open_count b) is ∙ plus_none (length s.operands) ∙ len

-- the names of the files that were opened
names_of : (s : Session) (p : Plan) (n : ℕ) → s.plan ≡ p → length s.operands + open_count s.is_open ≡ n → opened_names s ≡ take n (operands p)
names_of s p n plan is = ap (λ (q : Plan). take (length s.operands + open_count s.is_open) (operands q)) plan ∙ ap (λ (k : ℕ). take k (operands p)) is

pub take_named : (xs : List (List ℕ)) (i : ℕ) (x : List ℕ) → slice_get xs i ≡ Some x → take (i + 1) xs ≡ take i xs ++ x ∷ []
take_named xs i x at =
    let within = slice_get_within xs i x at in
    take-push xs i x within (same_Some x (get_or xs i x) (sym at ∙ slice_get-get_or xs i x within))

same_operands : (old new : Session) → new.operands ≡ old.operands → operands_in new ≡ operands_in old ++ []
same_operands old new same = ap (λ cores. map automaton_of cores) same ∙ sym (append-nil (operands_in old))

next_is : (old : Session) (left : Option (List ℕ)) (p : Point) (name : List ℕ) → StandsIn old left p → old.is_open ≡ false → slice_get (operands old.plan) (length old.operands) ≡ Some name
    → p.coming ≡ name ∷ drop (suc (length old.operands)) (operands old.plan)
next_is old left p name stands closed next = stands.coming ∙ coming_at old (length old.operands) (counted_closed old (length old.operands) closed refl)
    ∙ rest_from (operands old.plan) (length old.operands) name next

pub opened : (old new : Session) (s t : Seen) → KeepsAll old new → (h : OpensOperandFile old new s t) → Turned (FileOpened h.tries.name) old new s t
opened old new s t keeps h =
    let k = length old.operands in
    record {
      goes = λ texts told p stands.
          let go = opens_stream texts old new s t p h.tries.name (drop (suc k) (operands old.plan)) told stands.at h.tries.closed
          (next_is old s.left p h.tries.name stands h.tries.closed h.tries.next) h.tries.opens h.tries.begins h.tries.in_hand h.now_open keeps.kept in (
            go.point,
            go.goes,
            record {
              coming = go.comes ∙ ap (λ (n : ℕ). drop n (operands old.plan)) (suc-eq-add-one k)
                  ∙ coming_of old new keeps.plan (k + 1) (counted_open new k h.now_open (ap length h.tries.operands_same));
              at = go.at;
            },
          );
      operands = same_operands old new h.tries.operands_same;
      named = names_of new old.plan (k + 1) keeps.plan (counted_open new k h.now_open (ap length h.tries.operands_same))
          ∙ (take_named (operands old.plan) k h.tries.name h.tries.next
          ∙ ap (λ xs. xs ++ h.tries.name ∷ []) (sym (names_of old old.plan k refl (counted_closed old k h.tries.closed refl))));
      still = h.now_open;
      openings = h.tries.opens.counted;
      opens = h.tries.opens.calm;
      reads = h.tries.opens.reads;
      texts = h.tries.opens.texts;
    }

keeps_on : (old new : Session) → KeepsAll old new → new.tried ≡ old.tried → new.lexer.taken ≤ MOST_BYTES → KeepsOn old new
keeps_on old new keeps tried few = record { plan = keeps.plan; tried = tried; few = few }

pub taken : (old new : Session) (s t : Seen) → KeepsAll old new → new.lexer.taken ≤ MOST_BYTES → (h : TakesNext old new s t) → Turned (Taken h.automaton) old new s t
taken old new s t keeps few h =
    let k = length old.operands in
    record {
      goes = λ texts told p stands.
          let go = takes_operand h.automaton old new s t p Elsewhere stands.at h.reads.was_open h.closed keeps.kept h.reads.read h.reads.moves (keeps_on old new keeps h.reads.in_hand few) in (
            go.point,
            go.goes,
            record {
              coming = go.comes ∙ stands.coming ∙ coming_at old (k + 1) (counted_open old k h.reads.was_open refl)
                  ∙ coming_of old new keeps.plan (k + 1) (counted_closed new (k + 1) h.closed h.one_more);
              at = go.at;
            },
          );
      operands = h.taken;
      named = names_of new old.plan (k + 1) keeps.plan (counted_closed new (k + 1) h.closed h.one_more)
          ∙ (sym (names_of old old.plan (k + 1) refl (counted_open old k h.reads.was_open refl)) ∙ sym (append-nil (opened_names old)));
      still = h.closed;
      openings = h.reads.moves.openings;
      opens = h.reads.moves.opens;
      reads = h.reads.moves.reads;
      texts = h.reads.moves.texts;
    }

-- an automaton that was skipped is of the file whose name is in hand
pub passed : (old new : Session) (s t : Seen) → KeepsAll old new → new.lexer.taken ≤ MOST_BYTES → PassesOne old new s t → Turned (PassedOver (name_in new)) old new s t
passed old new s t keeps few h =
    let k = length old.operands in
    record {
      goes = λ texts told p stands.
          let go = reads_on (λ start rest next. Stands (Aborted next) start rest) old new s t p Elsewhere stands.at h.reads.was_open h.still_open h.reads.read h.reads.moves
          (keeps_on old new keeps h.reads.in_hand few) in
          let reads = subst (λ (n : ℕ). ReadsOn p (λ start rest next. Stands (Aborted next) start rest) n go.point) (keeps.kept ∙ sym stands.at.kept) go.goes in
          let named = stops_named (Unit {0}) (λ start rest next. Unit {0}) old s t p (name_in new) (name_as old new keeps.plan h.reads.in_hand) stands.at h.reads.was_open tt
          (between_as s.left t.left _ _ (λ a b x. tt) h.reads.read) in (
            go.point,
            record { reads = reads; named = one_name p.stream reads.stream named.at.stream reads.is_open named.at.is_open ∙ named.named },
            record {
              coming = go.comes ∙ stands.coming ∙ coming_at old (k + 1) (counted_open old k h.reads.was_open refl)
                  ∙ coming_of old new keeps.plan (k + 1) (counted_open new k h.still_open (ap length h.operands_same));
              at = go.at;
            },
          );
      operands = same_operands old new h.operands_same;
      named = names_of new old.plan (k + 1) keeps.plan (counted_open new k h.still_open (ap length h.operands_same))
          ∙ (sym (names_of old old.plan (k + 1) refl (counted_open old k h.reads.was_open refl)) ∙ sym (append-nil (opened_names old)));
      still = h.still_open ∙ sym h.reads.was_open;
      openings = h.reads.moves.openings;
      opens = h.reads.moves.opens;
      reads = h.reads.moves.reads;
      texts = h.reads.moves.texts;
    }

-- ---- the turns so far

-- another event
pub read_more : (events : List OperandEvent) (event : OperandEvent) (first old new : Session) (s m t : Seen) → HasReadOperands events first old s m → Turned event old new m t
    → HasReadOperands (events ++ event ∷ []) first new s t
read_more events event first old new s m t h turned = record {
  operands = turned.operands ∙ ap (λ x. x ++ operand_of event) h.operands ∙ append_assoc (operands_in first) (operands_read events) (operand_of event)
      ∙ ap (λ x. operands_in first ++ x) (sym (operands_push events event));
  happened = λ texts told p stands.
      let a = h.happened texts told p stands in
      let b = turned.goes texts (h.texts ∙ told) a.0 a.2 in
      (b.0, are_read_push texts events event p a.0 b.0 a.1 b.1, b.2);
  named = turned.named ∙ (ap (λ x. x ++ opened_file event) h.named ∙ (append_assoc (opened_names first) (opened_files events) (opened_file event)
      ∙ ap (λ x. opened_names first ++ x) (sym (opened_files_push events event))));
  still = turned.still ∙ (ap (λ (b : Bool). file_open_by b event) h.still ∙ sym (file_open_then first.is_open events (event ∷ [])));
  openings = opened_as _ _ s t (opened_push events event) (opened_then (length (opened_files events)) (length (opened_file event)) s m t h.openings turned.openings);
  opens = turned.opens ∙ h.opens;
  reads = turned.reads ∙ h.reads;
  texts = turned.texts ∙ h.texts;
}

-- The invariant of the loop over turns.
pub record IsPreparing (first now : Session) (s t : Seen) : Type 0 where
  pub events : List OperandEvent
  pub read : HasReadOperands events first now s t
  pub passed : all_passed events ≡ []
  pub keeps : KeepsAll first now
  pub skipped : now.skipped ≡ first.skipped
  pub later : first.lexer.taken ≤ now.lexer.taken

keeps_then : (first old new : Session) → KeepsAll first old → KeepsAll old new → KeepsAll first new
keeps_then first old new a b = record { plan = b.plan ∙ a.plan; most = b.most ∙ a.most; opened = b.opened ∙ a.opened; kept = b.kept ∙ a.kept; stage = b.stage ∙ a.stage }

-- an event that skips no automaton
more : (event : OperandEvent) (first old new : Session) (s m t : Seen) → IsPreparing first old s m → Turned event old new m t → passed_of event ≡ [] → KeepsAll old new
    → new.skipped ≡ old.skipped → old.lexer.taken ≤ new.lexer.taken → IsPreparing first new s t
more event first old new s m t h turned none keeps skipped later = record {
  events = h.events ++ event ∷ [];
  read = read_more h.events event first old new s m t h.read turned;
  passed = passed_push h.events event ∙ ap (λ x. x ++ passed_of event) h.passed ∙ none;
  keeps = keeps_then first old new h.keeps keeps;
  skipped = skipped ∙ h.skipped;
  later = omega (arith, h.later, later);
}

pub more_opened : (first old new : Session) (s m t : Seen) → IsPreparing first old s m → KeepsAll old new → OpensOperandFile old new m t → IsPreparing first new s t
more_opened first old new s m t h keeps turn = more (FileOpened turn.tries.name) first old new s m t h (opened old new m t keeps turn) refl keeps turn.tries.skipped
    (omega (arith, turn.tries.begins.taken))

pub more_taken : (first old new : Session) (s m t : Seen) → IsPreparing first old s m → KeepsAll old new → new.lexer.taken ≤ MOST_BYTES → TakesNext old new m t → IsPreparing first new s t
more_taken first old new s m t h keeps few turn = more (Taken turn.automaton) first old new s m t h (taken old new m t keeps few turn) refl keeps turn.skipped turn.reads.moves.later

-- ---- the answers

pub is_ready : (first old new : Session) (s m t : Seen) → IsPreparing first old s m → IsAllTaken old new m t → HasAllOperands first new s t
is_ready first old new s m t h done =
    let ready : HasAllOperands first old s m = record { events = h.events; read = h.read; passed = h.passed; all = done.all; skipped = h.skipped } in
    subst (λ (x : Session). HasAllOperands first x s t) (sym done.same) (subst (λ (x : Seen). HasAllOperands first old s x) (sym done.inputs) ready)

pub has_skipped : (first old new : Session) (s m t : Seen) → IsPreparing first old s m → KeepsAll old new → new.lexer.taken ≤ MOST_BYTES → PassesOne old new m t → HasSkipped first new s t
has_skipped first old new s m t h keeps few turn = record {
  before = h.events;
  read = read_more h.events (PassedOver (name_in new)) first old new s m t h.read (passed old new m t keeps few turn);
  passed = h.passed;
  still_open = turn.still_open;
  rises = omega (arith, h.later, turn.rises);
  skipped = turn.skipped ∙ ap (λ (n : ℕ). n + 1) h.skipped;
}

-- ---- faults

-- the point at which the fault comes, and how many bytes were taken
record HaltsAt (f : RunFault) (old new : Session) (m t : Seen) : Type 0 where
  halts : (texts : Texts) → m.texts ≡ Some texts → (q : Point) → StandsIn old m.left q → StopsInOperands f (name_in new) q t.left × IsCounted f q t.left
  skipped : new.skipped ≡ old.skipped
  counts : CountsAt f m t
  tried : AreTried (end.Fault f) (WantsFile old.is_open (length old.operands) (length (operands old.plan))) 0 m t

pub untold_closed : (texts : Option Texts) (left : Option (List ℕ)) (t : Texts) → texts ≡ Some t → Closed texts left → left ≡ Some []
untold_closed None left t e h = cc
untold_closed (Some x) left t e h = h

tries_counted : (f : RunFault) (old : Session) (left left' : Option (List ℕ)) (q : Point) → IsAt old left q → old.is_open ≡ false → old.lexer.taken ≤ MOST_BYTES → stop_of_run_fault f ≡ Elsewhere
    → IsCounted f q left'
tries_counted f old left left' q stands closed few stop =
    counted f q left' (subst (λ (n : ℕ). n ≤ MOST_BYTES) (sym (closed_counted old left left' q stands closed)) few)
    (subst (λ (x : Stop). IsWithinByteLimit x (taken_until q left') MOST_BYTES) (sym stop) tt)

wants : (old new : Session) (left : Option (List ℕ)) (q : Point) (name : List ℕ) → StandsIn old left q → old.is_open ≡ false → slice_get (operands old.plan) (length old.operands) ≡ Some name
    → WantsStream (Unit {0}) q name
wants old new left q name stands closed next = record {
  asks = tt;
  closed = (is_closed old left q stands.at closed).is;
  others = drop (suc (length old.operands)) (operands old.plan);
  next = next_is old left q name stands closed next;
}

wants_one : (old : Session) (name : List ℕ) → old.is_open ≡ false → slice_get (operands old.plan) (length old.operands) ≡ Some name
    → WantsFile old.is_open (length old.operands) (length (operands old.plan))
wants_one old name closed next = record { closed = closed; more = slice_get_within (operands old.plan) (length old.operands) name next }

unopened : (old new : Session) (m t : Seen) → old.lexer.taken ≤ MOST_BYTES → TriesFile (Err opening.Failed) old new m t → HaltsAt fault.CannotOpen old new m t
unopened old new m t few h = record {
  halts = λ texts told q stands. (
    (subst (WantsStream (Unit {0}) q) (sym h.in_hand) (wants old new m.left q h.name stands h.closed h.next), untold_closed m.texts t.left texts told h.opens.closed),
    tries_counted fault.CannotOpen old m.left t.left q stands.at h.closed few refl,
  );
  skipped = h.skipped;
  counts = (h.opens.failed refl, h.opens.reads);
  tried = record { tried = 1; once = omega arith; wanted = λ one. (wants_one old h.name h.closed h.next, inl refl); failed = λ is. refl; opened = h.opens.counted };
}

unopened_for_memory : (old new : Session) (m t : Seen) → old.lexer.taken ≤ MOST_BYTES → TriesFile (Err opening.Memory) old new m t → HaltsAt fault.Memory old new m t
unopened_for_memory old new m t few h = record {
  halts = λ texts told q stands. (
    inr (inl (h.name, wants old new m.left q h.name stands h.closed h.next, untold_closed m.texts t.left texts told h.opens.closed)),
    tries_counted fault.Memory old m.left t.left q stands.at h.closed few refl,
  );
  skipped = h.skipped;
  counts = (h.opens.memory refl, h.opens.reads);
  tried = record { tried = 1; once = omega arith; wanted = λ one. (wants_one old h.name h.closed h.next, inr refl); failed = λ is. refl; opened = h.opens.counted };
}

file_counted : (f : RunFault) (old new : Session) (m t : Seen) (q : Point) → new.lexer.most ≡ MOST_BYTES → new.lexer.taken ≤ MOST_BYTES → old.is_open ≡ true → IsAt old m.left q
    → MovesLexer (stop_of_run_fault f) old.lexer new.lexer m t → IsCounted f q t.left
file_counted f old new m t q most few opened_so stands moves =
    let same = stream_counted old new m t q (stop_of_run_fault f) stands opened_so moves in
    counted f q t.left (subst (λ (n : ℕ). n ≤ MOST_BYTES) (sym same) few)
    (subst (λ (n : ℕ). IsWithinByteLimit (stop_of_run_fault f) n MOST_BYTES) (sym same) (subst (λ (n : ℕ). IsWithinByteLimit (stop_of_run_fault f) new.lexer.taken n) most moves.within))

-- what is next in the open file
named : (f : RunFault) (old new : Session) (m t : Seen) → KeepsAll old new → new.lexer.most ≡ MOST_BYTES → new.lexer.taken ≤ MOST_BYTES
    → ((q : Point) → AtNamed (Unit {0}) q (name_in new) t.left (StopsAtOperand f) → StopsInOperands f (name_in new) q t.left) → CountsAt f m t → f ≢ fault.CannotOpen → FailsReading f old new m t
    → HaltsAt f old new m t
named f old new m t keeps most few stops counts other h = record {
  halts = λ texts told q stands. (
    stops q (stops_named (Unit {0}) (StopsAtOperand f) old m t q (name_in new) (name_as old new keeps.plan h.reads.in_hand) stands.at h.reads.was_open tt h.reads.read),
    file_counted f old new m t q most few h.reads.was_open stands.at h.reads.moves,
  );
  skipped = h.skipped;
  counts = counts;
  tried = tried_none (end.Fault f) _ m t (λ is. other (fault_in is)) h.reads.moves.openings;
}

pub calm_limit : (which : Limit) (a b : ℕ) → CountsReads (stop_of_run_fault (fault.Limit which)) a b → b ≡ a
calm_limit limit.Bytes a b h = h
calm_limit _ a b h = h

halted : (f : RunFault) (old new : Session) (m t : Seen) → KeepsAll old new → new.lexer.most ≡ MOST_BYTES → old.lexer.taken ≤ MOST_BYTES → new.lexer.taken ≤ MOST_BYTES
    → FailsOperand f old new m t → HaltsAt f old new m t
halted fault.CannotOpen old new m t keeps most few few' h = unopened old new m t few h
halted fault.WriteFault old new m t keeps most few few' h = absurd h
halted fault.Memory old new m t keeps most few few' (inl h) = unopened_for_memory old new m t few h
halted fault.Memory old new m t keeps most few few' (inr h) = record {
  halts = λ texts told q stands. (
    inr (inr (stops_at (Unit {0}) WantsMemory old m t q stands.at h.reads.was_open tt h.reads.read)),
    file_counted fault.Memory old new m t q most few' h.reads.was_open stands.at h.reads.moves,
  );
  skipped = h.skipped;
  counts = (h.reads.moves.opens, h.reads.moves.reads);
  tried = tried_none (end.Fault fault.Memory) _ m t (λ is. cc) h.reads.moves.openings;
}
halted fault.ReadFault old new m t keeps most few few' h = named fault.ReadFault old new m t keeps most few' (λ q x. x) (h.reads.moves.opens, h.reads.moves.reads) (λ is. cc) h
halted (fault.SyntaxAt k) old new m t keeps most few few' h = named (fault.SyntaxAt k) old new m t keeps most few' (λ q x. x) (h.reads.moves.opens, h.reads.moves.reads) (λ is. cc) h
halted fault.Truncated old new m t keeps most few few' h = named fault.Truncated old new m t keeps most few' (λ q x. x) (h.reads.moves.opens, h.reads.moves.reads) (λ is. cc) h
halted (fault.Invalid rule) old new m t keeps most few few' h = named (fault.Invalid rule) old new m t keeps most few' (λ q x. x) (h.reads.moves.opens, h.reads.moves.reads) (λ is. cc) h
halted (fault.Limit which) old new m t keeps most few few' h =
    named (fault.Limit which) old new m t keeps most few' (λ q x. x) (h.reads.moves.opens, calm_limit which _ _ h.reads.moves.reads) (λ is. cc) h

pub counts_then : (f : RunFault) (s m t : Seen) → m.open_faults ≡ s.open_faults → m.read_faults ≡ s.read_faults → CountsAt f m t → CountsAt f s t
counts_then fault.CannotOpen s m t a b h = (rose_from s.open_faults m.open_faults t.open_faults a h.0, h.1 ∙ b)
counts_then fault.ReadFault s m t a b h = (h.0 ∙ a, rose_from s.read_faults m.read_faults t.read_faults b h.1)
counts_then fault.WriteFault s m t a b h = (h.0 ∙ a, h.1 ∙ b)
counts_then fault.Memory s m t a b h = (h.0 ∙ a, h.1 ∙ b)
counts_then (fault.SyntaxAt k) s m t a b h = (h.0 ∙ a, h.1 ∙ b)
counts_then fault.Truncated s m t a b h = (h.0 ∙ a, h.1 ∙ b)
counts_then (fault.Invalid rule) s m t a b h = (h.0 ∙ a, h.1 ∙ b)
counts_then (fault.Limit which) s m t a b h = (h.0 ∙ a, h.1 ∙ b)

no_write : (f : RunFault) (old new : Session) (m t : Seen) → FailsOperand f old new m t → f ≢ fault.WriteFault
no_write f old new m t h is = let x = subst (λ (g : RunFault). FailsOperand g old new m t) is h in absurd x

-- which file is to be opened, by the events
wants_operand : (first old : Session) (s m : Seen) (h : IsPreparing first old s m) → WantsFile old.is_open (length old.operands) (length (operands old.plan)) → WantsOperand first h.events
wants_operand first old s m h wants =
    let k = length old.operands in
    let front = sym h.read.named ∙ (names_of old first.plan k h.keeps.plan (counted_closed old k wants.closed refl)) in
    let within : k < length (operands first.plan) = subst (λ (p : Plan). k < length (operands p)) h.keeps.plan wants.more in
    wants_next (fold file_open_by first.is_open h.events) (operands first.plan) k (opened_names first ++ opened_files h.events) (sym h.read.still ∙ wants.closed) within front

pub fails : (f : RunFault) (first old new : Session) (s m t : Seen) → first.lexer.most ≡ MOST_BYTES → old.lexer.taken ≤ MOST_BYTES → new.lexer.taken ≤ MOST_BYTES → IsPreparing first old s m
    → KeepsAll old new → FailsOperand f old new m t
    → FailsToPrepare f first new s t
fails f first old new s m t most few few' h keeps failed =
    let at = halted f old new m t keeps (keeps.most ∙ h.keeps.most ∙ most) few few' failed in
    record {
      events = h.events;
      happened = λ texts told p stands.
          let a = h.read.happened texts told p stands in
          let stops = at.halts texts (h.read.texts ∙ told) a.0 a.2 in
          (a.0, a.1, stops.0, stops.1);
      passed = h.passed;
      skipped = at.skipped ∙ h.skipped;
      no_write = no_write f old new m t failed;
      counts = counts_then f s m t h.read.opens h.read.reads at.counts;
      named = (
        length old.operands + open_count old.is_open,
        sym h.read.named ∙ ap (λ (p : Plan). take (length old.operands + open_count old.is_open) (operands p)) h.keeps.plan,
      );
      openings = tried_for (end.Fault f) _ _ _ s t (wants_operand first old s m h) (tried_behind (end.Fault f) _ (length (opened_files h.events)) s m t h.read.openings at.tried);
    }

-- a fault that `?` returns
pub prepares_on : (r : Result Prep RunFault) (f : RunFault) (old new : Session) (s t : Seen) → IsErrAnd r (λ y. y ≡ f) → FailsToPrepare f old new s t → Prepares r old new s t
prepares_on r f old new s t h failed = hands_on r f (λ x. Prepares x old new s t) h failed

pub taken_few : (s : Session) → s.lexer.taken ≤ MOST_BYTES
taken_few s = subst (λ (n : ℕ). s.lexer.taken ≤ n) s.most_is s.lexer.within

-- ---- why the loop ends

-- twice the number of operands that are still to be read, and one where no file is open
abbrev ahead : ℕ → ℕ → ℕ → ℕ
ahead all read opened = (all - read) + (all - read) + (1 - opened)

opened_less : (all read : ℕ) → ahead all read 1 < ahead all read 0
opened_less all read = omega arith

taken_less : (all read : ℕ) → read < all → ahead all (read + 1) 0 < ahead all read 1
taken_less all read h = omega (arith, h)

abbrev ahead_of : Session → ℕ
ahead_of s = ahead (length (operands s.plan)) (length s.operands) (open_count s.is_open)

ahead_is : (s : Session) (p : Plan) (n : ℕ) (b : Bool) → s.plan ≡ p → length s.operands ≡ n → s.is_open ≡ b → ahead_of s ≡ ahead (length (operands p)) n (open_count b)
ahead_is s p n b plan len is =
    ap (λ (x : Plan). ahead (length (operands x)) (length s.operands) (open_count s.is_open)) plan
    ∙ ap (λ (k : ℕ). ahead (length (operands p)) k (open_count s.is_open)) len
    ∙ ap (λ (x : Bool). ahead (length (operands p)) n (open_count x)) is

less_as : (a b c d : ℕ) → a ≡ c → b ≡ d → c < d → a < b
less_as a b c d e f h = omega (arith, e, f, h)

pub shorter_opened : (old new : Session) (s t : Seen) → KeepsAll old new → OpensOperandFile old new s t → ahead_of new < ahead_of old
shorter_opened old new s t keeps h =
    let n = length old.operands in
    less_as _ _ _ _ (ahead_is new old.plan n true keeps.plan (ap length h.tries.operands_same) h.now_open) (ahead_is old old.plan n false refl refl h.tries.closed)
    (opened_less (length (operands old.plan)) n)

pub shorter_taken : (old new : Session) (s t : Seen) → KeepsAll old new → TakesNext old new s t → length old.operands < length (operands old.plan) → ahead_of new < ahead_of old
shorter_taken old new s t keeps h room =
    let n = length old.operands in
    less_as _ _ _ _ (ahead_is new old.plan (n + 1) false keeps.plan h.one_more h.closed) (ahead_is old old.plan n true refl refl h.reads.was_open) (taken_less (length (operands old.plan)) n room)

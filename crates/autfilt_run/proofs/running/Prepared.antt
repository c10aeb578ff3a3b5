-- Preparing a session: some operands are read, then more of them, or a fault comes.
use Rattle.std.proofs.Common.{◌≡◌, ℕ, ◌+◌, Bool, true, false, List, [], ◌∷◌, ◌++◌, length, drop, take, refl, sym, ap, ◌∙◌, subst, append-nil, arith, fold}
use Rattle.std.proofs.lemmas.Grind.{flat_map-append}
use Rattle.std.proofs.lemmas.List.{length-append}
use Rattle.std.specs.Prelude.{map}
use Rattle.aut_core.specs.SymbolicAutomata.{automaton_of}
use Rattle.aut_io.specs.Outside.{Texts}
use Rattle.aut_io.specs.Seen.{Seen, SinkSeen}
use Rattle.autfilt_run.proofs.running.Ending.{Closes}
use Rattle.autfilt_run.proofs.running.Running.{Adds}
use Rattle.autfilt_run.specs.Noted.{HasNoted, Notes}
use Rattle.autfilt_run.specs.Notes.{aborted_line, line_of}
use Rattle.autfilt_run.specs.Run.{WantsOperandFile}
use Rattle.autfilt_run.specs.declared.ended.End.{End}
use Rattle.autfilt_run.specs.declared.ended.End.TheVariants as end
use Rattle.autfilt_run.specs.inner.Running.{FailsPreparing, HasPrepared, IsNew, IsPrepared, passed_noted}
use Rattle.autfilt_run.proofs.printing.Gains.{nothing}
use Rattle.autfilt_run.proofs.turns.Openings.{opened_as, opened_then, tried_as, tried_for, tried_of, tried_then}
use Rattle.autfilt_run.proofs.turns.Preparing.{counts_then, file_open_then, passed_push}
use Rattle.autfilt_run.specs.Events.{Point, start_of}
use Rattle.autfilt_run.specs.OperandEvents.{AreRead, OperandEvent, PassedOver, all_passed, file_open_by, opened_file, opened_files, operand_of, operands_read, passed_of}
use Rattle.autfilt_run.specs.Points.{StandsIn, name_in, open_count}
use Rattle.autfilt_run.specs.Preparing.{FailsToPrepare, HasReadOperands, HasSkipped, HasAllOperands, WantsOperand, opened_names}
use Rattle.autfilt_run.specs.declared.fault.RunFault.{RunFault}
use Rattle.autfilt_run.specs.declared.session.Session.{Session}
use Rattle.autfilt_run.specs.declared.session.Stage.TheVariants.{Prepared}
use Rattle.filter_plan.specs.Words.{operands}
use Rattle.filter_plan.specs.declared.plan.Plan.{Plan}

-- ---- lists of events

are_read_then : (texts : Texts) (before more : List OperandEvent) (p m q : Point) → AreRead texts before p m → AreRead texts more m q → AreRead texts (before ++ more) p q
are_read_then texts [] more p m q h then = subst (λ (x : Point). AreRead texts more x q) (sym h) then
are_read_then texts (e ∷ es) more p m q h then = (h.0, h.1, are_read_then texts es more h.0 m q h.2 then)

opened_files_then : (before more : List OperandEvent) → length (opened_files before) + length (opened_files more) ≡ length (opened_files (before ++ more))
opened_files_then before more = sym (length-append (opened_files before) (opened_files more)) ∙ ap length (sym (flat_map-append opened_file before more))

passed_then : (before more : List OperandEvent) → all_passed (before ++ more) ≡ all_passed before ++ all_passed more
passed_then before more = flat_map-append passed_of before more

noted_then : (before more : List OperandEvent) → passed_noted (all_passed (before ++ more)) ≡ passed_noted (all_passed before) ++ passed_noted (all_passed more)
noted_then before more = ap passed_noted (passed_then before more) ∙ flat_map-append aborted_line (all_passed before) (all_passed more)

-- no automaton was skipped
noted_none : (before more : List OperandEvent) → all_passed more ≡ [] → passed_noted (all_passed (before ++ more)) ≡ passed_noted (all_passed before)
noted_none before more none = noted_then before more ∙ ap (λ x. passed_noted (all_passed before) ++ passed_noted x) none ∙ append-nil (passed_noted (all_passed before))

count_none : (before more : List OperandEvent) → all_passed more ≡ [] → length (all_passed (before ++ more)) ≡ length (all_passed before)
count_none before more none = ap length (passed_then before more ∙ ap (λ x. all_passed before ++ x) none ∙ append-nil (all_passed before))

-- one automaton was skipped
noted_one : (before more : List OperandEvent) (name : List ℕ) → all_passed more ≡ name ∷ [] → passed_noted (all_passed (before ++ more)) ≡ passed_noted (all_passed before) ++ aborted_line name
noted_one before more name one =
    noted_then before more ∙ ap (λ x. passed_noted (all_passed before) ++ passed_noted x) one ∙ ap (λ x. passed_noted (all_passed before) ++ x) (append-nil (aborted_line name))

count_one : (before more : List OperandEvent) (name : List ℕ) → all_passed more ≡ name ∷ [] → length (all_passed (before ++ more)) ≡ length (all_passed before) + 1
count_one before more name one = ap length (passed_then before more ∙ ap (λ x. all_passed before ++ x) one) ∙ length-append (all_passed before) (name ∷ [])

-- ---- the invariant of the loop

-- what a call that reads operands doesn't change
pub record KeepsPlan (old new : Session) : Type 0 where
  pub plan : new.plan ≡ old.plan
  pub opened : new.opened ≡ old.opened
  pub kept : new.kept ≡ old.kept

none_counted : (s : Session) → IsNew s → length s.operands + open_count s.is_open ≡ 0
none_counted s is =
    let unread : length s.operands ≡ 0 = ap length is.none in
    let shut : open_count s.is_open ≡ 0 = ap open_count is.is_closed in
    omega (arith, unread, shut)

starts_in : (s : Session) (seen : Seen) → IsNew s → StandsIn s seen.left (start_of (operands s.plan) seen.left 0)
starts_in s seen is =
    record {
      coming = ap (λ (n : ℕ). drop n (operands s.plan)) (sym (none_counted s is));
      at = record { kept = sym is.kept; left_is = refl; stream = (is.is_closed, is.taken) };
    }

-- nothing was read yet
pub prepared_none : (s : Session) (seen : Seen) (k : SinkSeen) → IsNew s → HasPrepared s.plan s seen seen k k true
prepared_none s seen k is = record {
  taken = [];
  same_plan = refl;
  operands_are = ap (λ cores. map automaton_of cores) is.none;
  skipped = is.skipped;
  happened = λ texts told. (start_of (operands s.plan) seen.left 0, refl, starts_in s seen is);
  noted = (nothing k.written, refl);
  named = ap (λ (n : ℕ). take n (operands s.plan)) (none_counted s is);
  still = is.is_closed;
  openings = refl;
  calm = record { opens = refl; reads = refl };
  texts = refl;
  opened = is.opened;
  kept = is.kept;
}

-- more was read, and noted
more : (events : List OperandEvent) (plan : Plan) (old new : Session) (s m t : Seen) (k l j : SinkSeen) (noting noting' : Bool) → (h : HasPrepared plan old s m k l noting)
    → KeepsPlan old new → HasReadOperands events old new m t
    → new.skipped ≡ length (all_passed (h.taken ++ events)) → HasNoted (passed_noted (all_passed (h.taken ++ events))) noting' k j → HasPrepared plan new s t k j noting'
more events plan old new s m t k l j noting noting' h keeps read skipped noted = record {
  taken = h.taken ++ events;
  same_plan = keeps.plan ∙ h.same_plan;
  operands_are = read.operands ∙ ap (λ x. x ++ operands_read events) h.operands_are ∙ sym (flat_map-append operand_of h.taken events);
  skipped = skipped;
  happened = λ texts told.
      let a = h.happened texts told in
      let b = read.happened texts (h.texts ∙ told) a.0 a.2 in
      (b.0, are_read_then texts h.taken events (start_of (operands plan) s.left 0) a.0 b.0 a.1 b.1, b.2);
  noted = noted;
  named = read.named ∙ (ap (λ x. x ++ opened_files events) h.named ∙ sym (flat_map-append opened_file h.taken events));
  still = read.still ∙ (ap (λ (b : Bool). fold file_open_by b events) h.still ∙ sym (file_open_then false h.taken events));
  openings = opened_as _ _ s t (opened_files_then h.taken events) (opened_then (length (opened_files h.taken)) (length (opened_files events)) s m t h.openings read.openings);
  calm = record { opens = read.opens ∙ h.calm.opens; reads = read.reads ∙ h.calm.reads };
  texts = read.texts ∙ h.texts;
  opened = keeps.opened ∙ h.opened;
  kept = keeps.kept ∙ h.kept;
}

-- one automaton was skipped, and is noted
pub prepared_skipped : (plan : Plan) (old new : Session) (s m t : Seen) (k l j : SinkSeen) (noting noting' : Bool) → HasPrepared plan old s m k l noting → KeepsPlan old new
    → HasSkipped old new m t → Adds (aborted_line (name_in new)) noting noting' l j
    → HasPrepared plan new s t k j noting'
prepared_skipped plan old new s m t k l j noting noting' h keeps did notes =
    let name = name_in new in
    let events : List OperandEvent = did.before ++ PassedOver name ∷ [] in
    let passed : all_passed events ≡ name ∷ [] = passed_push did.before (PassedOver name) ∙ ap (λ x. x ++ name ∷ []) did.passed in
    more events plan old new s m t k l j noting noting' h keeps did.read
    (did.skipped ∙ ap (λ (n : ℕ). n + 1) h.skipped ∙ sym (count_one h.taken events name passed))
    (subst (λ (x : List ℕ). HasNoted x noting' k j) (sym (noted_one h.taken events name passed)) (notes k (passed_noted (all_passed h.taken)) h.noted))

-- all are read
pub prepared_all : (plan : Plan) (old new : Session) (s m t : Seen) (k l : SinkSeen) (noting : Bool) → HasPrepared plan old s m k l noting → KeepsPlan old new → HasAllOperands old new m t
    → new.stage ≡ Prepared → new.is_open ≡ false
    → IsPrepared plan new s t k l noting
prepared_all plan old new s m t k l noting h keeps did stage closed = record {
  prepared = more did.events plan old new s m t k l l noting noting h keeps did.read
      (did.skipped ∙ h.skipped ∙ sym (count_none h.taken did.events did.passed))
      (subst (λ (x : List ℕ). HasNoted x noting k l) (sym (noted_none h.taken did.events did.passed)) h.noted);
  stage = stage;
  closed = closed;
}

-- ---- faults

-- which file is to be opened, by all events
wants_operand : (f : RunFault) (plan : Plan) (old new : Session) (s m t : Seen) (k l : SinkSeen) (noting : Bool) (h : HasPrepared plan old s m k l noting) (failed : FailsToPrepare f old new m t)
    → WantsOperand old failed.events → WantsOperandFile plan (h.taken ++ failed.events)
wants_operand f plan old new s m t k l noting h failed wants =
    let names : opened_names old ++ opened_files failed.events ≡ opened_files (h.taken ++ failed.events) =
    ap (λ x. x ++ opened_files failed.events) h.named ∙ sym (flat_map-append opened_file h.taken failed.events) in
    let still : fold file_open_by false (h.taken ++ failed.events) ≡ fold file_open_by old.is_open failed.events =
    file_open_then false h.taken failed.events ∙ ap (λ (b : Bool). fold file_open_by b failed.events) (sym h.still) in
    let number = ap length names in
    let all = ap (λ (p : Plan). length (operands p)) h.same_plan in
    record { closed = still ∙ wants.closed; more = omega (arith, wants.more, number, all) }

pub prepared_fails : (f : RunFault) (e : End) (plan : Plan) (old new : Session) (s m t : Seen) (k l j : SinkSeen) (noting : Bool) → e ≡ end.Fault f → HasPrepared plan old s m k l noting
    → FailsToPrepare f old new m t
    → Closes (line_of (end.Fault f) (name_in new)) noting l j → FailsPreparing plan e s t k j
prepared_fails f e plan old new s m t k l j noting is h failed closes = record {
  taken = h.taken ++ failed.events;
  name = name_in new;
  fault = f;
  ends = is;
  no_write = failed.no_write;
  happened = λ texts told.
      let a = h.happened texts told in
      let b = failed.happened texts (h.texts ∙ told) a.0 a.2 in
      record { point = b.0; read = are_read_then texts h.taken failed.events (start_of (operands plan) s.left 0) a.0 b.0 a.1 b.1; stops = b.2; counted = b.3 };
  noted = subst (λ (x : End). Notes (passed_noted (all_passed (h.taken ++ failed.events)) ++ line_of x (name_in new)) k j) (sym is)
      (subst (λ (x : List ℕ). Notes (x ++ line_of (end.Fault f) (name_in new)) k j) (sym (noted_none h.taken failed.events failed.passed)) (closes k (passed_noted (all_passed h.taken)) h.noted));
  counts = counts_then f s m t h.calm.opens h.calm.reads failed.counts;
  named = (
    failed.named.0,
    flat_map-append opened_file h.taken failed.events ∙ (ap (λ x. x ++ opened_files failed.events) (sym h.named)
        ∙ (failed.named.1 ∙ ap (λ (p : Plan). take failed.named.0 (operands p)) h.same_plan)),
  );
  openings = tried_of e (end.Fault f) _ _ s t is (tried_for (end.Fault f) _ _ _ s t (wants_operand f plan old new s m t k l noting h failed)
      (tried_as (end.Fault f) _ _ _ s t (opened_files_then h.taken failed.events)
      (tried_then (end.Fault f) _ (length (opened_files h.taken)) (length (opened_files failed.events)) s m t h.openings failed.openings)));
}

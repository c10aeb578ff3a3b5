-- Runs that end with a fault, and runs that read all.
use Rattle.std.proofs.Common.{◌≡◌, ◌≢◌, ◌⊎◌, ℕ, ◌+◌, ◌<◌, ◌≤◌, ◌==◌, Bool, true, false, not, ◌&&◌, ◌||◌, if◌then◌else◌, List, [], ◌∷◌, ◌++◌, length, take, drop, fold}
use Rattle.std.proofs.Common.{Option, Some, None, Err, refl, sym, ap, ◌∙◌, subst, inl, inr, append_assoc, append-nil, arith}
use Rattle.std.proofs.lemmas.Bool.{false≢true}
use Rattle.std.proofs.lemmas.List.{drop_all}
use Rattle.std.proofs.lemmas.Option.{slice_get_within}
use Rattle.aut_base.proofs.lists.AllByRecursion.{AllByRecursion-push}
use Rattle.aut_base.specs.Automaton.{Automaton}
use Rattle.aut_base.specs.declared.fault.OpenFail.TheVariants as opening
use Rattle.aut_base.specs.declared.limit.Limit.{Limit}
use Rattle.aut_base.specs.declared.limit.TheConstants.{MOST_BYTES}
use Rattle.aut_io.specs.Outside.{Gains, GainsPrefix, Rose, Texts}
use Rattle.aut_io.specs.Seen.{Seen, SinkSeen}
use Rattle.autfilt_run.proofs.running.Causes.{IsOfNoCall, because_calm, because_opening, because_reading, because_writing}
use Rattle.autfilt_run.proofs.running.Running.{asks_at, asks_of, calm_then, gains_as, noted_push, of_fresh, opened_push, opened_streams_push}
use Rattle.autfilt_run.proofs.running.Stepped.{StepsAs, keeps_on, parts_of, still_writes}
use Rattle.autfilt_run.proofs.running.Stepping.{happen_push, wants_stream}
use Rattle.autfilt_run.specs.Ends.{ended_of}
use Rattle.autfilt_run.specs.Noted.{HasNoted, Notes}
use Rattle.autfilt_run.specs.Notes.{line_of}
use Rattle.autfilt_run.specs.Run.{BreaksOff, EndsAt, EndsBecause, PrintsRun, WantsStreamFile, end_of}
use Rattle.autfilt_run.specs.declared.ended.End.{End}
use Rattle.autfilt_run.specs.declared.ended.End.TheVariants as end
use Rattle.autfilt_run.specs.declared.ended.Ended.TheVariants as ended
use Rattle.autfilt_run.specs.inner.Running.{AreCalm, Carries, FinishesRun, FinishesWell, HasRunEvents, all_noted}
use Rattle.autfilt_run.proofs.printing.Gains.{both}
use Rattle.autfilt_run.proofs.turns.Counted.{counted}
use Rattle.autfilt_run.proofs.turns.Openings.{fault_in, opened_as, opened_then, tried_behind, tried_for, tried_none, wants_next}
use Rattle.autfilt_run.proofs.turns.Points.{read_on}
use Rattle.autfilt_run.proofs.turns.Preparing.{calm_limit, taken_few, untold_closed}
use Rattle.autfilt_run.proofs.turns.Stepping.{closed_counted, is_closed, name_as, reads_on, stops_at, stops_named, stream_counted}
use Rattle.autfilt_run.proofs.printing.Writing.{rose_from}
use Rattle.autfilt_run.specs.Events.{Dropped, Ended, Event, IsGood, IsEventJudged, Kept, Opened, Point, ReadsOn, Skipped, Stream, Tally, all_written}
use Rattle.autfilt_run.specs.Events.{tally_with, open_by, opened_stream, opened_streams, bytes_before, start_of, tally}
use Rattle.autfilt_run.specs.Openings.{AreTried, WantsFile}
use Rattle.autfilt_run.specs.Over.{IsOverLimit}
use Rattle.autfilt_run.specs.Plans.{asks_on, count_text, prints_count, prints_each, plan_streams}
use Rattle.autfilt_run.specs.Points.{IsInStream, StandsInStreams, name_in, operands_in}
use Rattle.autfilt_run.specs.Runs.{AtNamed, AtStream, IsCounted, IsDone, StopsRun, StopsReading, WantsMemory, WantsStream, taken_in, taken_until}
use Rattle.autfilt_run.specs.Turns.{FailsAfter, IsDoneWith, IsOpening, IsStill, KeepsInPart, OpensNext, ReadsInputs, TriesStream, progress, stop_of_run_fault}
use Rattle.autfilt_run.specs.declared.fault.RunFault.{RunFault}
use Rattle.autfilt_run.specs.declared.fault.RunFault.TheVariants as fault
use Rattle.autfilt_run.specs.declared.session.Session.{Session}
use Rattle.filter_plan.specs.declared.plan.Plan.{Plan}
use Rattle.hoa_lexer.specs.Moves.{Elsewhere, IsWithinByteLimit, MovesLexer, Stop}
use Rattle.hoa_parser.specs.Raw.{Written}

-- ---- common to all ends

-- a line that is noted at the end, after other notes
abbrev pub Closes : List ℕ → Bool → SinkSeen → SinkSeen → Type 0
Closes line noting l j = (sink : SinkSeen) (text : List ℕ) → HasNoted text noting sink l → Notes (text ++ line) sink j

notes_as : (a b : SinkSeen) (x y : List ℕ) → x ≡ y → Notes x a b → Notes y a b
notes_as a b x y e h = subst (λ (z : List ℕ). Notes z a b) e h

-- the notes of a run, and the line about its end
closed : (fresh old : Session) (s m : Seen) (o p k l j : SinkSeen) (first noting : Bool) (line : List ℕ) → (h : HasRunEvents fresh old s m o p k l first noting) → Closes line noting l j
    → (sink : SinkSeen) (text : List ℕ) → HasNoted text first sink k → Notes (text ++ (all_noted h.events ++ line)) sink j
closed fresh old s m o p k l j first noting line h closes sink text before =
    notes_as sink j _ _ (append_assoc text (all_noted h.events) line) (closes sink (text ++ all_noted h.events) (h.noted sink text before))

-- the point at which the fault comes, and how many bytes were taken
abbrev Halts : RunFault → Plan → List Automaton → List ℕ → Option (List ℕ) → Point → Type 0
Halts f plan ops name left p = StopsRun plan ops f name p left × IsCounted f p left

-- more automata are asked for
abbrev Asks : Session → Point → Type 0
Asks s p = asks_on s.plan p.kept ≡ true

-- the limits that are passed after reading
abbrev over_of : Session → Limit → Written → Type 0
over_of s which w = IsOverLimit which s.plan (operands_in s) w

-- a run in which the text of each event was written
record HaltsAt (f : RunFault) (old : Session) (name : List ℕ) (m t : Seen) (p q : SinkSeen) : Type 0 where
  halts : (texts : Texts) → m.texts ≡ Some texts → (at : Point) → StandsInStreams old m.left at → Halts f old.plan (operands_in old) name t.left at
  output : q ≡ p
  prints : (plan : Plan) (events : List Event) (a b : Option (List ℕ)) → Gains a b (all_written events) → PrintsRun plan (end.Fault f) events a b
  causes : (s : Seen) (o : SinkSeen) → AreCalm s m o p → EndsBecause (ended_of (end.Fault f)) s t o q
  tried : AreTried (end.Fault f) (WantsFile old.is_open old.opened (length (plan_streams old.plan))) 0 m t
  texts : t.texts ≡ m.texts

-- which file is to be opened, by the events
wants_stream_file : (fresh old : Session) (s m : Seen) (o p k l : SinkSeen) (first noting : Bool) (h : HasRunEvents fresh old s m o p k l first noting)
    → WantsFile old.is_open old.opened (length (plan_streams old.plan)) → WantsStreamFile fresh.plan h.events
wants_stream_file fresh old s m o p k l first noting h wants =
    let within : old.opened < length (plan_streams fresh.plan) = subst (λ (x : Plan). old.opened < length (plan_streams x)) h.same_plan wants.more in
    wants_next (fold open_by false h.events) (plan_streams fresh.plan) old.opened (opened_streams h.events) (sym h.still ∙ wants.closed) within h.named

run_halted : (f : RunFault) → f ≢ fault.WriteFault → (name : List ℕ) (fresh old : Session) (s m t : Seen) (o p q k l j : SinkSeen) (first noting : Bool)
    → HasRunEvents fresh old s m o p k l first noting → HaltsAt f old name m t p q
    → Closes (line_of (end.Fault f) name) noting l j → Carries fresh first (end.Fault f) s t o q k j
run_halted f other name fresh old s m t o p q k l j first noting h at closes = record {
  events = h.events;
  name = name;
  runs = record {
    judged = h.judged;
    happened = λ texts told.
        let r = h.happened texts told in
        record {
          point = r.point;
          happen = r.happen;
          ends = of_fresh (λ x ops. Halts f x ops name t.left r.point) fresh old h.same_plan h.same_operands (at.halts texts (h.texts ∙ told) r.point r.stands);
          numbered = λ is. absurd (other (fault_in is));
        };
    tallied = inl (f, refl);
    named = (old.opened, h.named);
    openings = tried_for (end.Fault f) _ _ _ s t (wants_stream_file fresh old s m o p k l first noting h)
        (tried_behind (end.Fault f) _ (length (opened_streams h.events)) s m t h.openings at.tried);
    prints = at.prints fresh.plan h.events o.written q.written (subst (λ (x : SinkSeen). Gains o.written x.written (all_written h.events)) (sym at.output) h.gains);
  };
  noted = closed fresh old s m o p k l j first noting (line_of (end.Fault f) name) h closes;
  causes = at.causes s o h.calm;
  texts = at.texts ∙ h.texts;
  asked = λ x. cc;
}

-- ---- a fault of the stream that is open

counted_at : (f : RunFault) (old new : Session) (m t : Seen) (at : Point) → StepsAs old new → old.is_open ≡ true → StandsInStreams old m.left at
    → MovesLexer (stop_of_run_fault f) old.lexer new.lexer m t
    → IsCounted f at t.left
counted_at f old new m t at steady opened_so stands moves =
    let same = stream_counted old new m t at (stop_of_run_fault f) stands.at opened_so moves in
    counted f at t.left (subst (λ (n : ℕ). n ≤ MOST_BYTES) (sym same) steady.few)
    (subst (λ (n : ℕ). IsWithinByteLimit (stop_of_run_fault f) n MOST_BYTES) (sym same)
    (subst (λ (n : ℕ). IsWithinByteLimit (stop_of_run_fault f) new.lexer.taken n) steady.most moves.within))

reading_halts : (f : RunFault) (R : ℕ → List ℕ → List ℕ → Type 0) (name : List ℕ) (old new : Session) (m t : Seen) (p q : SinkSeen) → StepsAs old new
    → ((at : Point) → AtStream (Asks old at) at t.left R → StopsRun old.plan (operands_in old) f name at t.left) → ReadsInputs (stop_of_run_fault f) (R old.lexer.since) old new m t p q
    → (at : Point) → StandsInStreams old m.left at → Halts f old.plan (operands_in old) name t.left at
reading_halts f R name old new m t p q steady stops h at stands = (
  stops at (stops_at (Asks old at) R old m t at stands.at h.reading.is_open (asks_at old m.left at stands h.reading.asks) h.read),
  counted_at f old new m t at steady h.reading.is_open stands h.moves,
)

-- the same where the line about the fault names a file
named_halts : (f : RunFault) (name : List ℕ) (old new : Session) (m t : Seen) (p q : SinkSeen) → StepsAs old new → name ≡ name_in new
    → ((at : Point) → AtNamed (Asks old at) at name t.left (StopsReading (over_of old) f) → StopsRun old.plan (operands_in old) f name at t.left)
    → ReadsInputs (stop_of_run_fault f) (StopsReading (over_of old) f old.lexer.since) old new m t p q
    → (at : Point) → StandsInStreams old m.left at → Halts f old.plan (operands_in old) name t.left at
named_halts f name old new m t p q steady is stops h at stands = (
  stops at (stops_named (Asks old at) (StopsReading (over_of old) f) old m t at name (is ∙ name_as old new steady.plan h.in_hand) stands.at h.reading.is_open
      (asks_at old m.left at stands h.reading.asks) h.read),
  counted_at f old new m t at steady h.reading.is_open stands h.moves,
)

-- a fault after which no count has risen
calm_halt : (f : RunFault) (name : List ℕ) (old new : Session) (m t : Seen) (p q : SinkSeen) → StepsAs old new → name ≡ name_in new → t.read_faults ≡ m.read_faults
    → ((at : Point) → AtNamed (Asks old at) at name t.left (StopsReading (over_of old) f) → StopsRun old.plan (operands_in old) f name at t.left)
    → ((plan : Plan) (events : List Event) (a b : Option (List ℕ)) → Gains a b (all_written events) → PrintsRun plan (end.Fault f) events a b)
    → IsOfNoCall (ended_of (end.Fault f)) → f ≢ fault.CannotOpen
    → ReadsInputs (stop_of_run_fault f) (StopsReading (over_of old) f old.lexer.since) old new m t p q → HaltsAt f old name m t p q
calm_halt f name old new m t p q steady is calm stops prints none other h = record {
  halts = λ texts told at stands. named_halts f name old new m t p q steady is stops h at stands;
  output = h.output;
  prints = prints;
  causes = λ s o before.
      because_calm (ended_of (end.Fault f)) s t o q none (calm_then s m t o p q before (record { opens = h.moves.opens; reads = calm; writes = still_writes p q h.output }));
  tried = tried_none (end.Fault f) _ m t (λ is. other (fault_in is)) h.moves.openings;
  texts = h.moves.texts;
}

-- where a limit is passed, the open file has the name in hand
limit_stops : (which : Limit) (name : List ℕ) (old : Session) (t : Seen) (at : Point) → AtNamed (Asks old at) at name t.left (StopsReading (over_of old) (fault.Limit which))
    → StopsRun old.plan (operands_in old) (fault.Limit which) name at t.left
limit_stops which name old t at h = h

-- ---- a file that can't be opened

unopened_counted : (f : RunFault) (old : Session) (left left' : Option (List ℕ)) (at : Point) → StandsInStreams old left at → old.is_open ≡ false → stop_of_run_fault f ≡ Elsewhere
    → IsCounted f at left'
unopened_counted f old left left' at stands closed_so stop =
    counted f at left' (subst (λ (n : ℕ). n ≤ MOST_BYTES) (sym (closed_counted old left left' at stands.at closed_so)) (taken_few old))
    (subst (λ (x : Stop). IsWithinByteLimit x (taken_until at left') MOST_BYTES) (sym stop) tt)

wants_one : (old : Session) (name : List ℕ) → IsOpening old name → WantsFile old.is_open old.opened (length (plan_streams old.plan))
wants_one old name opening = record { closed = opening.is_closed; more = slice_get_within (plan_streams old.plan) old.opened name opening.named }

unopened : (name : List ℕ) (old new : Session) (m t : Seen) (p q : SinkSeen) → (h : TriesStream (Err opening.Failed) old new m t p q) → name ≡ h.name → HaltsAt fault.CannotOpen old name m t p q
unopened name old new m t p q h same = record {
  halts = λ texts told at stands. (
    (
      subst (WantsStream (Asks old at) at) (sym same) (wants_stream (Asks old at) old m.left at h.name stands h.opening (asks_at old m.left at stands h.opening.asks)),
      untold_closed m.texts t.left texts told h.opens.closed,
    ),
    unopened_counted fault.CannotOpen old m.left t.left at stands h.opening.is_closed refl,
  );
  output = h.output;
  prints = λ plan events a b g. g;
  causes = λ s o calm.
      because_opening s t o q (rose_from s.open_faults m.open_faults t.open_faults calm.opens (h.opens.failed refl)) (h.opens.reads ∙ calm.reads) (still_writes p q h.output ∙ calm.writes);
  tried = record { tried = 1; once = omega arith; wanted = λ one. (wants_one old h.name h.opening, inl refl); failed = λ is. refl; opened = h.opens.counted };
  texts = h.opens.texts;
}

-- ---- want of memory

-- memory was wanting before anything was read, at an opening, after which nothing is open, or in the open file
abbrev LacksMemory : Type 0 → Point → Option (List ℕ) → Type 0
LacksMemory on p left = (left ≡ p.left) ⊎ (((name : List ℕ) × WantsStream on p name × (left ≡ Some [])) ⊎ AtStream on p left WantsMemory)

opening_lacks : (old : Session) (m t : Seen) (name : List ℕ) (texts : Texts) (at : Point) → m.texts ≡ Some texts → StandsInStreams old m.left at → WantsStream (Asks old at) at name
    → OpensNext m name (Err opening.Memory) t
    → LacksMemory (Asks old at) at t.left
opening_lacks old m t name texts at told stands wants (inl same) = inl (ap (λ (x : Seen). x.left) same ∙ sym stands.at.left_is)
opening_lacks old m t name texts at told stands wants (inr h) = inr (inl (name, wants, untold_closed m.texts t.left texts told h.closed))

-- what an opening that memory was wanting for leaves
record LeavesInputs (m t : Seen) : Type 0 where
  opens : t.open_faults ≡ m.open_faults
  reads : t.read_faults ≡ m.read_faults
  texts : t.texts ≡ m.texts

opening_calm : (m t : Seen) (name : List ℕ) → OpensNext m name (Err opening.Memory) t → LeavesInputs m t
opening_calm m t name (inl same) = record { opens = ap (λ (x : Seen). x.open_faults) same; reads = ap (λ (x : Seen). x.read_faults) same; texts = ap (λ (x : Seen). x.texts) same }
opening_calm m t name (inr h) = record { opens = h.memory refl; reads = h.reads; texts = h.texts }

opening_tried : (old : Session) (m t : Seen) (name : List ℕ) → IsOpening old name → OpensNext m name (Err opening.Memory) t
    → AreTried (end.Fault fault.Memory) (WantsFile old.is_open old.opened (length (plan_streams old.plan))) 0 m t
opening_tried old m t name wants (inl same) = tried_none (end.Fault fault.Memory) _ m t (λ is. cc) (ap (λ (x : Seen). x.openings) same)
opening_tried old m t name wants (inr h) =
    record { tried = 1; once = omega arith; wanted = λ one. (wants_one old name wants, inr refl); failed = λ is. refl; opened = h.counted }

no_call : IsOfNoCall ended.Memory
no_call = (λ is. cc, λ is. cc, λ is. cc)

lacking : (name : List ℕ) (old new : Session) (m t : Seen) (p q : SinkSeen) → StepsAs old new → FailsAfter fault.Memory old new m t p q → HaltsAt fault.Memory old name m t p q
lacking name old new m t p q steady (inl h) =
    let calm = opening_calm m t h.name h.opens in
    record {
      halts = λ texts told at stands. (
        opening_lacks old m t h.name texts at told stands (wants_stream (Asks old at) old m.left at h.name stands h.opening (asks_at old m.left at stands h.opening.asks)) h.opens,
        unopened_counted fault.Memory old m.left t.left at stands h.opening.is_closed refl,
      );
      output = h.output;
      prints = λ plan events a b g. g;
      causes = λ s o before.
          because_calm ended.Memory s t o q no_call (calm_then s m t o p q before (record { opens = calm.opens; reads = calm.reads; writes = still_writes p q h.output }));
      tried = opening_tried old m t h.name h.opening h.opens;
      texts = calm.texts;
    }
lacking name old new m t p q steady (inr h) = record {
  halts = λ texts told at stands. reading_halts fault.Memory WantsMemory name old new m t p q steady (λ x s. inr (inr s)) h at stands;
  output = h.output;
  prints = λ plan events a b g. g;
  causes = λ s o before.
      because_calm ended.Memory s t o q no_call (calm_then s m t o p q before (record { opens = h.moves.opens; reads = h.moves.reads; writes = still_writes p q h.output }));
  tried = tried_none (end.Fault fault.Memory) _ m t (λ is. cc) h.moves.openings;
  texts = h.moves.texts;
}

-- ---- every fault but that of a write

halted : (f : RunFault) (name : List ℕ) (old new : Session) (m t : Seen) (p q : SinkSeen) → f ≢ fault.WriteFault → StepsAs old new → FailsAfter f old new m t p q → name ≡ name_in new
    → HaltsAt f old name m t p q
halted fault.WriteFault name old new m t p q n steady h is = absurd (n refl)
halted fault.CannotOpen name old new m t p q n steady h is = unopened name old new m t p q h (is ∙ h.in_hand)
halted fault.Memory name old new m t p q n steady h is = lacking name old new m t p q steady h
halted fault.ReadFault name old new m t p q n steady h is = record {
  halts = λ texts told at stands. named_halts fault.ReadFault name old new m t p q steady is (λ x s. s) h at stands;
  output = h.output;
  prints = λ plan events a b g. g;
  causes = λ s o before.
      because_reading s t o q (h.moves.opens ∙ before.opens) (rose_from s.read_faults m.read_faults t.read_faults before.reads h.moves.reads) (still_writes p q h.output ∙ before.writes);
  tried = tried_none (end.Fault fault.ReadFault) _ m t (λ is. cc) h.moves.openings;
  texts = h.moves.texts;
}
halted (fault.SyntaxAt k) name old new m t p q n steady h is =
    calm_halt (fault.SyntaxAt k) name old new m t p q steady is h.moves.reads (λ x s. s) (λ plan events a b g. g) (λ e. cc, λ e. cc, λ e. cc) (λ e. cc) h
halted fault.Truncated name old new m t p q n steady h is =
    calm_halt fault.Truncated name old new m t p q steady is h.moves.reads (λ x s. s) (λ plan events a b g. g) (λ e. cc, λ e. cc, λ e. cc) (λ e. cc) h
halted (fault.Invalid rule) name old new m t p q n steady h is = calm_halt (fault.Invalid rule) name old new m t p q steady is h.moves.reads (λ x s. s) (λ plan events a b g. g)
    (λ e. cc, λ e. cc, λ e. cc) (λ e. cc) h
halted (fault.Limit which) name old new m t p q n steady h is =
    calm_halt (fault.Limit which) name old new m t p q steady is (calm_limit which _ _ h.moves.reads) (limit_stops which name old t) (λ plan events a b g. g) (λ e. cc, λ e. cc, λ e. cc) (λ e. cc) h

-- ---- a failed write

-- not both the number and each automaton are printed
never_both : (p : Plan) → prints_count p ≡ true → prints_each p ≡ true → ⊥
never_both p counts each = by_cases p.count p.quiet counts each
  where
    by_cases : (c q : Bool) → (c && not q) ≡ true → not (q || c) ≡ true → ⊥
    by_cases true true h k = false≢true h
    by_cases true false h k = false≢true k
    by_cases false true h k = false≢true h
    by_cases false false h k = false≢true h

broken_off : (plan : Plan) → prints_each plan ≡ true → (events : List Event) (w : Written) (text : List ℕ) (a b c : Option (List ℕ)) → Gains a b (all_written events) → GainsPrefix b c text
    → BreaksOff plan (events ++ Kept w text ∷ []) a c
broken_off plan on events w text None b c h p =
    let q : c ≡ None = subst (λ (x : Option (List ℕ)). GainsPrefix x c text) h p in
    record { prints = on; earlier = events; automaton = w; text = text; all = refl; part = 0; gains = q }
broken_off plan on events w text (Some old) b c h p =
    let q = subst (λ (x : Option (List ℕ)). GainsPrefix x c text) h p in
    record { prints = on; earlier = events; automaton = w; text = text; all = refl; part = q.0; gains = q.1 ∙ ap Some (append_assoc old (all_written events) (take q.0 text)) }

-- The automaton whose text could not be written whole is the last that was read, and is to be kept.
record IsLast (w : Written) (t : Seen) (at : Point) : Type 0 where
  point : Point
  goes : ReadsOn at (λ start rest next. IsGood start rest w next) (at.kept + 1) point
  left : t.left ≡ point.left
  counted : IsCounted fault.WriteFault point t.left

last_of : (old new : Session) (m t : Seen) (p q : SinkSeen) → StepsAs old new → new.is_open ≡ old.is_open → (h : KeepsInPart old new m t p q) → (at : Point) → StandsInStreams old m.left at
    → IsLast h.automaton t at
last_of old new m t p q steady same h at stands =
    let on = reads_on (λ start rest next. IsGood start rest h.automaton next) old new m t at Elsewhere stands.at h.reading.is_open (same ∙ h.reading.is_open) h.read h.moves
    (keeps_on old new steady h.in_hand) in
    let r = on.goes in
    let point = read_on at r.stream r.next (at.kept + 1) in
    let left : t.left ≡ Some r.next = sym on.at.left_is ∙ ap (λ (x : Point). x.left) r.to in
    let here : taken_until point t.left ≡ at.before + bytes_before r.stream.text r.next = ap (λ l. at.before + taken_in point.stream l) left in
    record {
      point = point;
      goes = record { stream = r.stream; is_open = r.is_open; next = r.next; stands = r.stands; few = r.few; to = refl };
      left = left;
      counted = counted fault.WriteFault point t.left (subst (λ (n : ℕ). n ≤ MOST_BYTES) (sym here) r.few) tt;
    }

write_failed : (fresh old new : Session) (s m t : Seen) (o p q k l j : SinkSeen) (first noting : Bool) (name : List ℕ) → StepsAs old new → new.is_open ≡ old.is_open
    → HasRunEvents fresh old s m o p k l first noting → KeepsInPart old new m t p q
    → Closes (line_of (end.Fault fault.WriteFault) name) noting l j → Carries fresh first (end.Fault fault.WriteFault) s t o q k j
write_failed fresh old new s m t o p q k l j first noting name steady same h part closes =
    let line = line_of (end.Fault fault.WriteFault) name in
    let event = Kept part.automaton part.text in
    let on = subst (λ (x : Plan). prints_each x ≡ true) h.same_plan part.prints in
    record {
      events = h.events ++ event ∷ [];
      name = name;
      runs = record {
        judged = AllByRecursion-push (IsEventJudged fresh.plan (operands_in fresh)) h.events event h.judged
            (of_fresh (λ x ops. IsEventJudged x ops (Kept part.automaton part.text)) fresh old h.same_plan h.same_operands (part.kept, part.due));
        happened = λ texts told.
            let r = h.happened texts told in
            let x = last_of old new m t p q steady same part r.point r.stands in
            record {
              point = x.point;
              happen = happen_push fresh.plan texts h.events event (start_of (plan_streams fresh.plan) s.left fresh.lexer.taken) r.point x.point r.happen
                  (asks_of fresh old m.left r.point h.same_plan r.stands part.reading.asks) x.goes;
              ends = (x.left, x.counted);
              numbered = λ is counts. absurd (never_both fresh.plan counts on);
            };
        tallied = inl (fault.WriteFault, refl);
        named = (old.opened, opened_streams_push h.events event ∙ (append-nil (opened_streams h.events) ∙ h.named));
        openings = tried_behind (end.Fault fault.WriteFault) _ (length (opened_streams (h.events ++ event ∷ []))) s t t
            (opened_as _ _ s t (opened_push h.events event) (opened_then (length (opened_streams h.events)) (length (opened_stream event)) s m t h.openings part.moves.openings))
            (tried_none (end.Fault fault.WriteFault) _ t t (λ is. cc) refl);
        prints = inl (broken_off fresh.plan on h.events part.automaton part.text o.written p.written q.written h.gains part.gains);
      };
      noted = λ sink text before.
          notes_as sink j _ _ (ap (λ x. text ++ (x ++ line)) (sym (noted_push h.events event ∙ append-nil (all_noted h.events))))
          (closed fresh old s m o p k l j first noting line h closes sink text before);
      causes = because_writing s t o q (part.moves.opens ∙ h.calm.opens) (part.moves.reads ∙ h.calm.reads) (rose_from o.faults p.faults q.faults h.calm.writes part.writes);
      texts = part.moves.texts ∙ h.texts;
      asked = λ x. cc;
    }

pub run_failed : (f : RunFault) (name : List ℕ) (fresh old new : Session) (s m t : Seen) (o p q k l j : SinkSeen) (first noting : Bool) → StepsAs old new → progress new ≡ progress old
    → HasRunEvents fresh old s m o p k l first noting
    → FailsAfter f old new m t p q → name ≡ name_in new → Closes (line_of (end.Fault f) name) noting l j → Carries fresh first (end.Fault f) s t o q k j
run_failed fault.WriteFault name fresh old new s m t o p q k l j first noting steady same h fails is closes =
    write_failed fresh old new s m t o p q k l j first noting name steady (parts_of new (progress old) same).is_open h fails closes
run_failed fault.CannotOpen name fresh old new s m t o p q k l j first noting steady same h fails is closes =
    run_halted fault.CannotOpen (λ x. cc) name fresh old s m t o p q k l j first noting h (halted fault.CannotOpen name old new m t p q (λ x. cc) steady fails is) closes
run_failed fault.Memory name fresh old new s m t o p q k l j first noting steady same h fails is closes =
    run_halted fault.Memory (λ x. cc) name fresh old s m t o p q k l j first noting h (halted fault.Memory name old new m t p q (λ x. cc) steady fails is) closes
run_failed fault.ReadFault name fresh old new s m t o p q k l j first noting steady same h fails is closes =
    run_halted fault.ReadFault (λ x. cc) name fresh old s m t o p q k l j first noting h (halted fault.ReadFault name old new m t p q (λ x. cc) steady fails is) closes
run_failed (fault.SyntaxAt n) name fresh old new s m t o p q k l j first noting steady same h fails is closes =
    run_halted (fault.SyntaxAt n) (λ x. cc) name fresh old s m t o p q k l j first noting h (halted (fault.SyntaxAt n) name old new m t p q (λ x. cc) steady fails is) closes
run_failed fault.Truncated name fresh old new s m t o p q k l j first noting steady same h fails is closes =
    run_halted fault.Truncated (λ x. cc) name fresh old s m t o p q k l j first noting h (halted fault.Truncated name old new m t p q (λ x. cc) steady fails is) closes
run_failed (fault.Invalid rule) name fresh old new s m t o p q k l j first noting steady same h fails is closes =
    run_halted (fault.Invalid rule) (λ x. cc) name fresh old s m t o p q k l j first noting h (halted (fault.Invalid rule) name old new m t p q (λ x. cc) steady fails is) closes
run_failed (fault.Limit which) name fresh old new s m t o p q k l j first noting steady same h fails is closes =
    run_halted (fault.Limit which) (λ x. cc) name fresh old s m t o p q k l j first noting h (halted (fault.Limit which) name old new m t p q (λ x. cc) steady fails is) closes

-- ---- the end of a run that read all

done_at : (old : Session) (m : Seen) (at : Point) → StandsInStreams old m.left at → IsDoneWith old → IsDone old.plan at
done_at old m at stands (inl reached) = inl (subst (λ (k : ℕ). asks_on old.plan k ≡ false) (sym stands.at.kept) reached)
done_at old m at stands (inr h) = inr (
  (is_closed old m.left at stands.at h.0).is,
  stands.coming ∙ ap (λ (n : ℕ). drop n (plan_streams old.plan)) h.1 ∙ drop_all (length (plan_streams old.plan)) (plan_streams old.plan) (omega arith),
)

-- the events keep the same automata, however many were skipped before
kept_alike : (a b : Tally) (events : List Event) → a.kept ≡ b.kept → (fold tally_with a events).kept ≡ (fold tally_with b events).kept
kept_alike a b [] e = e
kept_alike a b (Opened name ∷ es) e = kept_alike a b es e
kept_alike a b (Kept w text ∷ es) e = kept_alike (tally_with a (Kept w text)) (tally_with b (Kept w text)) es (ap (λ (n : ℕ). n + 1) e)
kept_alike a b (Dropped w ∷ es) e = kept_alike a b es e
kept_alike a b (Skipped name ∷ es) e = kept_alike (tally_with a (Skipped name)) (tally_with b (Skipped name)) es e
kept_alike a b (Ended ∷ es) e = kept_alike a b es e

-- what is written at the end
count_of : (fresh old : Session) (events : List Event) → old.plan ≡ fresh.plan → tally fresh.skipped events ≡ record { kept = old.kept; skipped = old.skipped }
    → count_text old.plan old.kept ≡ count_text fresh.plan (tally 0 events).kept
count_of fresh old events plan e =
    ap (λ (x : Plan). count_text x old.kept) plan ∙ ap (λ (x : Tally). count_text fresh.plan x.kept) (sym e)
    ∙ ap (count_text fresh.plan) (kept_alike (record { kept = 0; skipped = fresh.skipped }) (record { kept = 0; skipped = 0 }) events refl)

part_after : (events : List Event) (text : List ℕ) (a b c : Option (List ℕ)) → Gains a b (all_written events) → GainsPrefix b c text → (part : ℕ) × Gains a c (all_written events ++ take part text)
part_after events text None b c h p =
    let q : c ≡ None = subst (λ (x : Option (List ℕ)). GainsPrefix x c text) h p in
    (0, q)
part_after events text (Some old) b c h p =
    let q = subst (λ (x : Option (List ℕ)). GainsPrefix x c text) h p in
    (q.0, q.1 ∙ ap Some (append_assoc old (all_written events) (take q.0 text)))

-- the limit of bytes isn't passed at the point of a session
within_at : (o : Option Stream) (old : Session) (left : Option (List ℕ)) (at : Point) → at.stream ≡ o → IsInStream o old left at.before → old.lexer.taken ≤ MOST_BYTES
    → taken_until at left ≤ MOST_BYTES
within_at None old left at is h few =
    let here : taken_until at left ≡ at.before = ap (λ x. at.before + taken_in x left) is ∙ omega arith in
    omega (arith, here, h.1, few)
within_at (Some t) old left at is h few =
    let here : taken_until at left ≡ at.before + bytes_before t.text t.rest = ap (λ x. at.before + taken_in x left) is ∙ ap (λ l. at.before + taken_in (Some t) l) h.1 in
    omega (arith, here, h.3, h.4, few)

-- a run that read all, whichever of its ends it has
all_read : (e : End) (name : List ℕ) (fresh old : Session) (s m : Seen) (o p q k l j : SinkSeen) (first noting : Bool) → HasRunEvents fresh old s m o p k l first noting → IsDoneWith old
    → ((at : Point) → IsDone fresh.plan at → m.left ≡ at.left → EndsAt fresh.plan (operands_in fresh) e name at m.left)
    → ((events : List Event) (a b : Option (List ℕ)) → Gains a b (all_written events ++ count_text fresh.plan (tally 0 events).kept) → PrintsRun fresh.plan e events a b)
    → IsOfNoCall (ended_of e) → (e ≢ end.Fault fault.CannotOpen) → (e ≢ end.Usage)
    → FinishesWell e (count_text old.plan old.kept) (record { kept = old.kept; skipped = old.skipped }) p q
    → Closes (line_of e name) noting l j → Carries fresh first e s m o q k j
all_read e name fresh old s m o p q k l j first noting h done ends prints none other asked f closes = record {
  events = h.events;
  name = name;
  runs = record {
    judged = h.judged;
    happened = λ texts told.
        let r = h.happened texts told in
        record {
          point = r.point;
          happen = r.happen;
          ends = ends r.point (subst (λ (x : Plan). IsDone x r.point) h.same_plan (done_at old m r.point r.stands done)) (sym r.stands.at.left_is);
          numbered = λ is counts. subst (λ (x : Plan). IsDone x r.point) h.same_plan (done_at old m r.point r.stands done);
        };
    tallied = inr (f.end ∙ ap end_of (sym h.tallied));
    named = (old.opened, h.named);
    openings = tried_behind e _ (length (opened_streams h.events)) s m m h.openings (tried_none e _ m m other refl);
    prints = prints h.events o.written q.written
        (both o.written p.written q.written (all_written h.events) (count_text fresh.plan (tally 0 h.events).kept) h.gains
        (gains_as p.written q.written _ _ (count_of fresh old h.events h.same_plan h.tallied) f.gains));
  };
  noted = closed fresh old s m o p k l j first noting (line_of e name) h closes;
  causes = because_calm (ended_of e) s m o q none (record { opens = h.calm.opens; reads = h.calm.reads; writes = f.writes ∙ h.calm.writes });
  texts = h.texts;
  asked = asked;
}

-- the ends of a run that read all
end_is : (P : End → Type 0) → P end.Output → P end.NoneOutput → P end.Aborts → (a b : Bool) → P (if a then (if b then end.NoneOutput else end.Output) else end.Aborts)
end_is P x y z true true = y
end_is P x y z true false = x
end_is P x y z false b = z

count_failed : (name : List ℕ) (fresh old : Session) (s m : Seen) (o p q k l j : SinkSeen) (first noting : Bool) → HasRunEvents fresh old s m o p k l first noting
    → IsDoneWith old → prints_count old.plan ≡ true → GainsPrefix p.written q.written (count_text old.plan old.kept) → Rose p.faults q.faults
    → Closes (line_of (end.Fault fault.WriteFault) name) noting l j → Carries fresh first (end.Fault fault.WriteFault) s m o q k j
count_failed name fresh old s m o p q k l j first noting h done counts gains rose closes =
    let text = count_text fresh.plan (tally 0 h.events).kept in
    let part = part_after h.events text o.written p.written q.written h.gains (subst (λ (x : List ℕ). GainsPrefix p.written q.written x) (count_of fresh old h.events h.same_plan h.tallied) gains) in
    record {
      events = h.events;
      name = name;
      runs = record {
        judged = h.judged;
        happened = λ texts told.
            let r = h.happened texts told in
            record {
              point = r.point;
              happen = r.happen;
              ends =
                  (sym r.stands.at.left_is, counted fault.WriteFault r.point m.left (within_at r.point.stream old m.left r.point refl r.stands.at.stream (taken_few old)) tt);
              numbered =
                  λ is on. subst (λ (x : Plan). IsDone x r.point) h.same_plan (done_at old m r.point r.stands done);
            };
        tallied = inl (fault.WriteFault, refl);
        named = (old.opened, h.named);
        openings = tried_behind (end.Fault fault.WriteFault) _ (length (opened_streams h.events)) s m m h.openings (tried_none (end.Fault fault.WriteFault) _ m m (λ is. cc) refl);
        prints = inr (record { prints = subst (λ (x : Plan). prints_count x ≡ true) h.same_plan counts; part = part.0; gains = part.1 });
      };
      noted = closed fresh old s m o p k l j first noting (line_of (end.Fault fault.WriteFault) name) h closes;
      causes = because_writing s m o q h.calm.opens h.calm.reads (rose_from o.faults p.faults q.faults h.calm.writes rose);
      texts = h.texts;
      asked = λ x. cc;
    }

finished : (e : End) (name : List ℕ) (fresh old : Session) (s m : Seen) (o p q k l j : SinkSeen) (first noting : Bool) → HasRunEvents fresh old s m o p k l first noting → IsDoneWith old
    → (e ≡ end.Fault fault.WriteFault → prints_count old.plan ≡ true) → FinishesRun e (count_text old.plan old.kept) (record { kept = old.kept; skipped = old.skipped }) p q
    → Closes (line_of e name) noting l j → Carries fresh first e s m o q k j
finished e name fresh old s m o p q k l j first noting h done due (inl f) closes =
    let C : End → Type 0 = λ x. FinishesWell x (count_text old.plan old.kept) (record { kept = old.kept; skipped = old.skipped }) p q → Closes (line_of x name) noting l j
    → Carries fresh first x s m o q k j in
    subst C (sym f.end)
    (end_is C
    (λ g n. all_read end.Output name fresh old s m o p q k l j first noting h done (λ at d x. (d, x)) (λ events a b x. x) (λ x. cc, λ x. cc, λ x. cc) (λ x. cc) (λ x. cc) g n)
    (λ g n. all_read end.NoneOutput name fresh old s m o p q k l j first noting h done (λ at d x. (d, x)) (λ events a b x. x) (λ x. cc, λ x. cc, λ x. cc) (λ x. cc) (λ x. cc) g n)
    (λ g n. all_read end.Aborts name fresh old s m o p q k l j first noting h done (λ at d x. (d, x)) (λ events a b x. x) (λ x. cc, λ x. cc, λ x. cc) (λ x. cc) (λ x. cc) g n)
    (old.skipped == 0) (old.kept == 0)) f closes
finished e name fresh old s m o p q k l j first noting h done due (inr f) closes =
    let C : End → Type 0 = λ x. Closes (line_of x name) noting l j → Carries fresh first x s m o q k j in
    subst C (sym f.end) (count_failed name fresh old s m o p q k l j first noting h done (due f.end) f.gains f.writes) closes

pub run_finished : (e : End) (name : List ℕ) (fresh old : Session) (s m t : Seen) (o p r q k l j : SinkSeen) (first noting : Bool) → HasRunEvents fresh old s m o p k l first noting
    → IsDoneWith old → IsStill m t p r
    → (e ≡ end.Fault fault.WriteFault → prints_count old.plan ≡ true) → FinishesRun e (count_text old.plan old.kept) (record { kept = old.kept; skipped = old.skipped }) r q
    → Closes (line_of e name) noting l j → Carries fresh first e s t o q k j
run_finished e name fresh old s m t o p r q k l j first noting h done still due fin closes =
    let S : SinkSeen → Type 0 = λ x. FinishesRun e (count_text old.plan old.kept) (record { kept = old.kept; skipped = old.skipped }) x q in
    subst (λ (x : Seen). Carries fresh first e s x o q k j) (sym still.inputs) (finished e name fresh old s m o p q k l j first noting h done due (subst S still.output fin) closes)

-- The texts alone determine the answer of the command.
use Rattle.std.proofs.Common.{◌≡◌, ◌∙◌, ◌⊎◌, ◌==◌, ℕ, Bool, true, false, cond, List, [], ◌∷◌, ◌++◌, Option, Some, None, ap, append-nil, inl, inr, length, refl, subst, sym}
use Rattle.autfilt_laws.proofs.alike.LeftBehind.{IsLeftBehind, one_left_behind}
use Rattle.autfilt_laws.proofs.alike.SamePlans.{same_plan_ended, same_plan_left}
use Rattle.autfilt_laws.specs.Answers.{AnswerCompletes, Answered, IsByTexts, IsDecided, OneAnswer}
use Rattle.aut_base.specs.Automaton.{Automaton}
use Rattle.aut_io.specs.Outside.{Gains, Texts}
use Rattle.aut_io.specs.Seen.{Seen, SinkSeen}
use Rattle.autfilt_run.specs.Ends.{ended_of}
use Rattle.autfilt_run.specs.Noted.{Notes}
use Rattle.autfilt_run.specs.Notes.{line_of}
use Rattle.autfilt_run.specs.Run.{AreAllRead, FailsInOperands, GoesOverAll, PrintsRun, RunsOver, RunsOverAs, RunsTo, end_of, noted_of}
use Rattle.autfilt_run.specs.inner.Running.{all_noted, passed_noted}
use Rattle.autfilt_run.specs.declared.ended.End.{End}
use Rattle.autfilt_run.specs.declared.ended.End.TheVariants as end
use Rattle.autfilt_run.specs.declared.ended.Ended.{Ended}
use Rattle.autfilt_run.specs.declared.ended.Ended.TheVariants as ended
use Rattle.autfilt_laws.specs.Runs.{AreLike, Completes, EndsBefore, IsByText, IsEnded, IsLike, RunsEndAlike, Outcome, left_or, streams_from, texts_or}
use Rattle.autfilt_run.specs.Events.{Dropped, Event, Kept, Opened, Point, Skipped, Tally, all_written, start_of, tally}
use Rattle.autfilt_run.specs.Events as event
use Rattle.autfilt_run.specs.OperandEvents.{OperandEvent, all_passed, operands_read}
use Rattle.autfilt_run.specs.Plans.{count_text, plan_streams}
use Rattle.autfilt_run.specs.declared.fault.RunFault.TheVariants as fault
use Rattle.filter_plan.specs.Laws.{OnePlan, SamePlan}
use Rattle.filter_plan.specs.Words.{IsPlan}
use Rattle.filter_plan.specs.declared.plan.Plan.{Plan}
use Rattle.hoa_parser.specs.Standing.{OneStanding}
use Rattle.made_stream.specs.Made.{made_texts}

-- ---- the end, by the answer

by_end : (e : End) → IsByTexts (ended_of e) → IsByText e
by_end end.Output h = tt
by_end end.NoneOutput h = tt
by_end end.Aborts h = tt
by_end end.Usage h = absurd h
by_end (end.Fault (fault.SyntaxAt k)) h = tt
by_end (end.Fault fault.Truncated) h = tt
by_end (end.Fault (fault.Invalid rule)) h = tt
by_end (end.Fault (fault.Limit which)) h = tt
by_end (end.Fault fault.CannotOpen) h = absurd h
by_end (end.Fault fault.ReadFault) h = absurd h
by_end (end.Fault fault.WriteFault) h = absurd h
by_end (end.Fault fault.Memory) h = absurd h

-- ---- a run of a plan, as an outcome that the texts determine

abbrev outcome : List OperandEvent → List Event → End → List ℕ → Option (List ℕ) → Outcome
outcome taken events e name left = record { taken = taken; events = events; end = e; name = name; left = left }

module _ (p : Plan) (texts : Texts) (e : End) (taken : List OperandEvent) (events : List Event) (name : List ℕ) (seen seen' : Seen) (out out' : SinkSeen)
    (told : seen.texts ≡ Some texts) (by_text : IsByText e) where
  abbrev IsSome : Type 0
  IsSome = (left : Option (List ℕ)) × IsEnded p texts seen.left (outcome taken events e name left) × IsLeftBehind p texts seen.left (outcome taken events e name left) seen'.left

  fails_before : FailsInOperands p e taken events name seen seen' out out' → IsSome
  fails_before h =
      let before : EndsBefore p texts seen.left (outcome taken events e name seen'.left) = record { fault = h.fault; ends = h.ends; none = h.none; stops = h.happened texts told } in
      (seen'.left, record { by_text = by_text; ran = inl before }, inl (refl, inr before))

  -- the streams of the inputs, or the generated one
  in_streams : (mid : Seen) (before : ℕ) (point : Point) → AreAllRead p texts seen.left taken point → point.left ≡ mid.left → point.before ≡ before → mid.texts ≡ seen.texts
      → (made : Option ℕ) → p.made ≡ made → RunsOverAs made p (operands_read taken) (length (all_passed taken)) before e events name mid seen' out out' → IsSome
  in_streams mid before point read left taken_before same None made runs =
      let ops = operands_read taken in
      let over : texts_or p.made texts ≡ texts = ap (λ (m : Option ℕ). texts_or m texts) made in
      let left_there : left_or p.made point.left ≡ mid.left = ap (λ (m : Option ℕ). left_or m point.left) made ∙ left in
      let from : streams_from p point ≡ start_of (plan_streams p) mid.left before = λ i. start_of (plan_streams p) (left_there i) (taken_before i) in (
        seen'.left,
        record {
          by_text = by_text;
          ran = inr (record {
            point = point;
            read = read;
            judged = runs.judged;
            tallied = runs.tallied;
            runs = subst (λ (t : Texts). RunsTo p ops t (streams_from p point) seen'.left events e name) (sym over)
                (subst (λ (z : Point). RunsTo p ops texts z seen'.left events e name) (sym from) (runs.happened texts (same ∙ told)));
          });
        },
        inl (refl, inl made),
      )
  in_streams mid before point read left taken_before same (Some n) made over =
      let ops = operands_read taken in
      let in_made : texts_or p.made texts ≡ made_texts n = ap (λ (m : Option ℕ). texts_or m texts) made in
      let left_there : left_or p.made point.left ≡ Some [] = ap (λ (m : Option ℕ). left_or m point.left) made in
      let from : streams_from p point ≡ start_of (plan_streams p) (Some []) before = λ i. start_of (plan_streams p) (left_there i) (taken_before i) in (
        over.made.left,
        record {
          by_text = by_text;
          ran = inr (record {
            point = point;
            read = read;
            judged = over.runs.judged;
            tallied = over.runs.tallied;
            runs = subst (λ (t : Texts). RunsTo p ops t (streams_from p point) over.made.left events e name) (sym in_made)
                (subst (λ (z : Point). RunsTo p ops (made_texts n) z over.made.left events e name) (sym from) (over.runs.happened (made_texts n) refl));
          });
        },
        inr ((n, made), point, read, ap (λ (s : Seen). s.left) over.untouched ∙ sym left),
      )

  goes_over : GoesOverAll p e taken events name seen seen' out out' → IsSome
  goes_over h =
      let ready = h.prepared texts told in
      in_streams h.mid h.before ready.0 ready.1 ready.2 ready.3 h.texts p.made refl h.runs

  is_ended : RunsOver p e taken events name seen seen' out out' → IsSome
  is_ended (inl h) = fails_before h
  is_ended (inr h) = goes_over h

-- ---- what is written

abbrev pub text_due : Plan → End → List Event → List ℕ
text_due p (end.Fault f) events = all_written events
text_due p e events = all_written events ++ count_text p (tally 0 events).kept

gains_text : (p : Plan) (e : End) (events : List Event) (old new : Option (List ℕ)) → IsByText e → PrintsRun p e events old new → Gains old new (text_due p e events)
gains_text p end.Output events old new by_cases h = h
gains_text p end.NoneOutput events old new by_cases h = h
gains_text p end.Aborts events old new by_cases h = h
gains_text p end.Usage events old new by_cases h = absurd by_cases
gains_text p (end.Fault fault.WriteFault) events old new by_cases h = absurd by_cases
gains_text p (end.Fault fault.CannotOpen) events old new by_cases h = h
gains_text p (end.Fault fault.ReadFault) events old new by_cases h = h
gains_text p (end.Fault (fault.SyntaxAt k)) events old new by_cases h = h
gains_text p (end.Fault fault.Truncated) events old new by_cases h = h
gains_text p (end.Fault (fault.Invalid rule)) events old new by_cases h = h
gains_text p (end.Fault (fault.Limit which)) events old new by_cases h = h
gains_text p (end.Fault fault.Memory) events old new by_cases h = h

gains_none : (written : Option (List ℕ)) → Gains written written []
gains_none None = refl
gains_none (Some text) = ap Some (sym (append-nil text))

prints_over : (p : Plan) (made : Option ℕ) (ops : List Automaton) (passed before : ℕ) (e : End) (events : List Event) (name : List ℕ) (seen seen' : Seen) (out out' : SinkSeen)
    → RunsOverAs made p ops passed before e events name seen seen' out out' → PrintsRun p e events out.written out'.written
prints_over p None ops passed before e events name seen seen' out out' h = h.prints
prints_over p (Some n) ops passed before e events name seen seen' out out' h = h.runs.prints

is_written : (p : Plan) (e : End) (taken : List OperandEvent) (events : List Event) (name : List ℕ) (seen seen' : Seen) (out out' : SinkSeen) → IsByText e
    → RunsOver p e taken events name seen seen' out out' → Gains out.written out'.written (text_due p e events)
is_written p e taken events name seen seen' out out' by_cases (inl h) =
    subst (λ (x : End). Gains out.written out'.written (text_due p x events)) (sym h.ends)
    (subst (λ (es : List Event). Gains out.written out'.written (all_written es)) (sym h.none)
    (subst (λ (o : SinkSeen). Gains out.written o.written []) (sym h.output) (gains_none out.written)))
is_written p e taken events name seen seen' out out' by_cases (inr h) =
    gains_text p e events out.written out'.written by_cases (prints_over p p.made _ _ _ e events name h.mid seen' out out' h.runs)

-- the text that is due doesn't depend on where patterns are stored
same_due : (p q : Plan) (e : End) (events : List Event) → SamePlan p q → text_due p e events ≡ text_due q e events
same_due p q e events same = ap (λ (z : Plan). text_due z e events) same.others ∙ by_cases e
  where
    by_cases : (x : End) → text_due (record q { accept_word = p.accept_word; reject_word = p.reject_word }) x events ≡ text_due q x events
    by_cases end.Output = refl
    by_cases end.NoneOutput = refl
    by_cases end.Aborts = refl
    by_cases end.Usage = refl
    by_cases (end.Fault f) = refl

-- ---- what is noted

noted_like : (plan : Plan) (e f : Event) → IsLike plan e f → noted_of e ≡ noted_of f
noted_like plan (Opened name) f like = ap noted_of (sym like)
noted_like plan (Kept w text) f like = ap noted_of (sym like.1)
noted_like plan (Dropped w) f like = ap noted_of (sym like)
noted_like plan (Skipped name) f like = ap noted_of (sym like)
noted_like plan event.Ended f like = ap noted_of (sym like)

all_noted_like : (plan : Plan) (es fs : List Event) → AreLike plan es fs → all_noted es ≡ all_noted fs
all_noted_like plan [] [] like = refl
all_noted_like plan [] (f ∷ fs) like = absurd like
all_noted_like plan (e ∷ es) [] like = absurd like
all_noted_like plan (e ∷ es) (f ∷ fs) like = let first = noted_like plan e f like.0 in let rest = all_noted_like plan es fs like.1 in λ i. first i ++ rest i

-- ---- the outcome of an answer

record Came (plan : Plan) (texts : Texts) (r : Answered) : Type 0 where
  o : Outcome
  shown : r.answer ≡ ended_of o.end
  is : IsEnded plan texts r.inputs.left o
  left : IsLeftBehind plan texts r.inputs.left o r.inputs'.left
  noted : Notes (passed_noted (all_passed o.taken) ++ (all_noted o.events ++ line_of o.end o.name)) r.notes r.notes'
  written : Gains r.out.written r.out'.written (text_due plan o.end o.events)

came : OnePlan → (words : List (List ℕ)) (plan : Plan) (texts : Texts) (r : Answered) → IsPlan words plan → IsDecided words texts r → Came plan texts r
came one words plan texts r is d =
    let e = d.of in
    let run = e.runs plan is in
    let same = one words run.0 plan run.1 is in
    let by_cases = by_end e.end (subst IsByTexts e.shown d.by_texts) in
    let found = is_ended run.0 texts e.end e.taken e.events e.name r.inputs r.inputs' r.out r.out' d.told by_cases run.2 in
    record {
      o = outcome e.taken e.events e.end e.name found.0;
      shown = e.shown;
      is = same_plan_ended run.0 plan texts r.inputs.left (outcome e.taken e.events e.end e.name found.0) same found.1;
      left = same_plan_left run.0 plan texts r.inputs.left (outcome e.taken e.events e.end e.name found.0) r.inputs'.left same found.2;
      noted = e.noted;
      written = subst (Gains r.out.written r.out'.written) (same_due run.0 plan e.end e.events same)
          (is_written run.0 e.end e.taken e.events e.name r.inputs r.inputs' r.out r.out' by_cases run.2);
    }

pub one_answer : OneStanding → OnePlan → RunsEndAlike → OneAnswer
one_answer one plans ends words plan texts a b is left x y =
    let c = came plans words plan texts a is x in
    let d = came plans words plan texts b is y in
    let s = ends plan texts a.inputs.left c.o d.o c.is (subst (λ (l : Option (List ℕ)). IsEnded plan texts l d.o) (sym left) d.is) in
    let events = all_noted_like plan c.o.events d.o.events s.streams in
    let notes : passed_noted (all_passed d.o.taken) ++ (all_noted d.o.events ++ line_of d.o.end d.o.name) ≡ passed_noted (all_passed c.o.taken) ++ (all_noted c.o.events ++ line_of c.o.end c.o.name) =
    λ i. passed_noted (all_passed (sym s.operands i)) ++ (sym events i ++ sym s.line i) in
    record {
      answer = c.shown ∙ (ap ended_of s.ends ∙ sym d.shown);
      noted = (_, c.noted, subst (λ (text : List ℕ). Notes text b.notes b.notes') notes d.noted);
      left = one_left_behind one plan texts a.inputs.left c.o d.o a.inputs'.left b.inputs'.left c.is.by_text d.is.by_text s.operands
          s.left c.left
          (subst (λ (l : Option (List ℕ)). IsLeftBehind plan texts l d.o b.inputs'.left) (sym left) d.left);
      written = λ decides. (
          let same : text_due plan d.o.end d.o.events ≡ text_due plan c.o.end c.o.events = ap (λ (z : End). text_due plan z d.o.events) (sym s.ends) ∙ ap (text_due plan c.o.end) (s.texts decides) in
          (text_due plan c.o.end c.o.events, c.written, subst (Gains b.out.written b.out'.written) same d.written)
          );
    }

-- ---- all was read

all_read : (t : Tally) → (ended_of (end_of t) ≡ ended.Output) ⊎ ((ended_of (end_of t) ≡ ended.NoneOutput) ⊎ (ended_of (end_of t) ≡ ended.Aborts))
all_read t = by_cases (t.skipped == 0) (t.kept == 0)
  where
    by_cases : (none_skipped none_kept : Bool) → (ended_of (cond none_skipped (cond none_kept end.NoneOutput end.Output) end.Aborts) ≡ ended.Output)
        ⊎ ((ended_of (cond none_skipped (cond none_kept end.NoneOutput end.Output) end.Aborts) ≡ ended.NoneOutput)
        ⊎ (ended_of (cond none_skipped (cond none_kept end.NoneOutput end.Output) end.Aborts) ≡ ended.Aborts))
    by_cases true true = inr (inl refl)
    by_cases true false = inl refl
    by_cases false k = inr (inr refl)

pub answer_completes : OnePlan → Completes → AnswerCompletes
answer_completes plans completes words plan texts a is readable other d =
    let c = came plans words plan texts a is d in
    let whole : a.answer ≡ ended_of (end_of (tally (length (all_passed c.o.taken)) c.o.events)) = c.shown
    ∙ ap ended_of (completes plan texts a.inputs.left c.o readable (λ e. other (c.shown ∙ ap ended_of e)) c.is) in
    subst (λ (r : Ended). (r ≡ ended.Output) ⊎ ((r ≡ ended.NoneOutput) ⊎ (r ≡ ended.Aborts))) (sym whole) (all_read (tally (length (all_passed c.o.taken)) c.o.events))

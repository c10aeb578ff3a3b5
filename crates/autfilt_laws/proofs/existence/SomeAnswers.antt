-- A run whose end the texts determine is one that the command may answer.
use Rattle.std.proofs.Common.{◌≡◌, ◌≢◌, ◌∙◌, ◌⊎◌, ◌+◌, ℕ, List, [], ◌++◌, Option, Some, None, ap, arith, inl, inr, length, refl, subst, sym, take, true}
use Rattle.aut_base.specs.Automaton.{Automaton}
use Rattle.aut_io.specs.Outside.{Gains, Texts, raised_by}
use Rattle.aut_io.specs.Seen.{Seen, SinkSeen}
use Rattle.autfilt_run.proofs.running.Causes.{because_calm}
use Rattle.autfilt_run.specs.Ends.{ended_of}
use Rattle.autfilt_run.specs.Notes.{line_of}
use Rattle.autfilt_run.specs.Run.{AreAllRead, EndsBecause, EndsInOperands, PrintsRun, Runs, RunsOver, RunsOverAs, RunsTo}
use Rattle.autfilt_run.specs.inner.Running.{all_noted, passed_noted}
use Rattle.autfilt_run.specs.declared.ended.End.{End}
use Rattle.autfilt_run.specs.declared.ended.End.TheVariants as end
use Rattle.autfilt_laws.proofs.alike.Answers.{text_due}
use Rattle.autfilt_laws.proofs.existence.GoodOperands.{good_operands}
use Rattle.autfilt_laws.proofs.existence.Openings.{all_of, files_opened, front_of, streams_opened}
use Rattle.autfilt_laws.specs.Answers.{IsByTexts, SomeAnswer}
use Rattle.autfilt_laws.specs.Runs.{EndsBefore, EndsInStreams, IsByText, IsEnded, Outcome, ARunExists, left_or, streams_from, texts_or}
use Rattle.autfilt_run.specs.Events.{Event, opened_streams, start_of}
use Rattle.autfilt_run.specs.OperandEvents.{all_passed, opened_files, operands_read}
use Rattle.autfilt_run.specs.Openings.{AreTried}
use Rattle.autfilt_run.specs.Plans.{plan_streams}
use Rattle.autfilt_run.specs.declared.fault.RunFault.{RunFault}
use Rattle.autfilt_run.specs.declared.fault.RunFault.TheVariants as fault
use Rattle.filter_plan.specs.Words.{operands}
use Rattle.filter_plan.specs.declared.plan.Plan.{Plan}
use Rattle.made_stream.specs.Made.{made_texts, seen_of_made}

-- ---- sinks and inputs after the run

abbrev with_text : Option (List ℕ) → List ℕ → Option (List ℕ)
with_text None text = None
with_text (Some old) text = Some (old ++ text)

gains : (old : Option (List ℕ)) (text : List ℕ) → Gains old (with_text old text) text
gains None text = refl
gains (Some old) text = refl

abbrev gained : SinkSeen → List ℕ → SinkSeen
gained s text = record { written = with_text s.written text; faults = s.faults }

-- the inputs with so much left, after so many calls of `open`
abbrev behind : Seen → Option (List ℕ) → ℕ → Seen
behind s left calls = record { texts = s.texts; left = left; openings = raised_by calls s.openings; open_faults = s.open_faults; read_faults = s.read_faults }

told_once : (a b : Texts) (o : Option Texts) → o ≡ Some a → o ≡ Some b → a ≡ b
told_once a b o x y = let same : Some a ≡ Some b = sym x ∙ y in cc

-- ---- an end that the texts determine comes of no opening, and of no write

no_write : (f : RunFault) → IsByText (end.Fault f) → f ≢ fault.WriteFault
no_write f by is = subst (λ (g : RunFault). IsByText (end.Fault g)) is by

by_texts : (e : End) → IsByText e → IsByTexts (ended_of e)
by_texts end.Output by = tt
by_texts end.NoneOutput by = tt
by_texts end.Aborts by = tt
by_texts end.Usage by = absurd by
by_texts (end.Fault (fault.SyntaxAt k)) by = tt
by_texts (end.Fault fault.Truncated) by = tt
by_texts (end.Fault (fault.Invalid rule)) by = tt
by_texts (end.Fault (fault.Limit which)) by = tt
by_texts (end.Fault fault.CannotOpen) by = absurd by
by_texts (end.Fault fault.ReadFault) by = absurd by
by_texts (end.Fault fault.WriteFault) by = absurd by
by_texts (end.Fault fault.Memory) by = absurd by

module _ (inputs inputs' : Seen) (out out' : SinkSeen) (opens : inputs'.open_faults ≡ inputs.open_faults) (reads : inputs'.read_faults ≡ inputs.read_faults) (writes : out'.faults ≡ out.faults) where
  because : (e : End) → IsByText e → EndsBecause (ended_of e) inputs inputs' out out'
  because e by =
      let texts = by_texts e by in
      because_calm (ended_of e) inputs inputs' out out' (λ is. subst IsByTexts is texts, λ is. subst IsByTexts is texts, λ is. subst IsByTexts is texts)
      (record { opens = opens; reads = reads; writes = writes })

prints : (p : Plan) (e : End) (events : List Event) (old : Option (List ℕ)) → IsByText e → PrintsRun p e events old (with_text old (text_due p e events))
prints p end.Output events old by = gains old _
prints p end.NoneOutput events old by = gains old _
prints p end.Aborts events old by = gains old _
prints p end.Usage events old by = absurd by
prints p (end.Fault fault.WriteFault) events old by = absurd by
prints p (end.Fault fault.CannotOpen) events old by = gains old _
prints p (end.Fault fault.ReadFault) events old by = gains old _
prints p (end.Fault (fault.SyntaxAt k)) events old by = gains old _
prints p (end.Fault fault.Truncated) events old by = gains old _
prints p (end.Fault (fault.Invalid rule)) events old by = gains old _
prints p (end.Fault (fault.Limit which)) events old by = gains old _
prints p (end.Fault fault.Memory) events old by = gains old _

-- no more files were tried than opened
as_many : (n m count : ℕ) → m ≡ raised_by count n → m ≡ raised_by (count + 0) n
as_many n m count is = let same : count ≡ count + 0 = omega arith in is ∙ ap (λ k. raised_by k n) same

opened : (e : End) (wants : Type 0) (count : ℕ) (seen seen' : Seen) → IsByText e → seen'.openings ≡ raised_by count seen.openings → AreTried e wants count seen seen'
opened e wants count seen seen' by is = record {
  tried = 0;
  once = omega arith;
  wanted = λ one. let none : 0 ≡ 1 = one in cc;
  failed = λ failed. absurd (subst IsByText failed by);
  opened = as_many seen.openings seen'.openings count is;
}

-- ---- the run

module _ (plan : Plan) (texts : Texts) (inputs : Seen) (told : inputs.texts ≡ Some texts) (out : SinkSeen) (o : Outcome) (by : IsByText o.end) where
  -- the inputs and sinks after it
  record Behind : Type 0 where
    inputs' : Seen
    out' : SinkSeen
    opens : inputs'.open_faults ≡ inputs.open_faults
    reads : inputs'.read_faults ≡ inputs.read_faults
    writes : out'.faults ≡ out.faults
    runs : RunsOver plan o.end o.taken o.events o.name inputs inputs' out out'

  fails : EndsBefore plan texts inputs.left o → Behind
  fails h =
      let count = length (opened_files o.taken) in
      let by_fault = subst IsByText h.ends by in
      record {
        inputs' = behind inputs o.left count;
        out' = out;
        opens = refl;
        reads = refl;
        writes = refl;
        runs = inl (record {
          fault = h.fault;
          ends = h.ends;
          no_write = no_write h.fault by_fault;
          happened = λ other is. subst (λ (t : Texts). EndsInOperands plan t inputs.left o.left o.taken h.fault o.name) (told_once texts other inputs.texts told is) h.stops;
          named = front_of (opened_files o.taken) (operands plan) h.stops.point.coming (files_opened texts o.taken (start_of (operands plan) inputs.left 0) h.stops.point h.stops.read);
          openings = opened o.end _ count inputs (behind inputs o.left count) by refl;
          none = h.none;
          output = refl;
        });
      }

  module _ (h : EndsInStreams plan texts inputs.left o) where
    abbrev ops : List Automaton
    ops = operands_read o.taken

    abbrev passed : ℕ
    passed = length (all_passed o.taken)

    -- the inputs after the operands
    abbrev mid : Seen
    mid = behind inputs h.point.left (length (opened_files o.taken))

    abbrev written : SinkSeen
    written = gained out (text_due plan o.end o.events)

    streams_named : (k : ℕ) × (opened_streams o.events ≡ take k (plan_streams plan))
    streams_named = front_of (opened_streams o.events) (plan_streams plan) h.runs.point.coming
        (streams_opened plan (texts_or plan.made texts) o.events (streams_from plan h.point) h.runs.point h.runs.happen)

    -- over the streams of these inputs
    over : (seen seen' : Seen) → ((other : Texts) → seen.texts ≡ Some other → RunsTo plan ops other (start_of (plan_streams plan) seen.left h.point.before) seen'.left o.events o.end o.name)
        → seen'.openings ≡ raised_by (length (opened_streams o.events)) seen.openings → Runs plan ops passed h.point.before o.end o.events o.name seen seen' out written
    over seen seen' happened openings = record {
      judged = h.judged;
      happened = happened;
      tallied = h.tallied;
      named = streams_named;
      openings = opened o.end _ (length (opened_streams o.events)) seen seen' by openings;
      prints = prints plan o.end o.events out.written by;
    }

    record Streams : Type 0 where
      seen' : Seen
      opens : seen'.open_faults ≡ inputs.open_faults
      reads : seen'.read_faults ≡ inputs.read_faults
      runs : RunsOverAs plan.made plan ops passed h.point.before o.end o.events o.name mid seen' out written

    streams : (made : Option ℕ) → plan.made ≡ made → Streams
    streams None made =
        let seen' = behind mid o.left (length (opened_streams o.events)) in
        let told_so : (other : Texts) → inputs.texts ≡ Some other → texts_or plan.made texts ≡ other = λ other is. ap (λ (m : Option ℕ). texts_or m texts) made
        ∙ told_once texts other inputs.texts told is in
        let left_there : left_or plan.made h.point.left ≡ h.point.left = ap (λ (m : Option ℕ). left_or m h.point.left) made in
        record {
          seen' = seen';
          opens = refl;
          reads = refl;
          runs = subst (λ (m : Option ℕ). RunsOverAs m plan ops passed h.point.before o.end o.events o.name mid seen' out written) (sym made)
              (over mid seen' (λ other is. subst (λ (t : Texts). RunsTo plan ops t (start_of (plan_streams plan) h.point.left h.point.before) o.left o.events o.end o.name) (told_so other is)
              (subst (λ (l : Option (List ℕ)). RunsTo plan ops (texts_or plan.made texts) (start_of (plan_streams plan) l h.point.before) o.left o.events o.end o.name) left_there h.runs)) refl);
        }
    streams (Some n) made =
        let begun = seen_of_made (record { count = n; left = []; openings = 0 }) in
        let seen' = behind begun o.left (length (opened_streams o.events)) in
        let told_so : (other : Texts) → Some (made_texts n) ≡ Some other → texts_or plan.made texts ≡ other =
        λ other is. ap (λ (m : Option ℕ). texts_or m texts) made ∙ told_once (made_texts n) other (Some (made_texts n)) refl is in
        let left_there : left_or plan.made h.point.left ≡ Some [] = ap (λ (m : Option ℕ). left_or m h.point.left) made in
        record {
          seen' = mid;
          opens = refl;
          reads = refl;
          runs = subst (λ (m : Option ℕ). RunsOverAs m plan ops passed h.point.before o.end o.events o.name mid mid out written) (sym made) (record {
            untouched = refl;
            made = seen';
            runs = over begun seen' (λ other is. subst (λ (t : Texts). RunsTo plan ops t (start_of (plan_streams plan) (Some []) h.point.before) o.left o.events o.end o.name) (told_so other is)
                (subst (λ (l : Option (List ℕ)). RunsTo plan ops (texts_or plan.made texts) (start_of (plan_streams plan) l h.point.before) o.left o.events o.end o.name) left_there h.runs)) refl;
          });
        }

    goes : Behind
    goes =
        let s = streams plan.made refl in
        let read = h.read in
        record {
          inputs' = s.seen';
          out' = written;
          opens = s.opens;
          reads = s.reads;
          writes = refl;
          runs = inr (record {
            mid = mid;
            before = h.point.before;
            number = (good_operands plan texts inputs.left o.taken h.point read).number;
            prepared = λ other is. (
              h.point,
              subst (λ (t : Texts). AreAllRead plan t inputs.left o.taken h.point) (told_once texts other inputs.texts told is) read,
              refl,
              refl,
            );
            texts = refl;
            named = all_of (opened_files o.taken) (operands plan) h.point.coming
                (files_opened texts o.taken (start_of (operands plan) inputs.left 0) h.point read.read) read.none_coming;
            openings = refl;
            runs = s.runs;
          });
        }

behind_it : (plan : Plan) (texts : Texts) (inputs : Seen) (told : inputs.texts ≡ Some texts) (out : SinkSeen) (o : Outcome) → (e : IsEnded plan texts inputs.left o)
    → Behind plan texts inputs told out o e.by_text
behind_it plan texts inputs told out o e = go e.ran
  where
    go : EndsBefore plan texts inputs.left o ⊎ EndsInStreams plan texts inputs.left o → Behind plan texts inputs told out o e.by_text
    go (inl h) = fails plan texts inputs told out o e.by_text h
    go (inr h) = goes plan texts inputs told out o e.by_text h

-- ---- the answer

pub some_answer : ARunExists → SomeAnswer
some_answer ends words plan texts inputs out notes is told few none =
    ends plan texts inputs.left few (λ o e. (
    let b = behind_it plan texts inputs told out o e in
    let text = passed_noted (all_passed o.taken) ++ (all_noted o.events ++ line_of o.end o.name) in
    none (record { answer = ended_of o.end; inputs = inputs; inputs' = b.inputs'; out = out; out' = b.out'; notes = notes; notes' = gained notes text }) (record {
      over = refl;
      into = refl;
      noting = refl;
      decided = record {
        of = record {
          end = o.end;
          shown = refl;
          taken = o.taken;
          events = o.events;
          name = o.name;
          refused = λ refused. absurd (refused plan is);
          runs = λ p asks. (plan, is, b.runs);
          noted = (true, (gains notes.written text, refl));
        };
        told = told;
        by_texts = by_texts o.end e.by_text;
      };
      because = because inputs b.inputs' out b.out' b.opens b.reads b.writes o.end e.by_text;
    })
    ))

-- There is a run over streams.
use Rattle.std.proofs.Common.{◌≡◌, ◌⊎◌, ℕ, zero, suc, ◌+◌, ◌<◌, ◌≤◌, Bool, true, false, List, [], ◌∷◌, length, Option, Some, None, refl, inl, inr, arith}
use Rattle.std.proofs.lemmas.List.Sums.{sum_by-cons}
use Rattle.aut_base.specs.Automaton.{Automaton}
use Rattle.aut_base.specs.declared.limit.Limit.{Limit}
use Rattle.aut_base.specs.declared.limit.Limit.TheVariants as limit
use Rattle.aut_base.specs.declared.limit.TheConstants.{MOST_BYTES}
use Rattle.aut_io.specs.Outside.{Texts, text_of}
use Rattle.autfilt_run.specs.declared.ended.End.TheVariants as end
use Rattle.autfilt_laws.proofs.existence.Found.{AreShown, Found, OneAborted, OneGood, OneRefused, OnlyBlanks, something_found}
use Rattle.autfilt_laws.proofs.existence.InOperands.{NotNone}
use Rattle.autfilt_laws.proofs.existence.Shorter.{aborted_less, whole_less}
use Rattle.autfilt_laws.proofs.existence.Stopping.{is_counted, passed_other, stops_where}
use Rattle.autfilt_laws.specs.Runs.{IsByText, size_of}
use Rattle.autfilt_run.proofs.handling.PassedLimits.{plan_passes}
use Rattle.autfilt_run.proofs.turns.Points.{at_stream_end, read_on}
use Rattle.autfilt_run.specs.Due.{IsDue}
use Rattle.autfilt_run.specs.Events.{AreJudged, Dropped, Ended, Event, EventLeads, Happen, IsGood, IsEventJudged, Kept, Opened, Point, Skipped, Stream, opened_at, bytes_before}
use Rattle.autfilt_run.specs.Over.{IsOverLimit}
use Rattle.autfilt_run.specs.Plans.{asks_on}
use Rattle.autfilt_run.specs.Runs.{AtNamed, IsCounted, IsDone, StopsRun, StopsReading}
use Rattle.autfilt_run.specs.declared.fault.RunFault.{RunFault}
use Rattle.autfilt_run.specs.declared.fault.RunFault.TheVariants as fault
use Rattle.filter_plan.specs.declared.plan.Plan.{Plan}
use Rattle.hoa_parser.specs.Raw.{Written}
use Rattle.hoa_parser.specs.Standing.{SomeStanding}
use Rattle.hoa_reader.specs.Counts.{PassesNone}
use Rattle.hoa_reader.specs.Described.{described}
use Rattle.hoa_reader.specs.Validity.{IsValid}
use Rattle.plan_meaning.specs.Filters.{IsKept}
use Rattle.plan_meaning.specs.Laws as verdict
use Rattle.plan_meaning.specs.Laws.{IsVerdict, AVerdictExists, Verdict}

-- a fault ends the run here
pub record IsStopped (plan : Plan) (ops : List Automaton) (p : Point) : Type 0 where
  pub fault : RunFault
  pub by_text : IsByText (end.Fault fault)
  pub name : List ℕ
  pub left : Option (List ℕ)
  pub stops : StopsRun plan ops fault name p left
  pub counted : IsCounted fault p left

-- from here on all that is asked for is read, or a fault ends the run
pub record Reads (plan : Plan) (ops : List Automaton) (texts : Texts) (p : Point) : Type 0 where
  pub events : List Event
  pub judged : AreJudged plan ops events
  pub point : Point
  pub happen : Happen plan texts events p point
  pub ends : IsDone plan point ⊎ IsStopped plan ops point

-- what the existence of a run over streams rests on
pub record Existing (plan : Plan) (ops : List Automaton) : Type 0 where
  pub some : SomeStanding
  pub shown : AreShown
  pub verdict : AVerdictExists
  pub due : (w : Written) → IsValid w → PassesNone w → IsKept plan ops (described w) → NotNone (((text : List ℕ) × IsDue plan ops w text) ⊎ ((which : Limit) × IsOverLimit which plan ops w))

module _ (plan : Plan) (ops : List Automaton) (on : Existing plan ops) (texts : Texts) where
  done : (p : Point) → IsDone plan p → Reads plan ops texts p
  done p h = record { events = []; judged = tt; point = p; happen = refl; ends = inl h }

  behind_one : (e : Event) (p q : Point) → asks_on plan p.kept ≡ true → IsEventJudged plan ops e → EventLeads texts e p q → Reads plan ops texts q → Reads plan ops texts p
  behind_one e p q asks judged goes r = record { events = e ∷ r.events; judged = (judged, r.judged); point = r.point; happen = (asks, q, goes, r.happen); ends = r.ends }

  stopped : (p : Point) (s : Stream) (more : ℕ) → asks_on plan p.kept ≡ true → p.stream ≡ Some s → p.before + (length s.text + more) < MOST_BYTES
      → (f : RunFault) (left : List ℕ) → IsByText (end.Fault f) → (f ≡ fault.Limit limit.Bytes → ⊥) → StopsReading (λ which w. IsOverLimit which plan ops w) f (bytes_before s.text s.rest) s.rest left
      → Reads plan ops texts p
  stopped p s more asks is few f left by other h =
      let at : AtNamed (asks_on plan p.kept ≡ true) p s.name (Some left) (StopsReading (λ which w. IsOverLimit which plan ops w) f) =
      record { at = record { asks = asks; stream = s; is_open = is; now = left; told = refl; stands = h }; named = refl } in
      let here : IsStopped plan ops p = record {
        fault = f;
        by_text = by;
        name = s.name;
        left = Some left;
        stops = stops_where (asks_on plan p.kept ≡ true) (StopsReading (λ which w. IsOverLimit which plan ops w)) f s.name p (Some left) by at;
        counted = is_counted f p s left more other is few;
      } in
      record { events = []; judged = tt; point = p; happen = refl; ends = inr here }

  -- a limit is passed after reading
  passed : (p : Point) (s : Stream) (more : ℕ) → asks_on plan p.kept ≡ true → p.stream ≡ Some s → p.before + (length s.text + more) < MOST_BYTES
      → (which : Limit) (w : Written) (next : List ℕ) → IsGood (bytes_before s.text s.rest) s.rest w next → IsOverLimit which plan ops w → Reads plan ops texts p
  passed p s more asks is few which w next good h =
      stopped p s more asks is few (fault.Limit which) next tt (passed_other which (plan_passes which plan ops w h)) (inr (inr (record { automaton = w; whole = good.whole; holds = inr h })))

  -- an automaton that is good
  at_good : (p : Point) (s : Stream) (more : ℕ) → asks_on plan p.kept ≡ true → p.stream ≡ Some s → p.before + (length s.text + more) < MOST_BYTES
      → (w : Written) (next : List ℕ) → IsGood (bytes_before s.text s.rest) s.rest w next
      → ((kept : ℕ) → NotNone (Reads plan ops texts (read_on p s next kept)))
      → NotNone (Reads plan ops texts p)
  at_good p s more asks is few w next good deeper none = on.verdict plan ops (described w) by_verdict
    where
      due_or_over : IsKept plan ops (described w) → ((text : List ℕ) × IsDue plan ops w text) ⊎ ((which : Limit) × IsOverLimit which plan ops w) → ⊥
      due_or_over k (inl d) =
          deeper (p.kept + 1)
          (λ r. none (behind_one (Kept w d.0) p (read_on p s next (p.kept + 1)) asks (k, d.1) (record { stream = s; is_open = is; next = next; stands = good; few = omega (arith, few); to = refl }) r))
      due_or_over k (inr o) = none (passed p s more asks is few o.0 w next good o.1)

      by_verdict : (v : Verdict) → IsVerdict v plan ops (described w) → ⊥
      by_verdict verdict.Kept k = on.due w good.valid good.within k (due_or_over k)
      by_verdict verdict.Dropped d =
          deeper p.kept
          (λ r. none (behind_one (Dropped w) p (read_on p s next p.kept) asks d (record { stream = s; is_open = is; next = next; stands = good; few = omega (arith, few); to = refl }) r))
      by_verdict (verdict.Over which) o = none (passed p s more asks is few which w next good (record { valid = good.valid; within = good.within; over = inl o }))

  -- in an open stream
  at_rest : (p : Point) (s : Stream) (more : ℕ) → asks_on plan p.kept ≡ true → p.stream ≡ Some s → p.before + (length s.text + more) < MOST_BYTES
      → ((next : List ℕ) (kept : ℕ) → length next < length s.rest → NotNone (Reads plan ops texts (read_on p s next kept)))
      → NotNone (Reads plan ops texts (at_stream_end p s))
      → NotNone (Reads plan ops texts p)
  at_rest p s more asks is few deeper behind none = something_found (λ which w. IsOverLimit which plan ops w) (bytes_before s.text s.rest) s.rest on.some on.shown go
    where
      go : Found (λ which w. IsOverLimit which plan ops w) (bytes_before s.text s.rest) s.rest → ⊥
      go (OnlyBlanks h) = behind (λ r. none (behind_one Ended p (at_stream_end p s) asks tt (record { stream = s; is_open = is; blank = h; few = omega (arith, few); to = refl }) r))
      go (OneGood w next h) = at_good p s more asks is few w next h (λ kept. deeper next kept (whole_less (bytes_before s.text s.rest) s.rest w next h.whole)) none
      go (OneAborted next h) =
          deeper next p.kept (aborted_less (bytes_before s.text s.rest) s.rest next h)
          (λ r. none (behind_one (Skipped s.name) p (read_on p s next p.kept) asks tt
          (record { reads = record { stream = s; is_open = is; next = next; stands = h; few = omega (arith, few); to = refl }; named = refl }) r))
      go (OneRefused h) = none (stopped p s more asks is few h.fault h.left h.by_text h.other h.stops)

  -- no more automata are asked for, or more are
  asked_or_done : (p : Point) (b : Bool) → asks_on plan p.kept ≡ b → (asks_on plan p.kept ≡ true → NotNone (Reads plan ops texts p)) → NotNone (Reads plan ops texts p)
  asked_or_done p false e on none = none (done p (inl e))
  asked_or_done p true e on none = on e none

  -- what the names after the stream lead to
  abbrev Behind : List (List ℕ) → ℕ → Type 0
  Behind names more = (q : Point) → q.coming ≡ names → q.stream ≡ None → q.before + more < MOST_BYTES → NotNone (Reads plan ops texts q)

  in_stream : (n : ℕ) (p : Point) (s : Stream) (more : ℕ) → p.stream ≡ Some s → length s.rest ≤ n → p.before + (length s.text + more) < MOST_BYTES → Behind p.coming more
      → NotNone (Reads plan ops texts p)
  in_stream zero p s more is small few behind =
      asked_or_done p (asks_on plan p.kept) refl
      (λ asks. at_rest p s more asks is few (λ next kept l. absurd (omega (arith, l, small))) (behind (at_stream_end p s) refl refl (omega (arith, few))))
  in_stream (suc n) p s more is small few behind =
      asked_or_done p (asks_on plan p.kept) refl
      (λ asks.
      at_rest p s more asks is few
      (λ next kept l. in_stream n (read_on p s next kept) (record { name = s.name; text = s.text; rest = next }) more refl (omega (arith, l, small)) few behind)
      (behind (at_stream_end p s) refl refl (omega (arith, few))))

  pub in_streams : (names : List (List ℕ)) (p : Point) → p.coming ≡ names → p.stream ≡ None → p.before + size_of texts names < MOST_BYTES → NotNone (Reads plan ops texts p)
  in_streams [] p is closed few none = none (done p (inr (closed, is)))
  in_streams (name ∷ names) p is closed few none =
      let text = text_of texts name in
      let size : size_of texts (name ∷ names) ≡ length text + size_of texts names = sum_by-cons (λ (x : List ℕ). length (text_of texts x)) name names in
      let q = opened_at p names name text in
      asked_or_done p (asks_on plan p.kept) refl
      (λ asks stuck.
      in_stream (length text) q (record { name = name; text = text; rest = text }) (size_of texts names) refl (omega arith) (omega (arith, few, size))
      (λ r coming none_open l. in_streams names r coming none_open l)
      (λ r. stuck (behind_one (Opened name) p q asks tt (record { closed = closed; others = names; next = is; to = refl }) r)))
      none

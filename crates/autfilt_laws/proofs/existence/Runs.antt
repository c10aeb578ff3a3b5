-- There is a run over all texts that together have fewer bytes than the limit.
use Rattle.std.proofs.Common.{◌≡◌, ◌⊎◌, ℕ, ◌+◌, ◌<◌, ◌==◌, Bool, true, false, if◌then◌else◌, List, [], length, Option, refl, inl, inr, arith, subst}
use Rattle.aut_base.specs.declared.limit.TheConstants.{MOST_BYTES}
use Rattle.aut_io.specs.Outside.{Texts}
use Rattle.autfilt_laws.proofs.alike.Tallied.{IsTallied}
use Rattle.autfilt_run.specs.Run.{AreAllRead, EndsAt, end_of}
use Rattle.autfilt_run.specs.declared.ended.End.{End}
use Rattle.autfilt_run.specs.declared.ended.End.TheVariants as end
use Rattle.autfilt_laws.proofs.alike.OperandEnds.{IsThrough}
use Rattle.autfilt_laws.proofs.existence.Found.{AreShown}
use Rattle.autfilt_laws.proofs.existence.GoodOperands.{good_operands}
use Rattle.autfilt_laws.proofs.existence.InOperands.{IsStoppedThere, ReadsThere, in_files}
use Rattle.autfilt_laws.proofs.existence.InStreams.{Existing, IsStopped, Reads, in_streams}
use Rattle.autfilt_laws.specs.Runs.{EachIsDue, IsByText, IsEnded, Outcome, ARunExists, size_of, streams_from, texts_or}
use Rattle.autfilt_run.specs.Events.{Point, Tally, start_of, tally}
use Rattle.autfilt_run.specs.OperandEvents.{AreRead, OperandEvent, all_passed, operands_read}
use Rattle.autfilt_run.specs.Plans.{plan_streams}
use Rattle.autfilt_run.specs.Runs.{IsDone}
use Rattle.filter_plan.specs.Words.{operands}
use Rattle.filter_plan.specs.declared.plan.Plan.{Plan}
use Rattle.hoa_parser.specs.Standing.{SomeStanding}
use Rattle.plan_meaning.specs.Laws.{AVerdictExists}

-- an end at which all was read
abbrev IsOfAll : End → Type 0
IsOfAll end.Output = Unit {0}
IsOfAll end.NoneOutput = Unit {0}
IsOfAll end.Aborts = Unit {0}
IsOfAll _ = ⊥

one_of_three : (a b : Bool) → IsOfAll (if a then (if b then end.NoneOutput else end.Output) else end.Aborts)
one_of_three true true = tt
one_of_three true false = tt
one_of_three false b = tt

of_all : (t : Tally) → IsOfAll (end_of t)
of_all t = one_of_three (t.skipped == 0) (t.kept == 0)

module _ (plan : Plan) (texts : Texts) (left : Option (List ℕ)) (taken : List OperandEvent) (first : Point) (read : AreAllRead plan texts left taken first) where
  abbrev ReadsBehind : Type 0
  ReadsBehind = Reads plan (operands_read taken) (texts_or plan.made texts) (streams_from plan first)

  abbrev outcome : ReadsBehind → End → List ℕ → Option (List ℕ) → Outcome
  outcome r e name now = record { taken = taken; events = r.events; end = e; name = name; left = now }

  ended : (r : ReadsBehind) (e : End) (name : List ℕ) (now : Option (List ℕ)) → IsByText e → IsTallied e (length (all_passed taken)) r.events
      → EndsAt plan (operands_read taken) e name r.point now → IsEnded plan texts left (outcome r e name now)
  ended r e name now by tallied ends = record {
    by_text = by;
    ran = inr (record {
      point = first;
      read = read;
      judged = r.judged;
      tallied = tallied;
      runs = record { point = r.point; happen = r.happen; ends = ends; numbered = λ is counts. absurd (subst IsByText is by) };
    });
  }

  -- all was read
  ended_of_all : (r : ReadsBehind) (e : End) → IsOfAll e → e ≡ end_of (tally (length (all_passed taken)) r.events) → IsDone plan r.point
      → IsEnded plan texts left (outcome r e [] r.point.left)
  ended_of_all r end.Output all is h = ended r end.Output [] r.point.left tt (inr is) (h, refl)
  ended_of_all r end.NoneOutput all is h = ended r end.NoneOutput [] r.point.left tt (inr is) (h, refl)
  ended_of_all r end.Aborts all is h = ended r end.Aborts [] r.point.left tt (inr is) (h, refl)
  ended_of_all r end.Usage all is h = absurd all
  ended_of_all r (end.Fault f) all is h = absurd all

  some_end_of : (r : ReadsBehind) → IsDone plan r.point ⊎ IsStopped plan (operands_read taken) r.point → (o : Outcome) × IsEnded plan texts left o
  some_end_of r (inl h) =
      let t = tally (length (all_passed taken)) r.events in
      (outcome r (end_of t) [] r.point.left, ended_of_all r (end_of t) (of_all t) refl h)
  some_end_of r (inr h) = (outcome r (end.Fault h.fault) h.name h.left, ended r (end.Fault h.fault) h.name h.left h.by_text (inl (h.fault, refl)) (h.stops, h.counted))

-- a fault ended the run in the files of operands
stopped_before : (plan : Plan) (texts : Texts) (left : Option (List ℕ)) (taken : List OperandEvent) (p : Point) → AreRead texts taken (start_of (operands plan) left 0) p
    → (h : IsStoppedThere p) → IsEnded plan texts left (record { taken = taken; events = []; end = end.Fault h.fault; name = h.name; left = h.left })
stopped_before plan texts left taken p read h = record {
  by_text = h.by_text;
  ran = inl (record { fault = h.fault; ends = refl; none = refl; stops = record { point = p; read = read; stops = h.stops; counted = h.counted } });
}

-- how many bytes are left for the streams, up to the limit
abbrev spare : Plan → Texts → ℕ
spare plan texts = size_of (texts_or plan.made texts) (plan_streams plan)

pub a_run_exists : SomeStanding → AreShown → AVerdictExists → EachIsDue → ARunExists
a_run_exists some shown verdict due plan texts left few none =
    in_files some shown texts (spare plan texts) (operands plan) (start_of (operands plan) left 0) refl refl (omega (arith, few)) (λ r. go r r.ends)
  where
    go : (r : ReadsThere texts (spare plan texts) (start_of (operands plan) left 0))
        → (IsThrough r.point × (r.point.before + spare plan texts < MOST_BYTES)) ⊎ IsStoppedThere r.point → ⊥
    go r (inl h) =
        let read : AreAllRead plan texts left r.taken r.point = record { read = r.read; none_coming = h.0.none; none_open = h.0.closed } in
        let exists : Existing plan (operands_read r.taken) = record { some = some; shown = shown; verdict = verdict; due = due plan r.taken (good_operands plan texts left r.taken r.point read) } in
        in_streams plan (operands_read r.taken) exists (texts_or plan.made texts) (plan_streams plan) (streams_from plan r.point) refl refl h.1
        (λ x. let found = some_end_of plan texts left r.taken r.point read x x.ends in none found.0 found.1)
    go r (inr h) = none _ (stopped_before plan texts left r.taken r.point r.read h)

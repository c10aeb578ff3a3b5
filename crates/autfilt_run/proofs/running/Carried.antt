-- From the run of a plan to the run of the words of a command line.
use Rattle.std.proofs.Common.{◌≡◌, ℕ, ◌+◌, Bool, true, List, [], length, drop, Option, Some, None, Err, IsErrOf, refl, sym, ap, ◌∙◌, subst, inl, inr, arith}
use Rattle.std.proofs.lemmas.List.{drop_all, length-map, take_all}
use Rattle.aut_base.specs.Automaton.{Automaton}
use Rattle.aut_core.specs.SymbolicAutomata.{automaton_of}
use Rattle.aut_io.specs.Outside.{Texts}
use Rattle.aut_io.specs.Seen.{Seen, SinkSeen}
use Rattle.autfilt_run.specs.Asked.{AreRefused}
use Rattle.autfilt_run.specs.Ends.{ended_of}
use Rattle.autfilt_run.specs.Noted.{HasNoted, Notes}
use Rattle.autfilt_run.specs.Notes.{line_of}
use Rattle.autfilt_run.specs.Run.{AreAllRead, EndsBy, FailsInOperands, GoesOverAll, Runs, RunsOver, RunsOverAs, RunsOverMade}
use Rattle.autfilt_run.specs.declared.ended.End.{End}
use Rattle.autfilt_run.specs.declared.ended.End.TheVariants as end
use Rattle.autfilt_run.specs.declared.ended.Ended.{Ended}
use Rattle.autfilt_run.specs.inner.Running.{Carries, FailsPreparing, HasPrepared, IsPrepared, passed_noted}
use Rattle.autfilt_run.proofs.printing.Gains.{nothing}
use Rattle.autfilt_run.proofs.turns.Counted.{counted}
use Rattle.autfilt_run.proofs.turns.Openings.{tried_none}
use Rattle.autfilt_run.proofs.turns.Stepping.{is_closed}
use Rattle.autfilt_run.specs.Events.{Event, Point, start_of}
use Rattle.made_stream.specs.Made.{seen_of_made}
use Rattle.autfilt_run.specs.OperandEvents.{all_passed, operands_read}
use Rattle.autfilt_run.specs.Points.{open_count, operands_in}
use Rattle.autfilt_run.specs.Preparing.{opened_names}
use Rattle.autfilt_run.specs.declared.fault.RunFault.TheVariants as fault
use Rattle.autfilt_run.specs.declared.session.Session.{Session}
use Rattle.filter_plan.specs.Words.{IsPlan, operands}
use Rattle.filter_plan.specs.declared.fault.UsageFault.{UsageFault}
use Rattle.filter_plan.specs.declared.fault.UsageFault.TheVariants as usage
use Rattle.filter_plan.specs.declared.plan.Plan.{Plan}

-- before anything is noted
pub nothing_noted : (a : SinkSeen) → HasNoted [] true a a
nothing_noted a = (nothing a.written, refl)

-- ---- the operands before the streams

-- what was said of the session after preparing holds of what was read
of_prepared : (R : Plan → List Automaton → ℕ → Type 0) (plan : Plan) (ready : Session) (s m : Seen) (k l : SinkSeen) (noting : Bool) → (h : HasPrepared plan ready s m k l noting)
    → R ready.plan (operands_in ready) ready.skipped
    → R plan (operands_read h.taken) (length (all_passed h.taken))
of_prepared R plan ready s m k l noting h r =
    subst (λ (n : ℕ). R plan (operands_read h.taken) n) h.skipped
    (subst (λ (ops : List Automaton). R plan ops ready.skipped) h.operands_are (subst (λ (x : Plan). R x (operands_in ready) ready.skipped) h.same_plan r))

none_to_come : (ready : Session) → length ready.operands ≡ length (operands ready.plan) → drop (length ready.operands + open_count ready.is_open) (operands ready.plan) ≡ []
none_to_come ready all = drop_all (length ready.operands + open_count ready.is_open) (operands ready.plan) (omega (arith, all))

all_named : (ready : Session) → length ready.operands ≡ length (operands ready.plan) → opened_names ready ≡ operands ready.plan
all_named ready all = take_all (length ready.operands + open_count ready.is_open) (operands ready.plan) (omega (arith, all))

-- the point of the run after all operands were read
stands_behind : (plan : Plan) (ready : Session) (s m : Seen) (k l : SinkSeen) (noting : Bool) (texts : Texts) → s.texts ≡ Some texts → (h : IsPrepared plan ready s m k l noting)
    → (p : Point) × AreAllRead plan texts s.left h.prepared.taken p × (p.left ≡ m.left) × (p.before ≡ ready.lexer.taken)
stands_behind plan ready s m k l noting texts told h =
    let a = h.prepared.happened texts told in
    let closed = is_closed ready m.left a.0 a.2.at h.closed in
    (a.0, record { read = a.1; none_coming = a.2.coming ∙ none_to_come ready (ready.all_read h.stage); none_open = closed.is }, a.2.at.left_is, sym closed.taken)

goes_over : (plan : Plan) (ready : Session) (e : End) (events : List Event) (name : List ℕ) (s m t : Seen) (o q k l : SinkSeen) (noting : Bool) → (h : IsPrepared plan ready s m k l noting)
    → RunsOverAs plan.made plan (operands_read h.prepared.taken) (length (all_passed h.prepared.taken)) ready.lexer.taken e events name m t o q
    → GoesOverAll plan e h.prepared.taken events name s t o q
goes_over plan ready e events name s m t o q k l noting h runs = record {
  mid = m;
  before = ready.lexer.taken;
  number = ap length (sym h.prepared.operands_are) ∙ length-map ready.operands automaton_of ∙ ready.all_read h.stage ∙ ap (λ (x : Plan). length (operands x)) h.prepared.same_plan;
  prepared = λ texts told. stands_behind plan ready s m k l noting texts told h;
  texts = h.prepared.texts;
  named = sym h.prepared.named ∙ (all_named ready (ready.all_read h.stage) ∙ ap operands h.prepared.same_plan);
  openings = h.prepared.openings;
  runs = runs;
}

-- a run over the inputs
pub ends_by : (words : List (List ℕ)) (result : Ended) (plan : Plan) (ready : Session) (e : End) (s m t : Seen) (o q k l j : SinkSeen) (noting : Bool) → result ≡ ended_of e
    → IsPlan words plan → plan.made ≡ None → IsPrepared plan ready s m k l noting
    → Carries ready noting e m t o q l j → EndsBy words result s t o q k j
ends_by words result plan ready e s m t o q k l j noting is asks made h c =
    let runs = of_prepared (λ x ops n. Runs x ops n ready.lexer.taken e c.events c.name m t o q) plan ready s m k l noting h.prepared c.runs in
    let over = subst (λ (x : Option ℕ). RunsOverAs x plan (operands_read h.prepared.taken) (length (all_passed h.prepared.taken)) ready.lexer.taken e c.events c.name m t o q) (sym made) runs in
    record {
      end = e;
      shown = is;
      taken = h.prepared.taken;
      events = c.events;
      name = c.name;
      refused = λ r. absurd (r plan asks);
      runs = λ p a. (plan, asks, inr (goes_over plan ready e c.events c.name s m t o q k l noting h over));
      noted = c.noted k (passed_noted (all_passed h.prepared.taken)) h.prepared.noted;
    }

-- a run over the generated stream
pub ends_made : (words : List (List ℕ)) (result : Ended) (plan : Plan) (ready : Session) (n : ℕ) (e : End) (s m a t : Seen) (o q k l j : SinkSeen) (noting : Bool) → result ≡ ended_of e
    → IsPlan words plan → plan.made ≡ Some n
    → a ≡ seen_of_made (record { count = n; left = []; openings = 0 }) → IsPrepared plan ready s m k l noting → Carries ready noting e a t o q l j → EndsBy words result s m o q k j
ends_made words result plan ready n e s m a t o q k l j noting is asks made first h c =
    let runs = of_prepared (λ x ops n. Runs x ops n ready.lexer.taken e c.events c.name a t o q) plan ready s m k l noting h.prepared c.runs in
    let own : RunsOverMade n plan (operands_read h.prepared.taken) (length (all_passed h.prepared.taken)) ready.lexer.taken e c.events c.name m m o q = record {
      untouched = refl;
      made = t;
      runs = subst (λ (x : Seen). Runs plan (operands_read h.prepared.taken) (length (all_passed h.prepared.taken)) ready.lexer.taken e c.events c.name x t o q) first runs;
    } in
    let over = subst (λ (x : Option ℕ). RunsOverAs x plan (operands_read h.prepared.taken) (length (all_passed h.prepared.taken)) ready.lexer.taken e c.events c.name m m o q) (sym made) own in
    record {
      end = e;
      shown = is;
      taken = h.prepared.taken;
      events = c.events;
      name = c.name;
      refused = λ r. absurd (r plan asks);
      runs = λ p a. (plan, asks, inr (goes_over plan ready e c.events c.name s m m o q k l noting h over));
      noted = c.noted k (passed_noted (all_passed h.prepared.taken)) h.prepared.noted;
    }

-- a fault while operands were read
pub ends_failed : (words : List (List ℕ)) (result : Ended) (plan : Plan) (e : End) (s m : Seen) (o k j : SinkSeen) → result ≡ ended_of e → IsPlan words plan → FailsPreparing plan e s m k j
    → EndsBy words result s m o o k j
ends_failed words result plan e s m o k j is asks h = record {
  end = e;
  shown = is;
  taken = h.taken;
  events = [];
  name = h.name;
  refused = λ r. absurd (r plan asks);
  runs = λ p a. (plan, asks, inl (record { fault = h.fault; ends = h.ends; no_write = h.no_write; happened = h.happened; named = h.named; openings = h.openings; none = refl; output = refl }));
  noted = h.noted;
}

-- ---- before a plan is known

pub ends_refused : (words : List (List ℕ)) (result : Ended) (e : End) (s t : Seen) (o q k j : SinkSeen) → result ≡ ended_of e → e ≡ end.Usage → AreRefused words
    → Notes (line_of end.Usage []) k j → EndsBy words result s t o q k j
ends_refused words result e s t o q k j is usage refused n = record {
  end = e;
  shown = is;
  taken = [];
  events = [];
  name = [];
  refused = λ r. (refl, refl);
  runs = λ p a. absurd (refused p a);
  noted = subst (λ (x : End). Notes (line_of x []) k j) (sym usage) n;
}

-- memory was wanting before anything was done
wanting : (plan : Plan) (s : Seen) (o : SinkSeen) → FailsInOperands plan (end.Fault fault.Memory) [] [] [] s s o o
wanting plan s o = record {
  fault = fault.Memory;
  ends = refl;
  no_write = λ x. cc;
  happened = λ texts told. record {
    point = start_of (operands plan) s.left 0;
    read = refl;
    stops = inl refl;
    counted = counted fault.Memory (start_of (operands plan) s.left 0) s.left (omega arith) tt;
  };
  named = (0, refl);
  openings = tried_none (end.Fault fault.Memory) _ s s (λ is. cc) refl;
  none = refl;
  output = refl;
}

pub ends_wanting : (words : List (List ℕ)) (result : Ended) (e : End) (s : Seen) (o k j : SinkSeen) → result ≡ ended_of e → e ≡ end.Fault fault.Memory
    → Notes (line_of (end.Fault fault.Memory) []) k j → EndsBy words result s s o o k j
ends_wanting words result e s o k j is memory n = record {
  end = e;
  shown = is;
  taken = [];
  events = [];
  name = [];
  refused = λ r. (refl, refl);
  runs = λ plan asks. (plan, asks, subst (λ (x : End). RunsOver plan x [] [] [] s s o o) (sym memory) (inl (wanting plan s o)));
  noted = subst (λ (x : End). Notes (line_of x []) k j) (sym memory) n;
}

pub was_refused : (words : List (List ℕ)) (f : UsageFault) → f ≡ usage.Usage → (IsErrOf {T = Plan} (Err f) usage.Usage → AreRefused words) → AreRefused words
was_refused words f is h =
    let P : UsageFault → Type 0 = λ x. (IsErrOf {T = Plan} (Err x) usage.Usage → AreRefused words) → AreRefused words in
    subst P (sym is) (λ k. k refl) h

-- The events of a run so far and another one, and the end.
use Rattle.std.proofs.Common.{◌≡◌, ℕ, ◌+◌, Bool, true, false, List, [], ◌∷◌, ◌++◌, drop, length, take, Option, refl, sym, ap, ◌∙◌, subst, append_assoc, append-nil, fold}
use Rattle.std.proofs.lemmas.List.{length-append}
use Rattle.std.specs.Prelude.{map}
use Rattle.aut_base.proofs.lists.AllByRecursion.{AllByRecursion-push}
use Rattle.aut_base.specs.Automaton.{Automaton}
use Rattle.aut_core.specs.SymbolicAutomata.{SymbolicAutomaton, automaton_of}
use Rattle.aut_io.specs.Outside.{Gains}
use Rattle.aut_io.specs.Seen.{Seen, SinkSeen}
use Rattle.autfilt_run.proofs.running.Noting.{notes_nothing}
use Rattle.autfilt_run.proofs.running.Stepped.{Stepped}
use Rattle.autfilt_run.proofs.running.Stepping.{happen_push}
use Rattle.autfilt_run.specs.Noted.{HasNoted}
use Rattle.autfilt_run.specs.Run.{noted_of}
use Rattle.autfilt_run.specs.declared.ended.End.{End}
use Rattle.autfilt_run.specs.inner.Running.{AreCalm, Carries, FinishesRun, HasRunEvents, IsFresh, all_noted}
use Rattle.autfilt_run.proofs.printing.Gains.{both, nothing}
use Rattle.autfilt_run.proofs.turns.Openings.{opened_as, opened_then}
use Rattle.autfilt_run.specs.Events.{Event, Tally, IsEventJudged, Point, all_written, tally_with, open_by, opened_stream, opened_streams, start_of, written_of}
use Rattle.autfilt_run.specs.Plans.{asks_on, count_text, plan_streams}
use Rattle.autfilt_run.specs.Points.{StandsInStreams, operands_in}
use Rattle.autfilt_run.specs.Turns.{Progress, progress}
use Rattle.autfilt_run.specs.declared.session.Session.{Session}
use Rattle.filter_plan.specs.declared.plan.Plan.{Plan}
use Rattle.plan_meaning.specs.Complements.{AreComplementsKept}
use Rattle.plan_meaning.specs.declared.complements.Complements.{Complements}

written_push : (events : List Event) (event : Event) → all_written (events ++ event ∷ []) ≡ all_written events ++ written_of event
written_push [] event = append-nil (written_of event)
written_push (e ∷ es) event = ap (λ x. written_of e ++ x) (written_push es event) ∙ sym (append_assoc (written_of e) (all_written es) (written_of event))

pub noted_push : (events : List Event) (event : Event) → all_noted (events ++ event ∷ []) ≡ all_noted events ++ noted_of event
noted_push [] event = append-nil (noted_of event)
noted_push (e ∷ es) event = ap (λ x. noted_of e ++ x) (noted_push es event) ∙ sym (append_assoc (noted_of e) (all_noted es) (noted_of event))

pub opened_streams_push : (events : List Event) (event : Event) → opened_streams (events ++ event ∷ []) ≡ opened_streams events ++ opened_stream event
opened_streams_push [] event = append-nil (opened_stream event)
opened_streams_push (e ∷ es) event = ap (λ x. opened_stream e ++ x) (opened_streams_push es event) ∙ sym (append_assoc (opened_stream e) (opened_streams es) (opened_stream event))

pub opened_push : (events : List Event) (event : Event) → length (opened_streams events) + length (opened_stream event) ≡ length (opened_streams (events ++ event ∷ []))
opened_push events event = sym (length-append (opened_streams events) (opened_stream event)) ∙ ap length (sym (opened_streams_push events event))

tally_push : (t : Tally) (events : List Event) (event : Event) → fold tally_with t (events ++ event ∷ []) ≡ tally_with (fold tally_with t events) event
tally_push t [] event = refl
tally_push t (e ∷ es) event = tally_push (tally_with t e) es event

pub gains_as : (a b : Option (List ℕ)) (p q : List ℕ) → p ≡ q → Gains a b p → Gains a b q
gains_as a b p q e g = subst (λ (x : List ℕ). Gains a b x) e g

pub noted_as : (a b : SinkSeen) (p q : List ℕ) (noting : Bool) → p ≡ q → HasNoted p noting a b → HasNoted q noting a b
noted_as a b p q noting e h = subst (λ (x : List ℕ). HasNoted x noting a b) e h

pub calm_then : (s m t : Seen) (o p q : SinkSeen) → AreCalm s m o p → AreCalm m t p q → AreCalm s t o q
calm_then s m t o p q one two = record { opens = two.opens ∙ one.opens; reads = two.reads ∙ one.reads; writes = two.writes ∙ one.writes }

-- what is said of the plan and operands of a session holds of those of another with the same ones
pub of_fresh : (P : Plan → List Automaton → Type 0) (fresh s : Session) → s.plan ≡ fresh.plan → s.operands ≡ fresh.operands → P s.plan (operands_in s) → P fresh.plan (operands_in fresh)
of_fresh P fresh s plan operands h = subst (λ (x : Plan). P x (operands_in fresh)) plan (subst (λ (x : List Automaton). P s.plan x) (ap (λ cores. map automaton_of cores) operands) h)

pub asks_at : (s : Session) (left : Option (List ℕ)) (p : Point) → StandsInStreams s left p → asks_on s.plan s.kept ≡ true → asks_on s.plan p.kept ≡ true
asks_at s left p stands asks = subst (λ (k : ℕ). asks_on s.plan k ≡ true) (sym stands.at.kept) asks

pub asks_of : (fresh s : Session) (left : Option (List ℕ)) (p : Point) → s.plan ≡ fresh.plan → StandsInStreams s left p → asks_on s.plan s.kept ≡ true → asks_on fresh.plan p.kept ≡ true
asks_of fresh s left p plan stands asks = subst (λ (x : Plan). asks_on x p.kept ≡ true) plan (asks_at s left p stands asks)

-- what was noted after other notes
abbrev pub Adds : List ℕ → Bool → Bool → SinkSeen → SinkSeen → Type 0
Adds added noting noting' k j = (sink : SinkSeen) (text : List ℕ) → HasNoted text noting sink k → HasNoted (text ++ added) noting' sink j

pub adds_nothing : (noting : Bool) (k : SinkSeen) → Adds [] noting noting k k
adds_nothing noting k sink text h = notes_nothing sink k text noting h

open_then : (before : Bool) (events others : List Event) → fold open_by before (events ++ others) ≡ fold open_by (fold open_by before events) others
open_then before [] others = refl
open_then before (e ∷ es) others = open_then (open_by before e) es others

-- another event
pub run_more : (event : Event) (fresh old new : Session) (s m t : Seen) (o p q k l j : SinkSeen) (first noting noting' : Bool) → new.plan ≡ old.plan → new.operands ≡ old.operands
    → asks_on old.plan old.kept ≡ true
    → HasRunEvents fresh old s m o p k l first noting → Stepped event old new m t p q → Adds (noted_of event) noting noting' l j → HasRunEvents fresh new s t o q k j first noting'
run_more event fresh old new s m t o p q k l j first noting noting' plan operands asks h step notes = record {
  events = h.events ++ event ∷ [];
  same_plan = plan ∙ h.same_plan;
  same_operands = operands ∙ h.same_operands;
  judged = AllByRecursion-push (IsEventJudged fresh.plan (operands_in fresh)) h.events event h.judged (of_fresh (λ x ops. IsEventJudged x ops event) fresh old h.same_plan h.same_operands step.judged);
  happened = λ texts told.
      let r = h.happened texts told in
      let on = step.goes texts (h.texts ∙ told) r.point r.stands in
      record {
        point = on.point;
        happen = happen_push fresh.plan texts h.events event (start_of (plan_streams fresh.plan) s.left fresh.lexer.taken) r.point on.point r.happen
            (asks_of fresh old m.left r.point h.same_plan r.stands asks) on.goes;
        stands = on.stands;
      };
  gains = gains_as o.written q.written _ _ (sym (written_push h.events event)) (both o.written p.written q.written (all_written h.events) (written_of event) h.gains step.gains);
  noted = λ sink text before.
      noted_as sink j _ _ noting' (append_assoc text (all_noted h.events) (noted_of event) ∙ ap (λ x. text ++ x) (sym (noted_push h.events event)))
      (notes sink (text ++ all_noted h.events) (h.noted sink text before));
  named = opened_streams_push h.events event ∙ (ap (λ xs. xs ++ opened_stream event) h.named
      ∙ sym (subst (λ (p : Plan). take new.opened (plan_streams p) ≡ take old.opened (plan_streams p) ++ opened_stream event) h.same_plan step.named));
  still = step.still ∙ (ap (λ (b : Bool). open_by b event) h.still ∙ sym (open_then false h.events (event ∷ [])));
  openings = opened_as _ _ s t (opened_push h.events event) (opened_then (length (opened_streams h.events)) (length (opened_stream event)) s m t h.openings step.openings);
  tallied = tally_push _ h.events event ∙ ap (λ (x : Tally). tally_with x event) h.tallied ∙ step.tallied;
  calm = calm_then s m t o p q h.calm step.calm;
  texts = step.texts ∙ h.texts;
}

-- nothing happened yet
pub run_none : (fresh : Session) (s : Seen) (o k : SinkSeen) (first : Bool) → IsFresh fresh → HasRunEvents fresh fresh s s o o k k first first
run_none fresh s o k first is = record {
  events = [];
  same_plan = refl;
  same_operands = refl;
  judged = tt;
  happened = λ texts told. record {
    point = start_of (plan_streams fresh.plan) s.left fresh.lexer.taken;
    happen = refl;
    stands = record {
      coming = ap (λ (n : ℕ). drop n (plan_streams fresh.plan)) (sym is.opened);
      at = record { kept = sym is.kept; left_is = refl; stream = (is.is_closed, refl) };
    };
  };
  gains = nothing o.written;
  noted = adds_nothing first k;
  tallied = ap (λ (n : ℕ). record { kept = n; skipped = fresh.skipped }) (sym is.kept);
  named = ap (λ (n : ℕ). take n (plan_streams fresh.plan)) (sym is.opened);
  still = is.is_closed;
  openings = refl;
  calm = record { opens = refl; reads = refl; writes = refl };
  texts = refl;
}

-- ---- the end

pub carries_as : (fresh : Session) (first : Bool) (e d : End) (s t : Seen) (o q k j : SinkSeen) → e ≡ d → Carries fresh first d s t o q k j → Carries fresh first e s t o q k j
carries_as fresh first e d s t o q k j is h = subst (λ (x : End). Carries fresh first x s t o q k j) (sym is) h

-- what is written at the end is what the session at its end asks for
pub finish_as : (e : End) (old new : Session) (r q : SinkSeen) → new.plan ≡ old.plan → progress new ≡ progress old
    → FinishesRun e (count_text new.plan new.kept) (record { kept = new.kept; skipped = new.skipped }) r q
    → FinishesRun e (count_text old.plan old.kept) (record { kept = old.kept; skipped = old.skipped }) r q
finish_as e old new r q plan done h =
    let kept : new.kept ≡ old.kept = ap (λ (x : Progress). x.kept) done in
    let skipped : new.skipped ≡ old.skipped = ap (λ (x : Progress). x.skipped) done in
    let A : Plan → Type 0 = λ x. FinishesRun e (count_text x new.kept) (record { kept = new.kept; skipped = new.skipped }) r q in
    let B : ℕ → Type 0 = λ n. FinishesRun e (count_text old.plan n) (record { kept = n; skipped = new.skipped }) r q in
    let C : ℕ → Type 0 = λ n. FinishesRun e (count_text old.plan old.kept) (record { kept = old.kept; skipped = n }) r q in
    subst C skipped (subst B kept (subst A plan h))

-- the stored complements stay right while the plan and its operands stay
pub kept_as : (old new : Session) (cs : Complements) → new.plan ≡ old.plan → new.operands ≡ old.operands → AreComplementsKept old.plan (operands_in old) cs
    → AreComplementsKept new.plan (operands_in new) cs
kept_as old new cs plan operands kept =
    subst (λ (ops : List SymbolicAutomaton). AreComplementsKept new.plan (map automaton_of ops) cs) (sym operands) (subst (λ (p : Plan). AreComplementsKept p (operands_in old) cs) (sym plan) kept)

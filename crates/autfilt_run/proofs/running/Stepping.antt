-- One step of a session, as an event of the run.
use Rattle.std.proofs.Common.{◌≡◌, ℕ, suc, ◌+◌, true, List, [], ◌∷◌, ◌++◌, drop, Option, Some, Ok, refl, sym, ap, ◌∙◌, subst, arith}
use Rattle.aut_io.specs.Outside.{Texts}
use Rattle.aut_io.specs.Seen.{Opens, Seen}
use Rattle.autfilt_run.proofs.turns.Stepping.{GoesTo, is_closed, opens_stream, rest_from}
use Rattle.autfilt_run.specs.Events.{Event, EventLeads, Happen, OpensStream, Point}
use Rattle.autfilt_run.specs.Plans.{asks_on, plan_streams}
use Rattle.autfilt_run.specs.Points.{StandsInStreams, name_in}
use Rattle.autfilt_run.specs.Runs.{WantsStream}
use Rattle.autfilt_run.specs.Turns.{BeginsText, IsOpening}
use Rattle.autfilt_run.specs.declared.session.Session.{Session}
use Rattle.filter_plan.specs.declared.plan.Plan.{Plan}

-- the events so far, and another one
pub happen_push : (plan : Plan) (texts : Texts) (events : List Event) (event : Event) (p m q : Point) → Happen plan texts events p m → asks_on plan m.kept ≡ true → EventLeads texts event m q
    → Happen plan texts (events ++ event ∷ []) p q
happen_push plan texts [] event p m q h asks goes =
    let P : Point → Type 0 = λ x. Happen plan texts (event ∷ []) x q in
    subst P (sym h) (asks, q, goes, refl)
happen_push plan texts (e ∷ es) event p m q h asks goes = (h.0, h.1, h.2, happen_push plan texts es event h.1 m q h.3 asks goes)

-- The session goes to another point in the streams.
pub record GoesOn (P : Point → Type 0) (new : Session) (left : Option (List ℕ)) : Type 0 where
  pub point : Point
  pub goes : P point
  pub stands : StandsInStreams new left point

-- the streams that are still to be opened
coming_as : (old new : Session) (n : ℕ) → new.plan ≡ old.plan → new.opened ≡ n → drop n (plan_streams old.plan) ≡ drop new.opened (plan_streams new.plan)
coming_as old new n plan opened = ap (λ (k : ℕ). drop k (plan_streams old.plan)) (sym opened) ∙ ap (λ (p : Plan). drop new.opened (plan_streams p)) (sym plan)

-- where no stream is opened
pub stands_in_same_streams : (P : Point → Type 0) (old new : Session) (left left' : Option (List ℕ)) (p : Point) → new.plan ≡ old.plan → new.opened ≡ old.opened → StandsInStreams old left p
    → GoesTo P p.coming new left' → GoesOn P new left'
stands_in_same_streams P old new left left' p plan opened stands go = record {
  point = go.point;
  goes = go.goes;
  stands = record { coming = go.comes ∙ stands.coming ∙ coming_as old new old.opened plan opened; at = go.at };
}

next_is : (old : Session) (left : Option (List ℕ)) (p : Point) (name : List ℕ) → StandsInStreams old left p → IsOpening old name → p.coming ≡ name ∷ drop (suc old.opened) (plan_streams old.plan)
next_is old left p name stands opening = stands.coming ∙ rest_from (plan_streams old.plan) old.opened name opening.named

-- no stream is open, and the next one has this name
pub wants_stream : (on : Type 0) (old : Session) (left : Option (List ℕ)) (p : Point) (name : List ℕ) → StandsInStreams old left p → IsOpening old name → on → WantsStream on p name
wants_stream on old left p name stands opening asks = record {
  asks = asks;
  closed = (is_closed old left p stands.at opening.is_closed).is;
  others = drop (suc old.opened) (plan_streams old.plan);
  next = next_is old left p name stands opening;
}

next_place : (k n : ℕ) → n ≡ k + 1 → n ≡ suc k
next_place k n h = omega (arith, h)

pub opens_next : (texts : Texts) (old new : Session) (s t : Seen) (p : Point) (name : List ℕ) → s.texts ≡ Some texts → StandsInStreams old s.left p → IsOpening old name → Opens s name (Ok tt) t
    → BeginsText old new → name_in new ≡ name
    → new.plan ≡ old.plan → new.opened ≡ old.opened + 1 → new.is_open ≡ true → new.kept ≡ old.kept → GoesOn (λ q. OpensStream texts name p q) new t.left
opens_next texts old new s t p name told stands opening opens begins named plan opened opened_so kept =
    let go = opens_stream texts old new s t p name (drop (suc old.opened) (plan_streams old.plan)) told stands.at opening.is_closed (next_is old s.left p name stands opening) opens begins
    named opened_so kept in
    record { point = go.point; goes = go.goes; stands = record { coming = go.comes ∙ coming_as old new (suc old.opened) plan (next_place old.opened new.opened opened); at = go.at } }

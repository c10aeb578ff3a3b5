-- The texts alone determine a run.
use Rattle.std.proofs.Common.{◌≡◌, ◌⊎◌, ℕ, List, Option, sym, ap, ◌∙◌, subst, inl, inr, length}
use Rattle.aut_io.specs.Outside.{Texts}
use Rattle.autfilt_run.specs.Notes.{line_of}
use Rattle.autfilt_laws.proofs.alike.Tallied.{IsTallied}
use Rattle.autfilt_run.specs.Run.{AreAllRead, EndsAt}
use Rattle.autfilt_run.specs.declared.ended.End.{End}
use Rattle.autfilt_run.specs.declared.ended.End.TheVariants as end
use Rattle.autfilt_laws.proofs.alike.EndPlaces.{IsOnePlace, one_line_about, one_place_before, one_place_in_streams}
use Rattle.autfilt_laws.proofs.alike.Ends.{Ends, alike, ends_at, ends_like, same_events}
use Rattle.autfilt_laws.proofs.alike.Full.{IsFitted, fitted_happen, fitted_read, fitted_start}
use Rattle.autfilt_laws.proofs.alike.Like.{are_same, none_like}
use Rattle.autfilt_laws.proofs.alike.OperandEnds.{IsStoppedIn, IsThrough, not_through, one_fault, same_operands, stopped_there}
use Rattle.autfilt_laws.proofs.alike.Verdicts.{AreOne}
use Rattle.autfilt_laws.specs.Runs.{AreLike, AreSame, EndsBefore, EndsInStreams, IsByText, RunsEndAlike, Outcome, left_or, streams_from, texts_or}
use Rattle.autfilt_run.specs.Events.{AreJudged, Happen, Point, start_of}
use Rattle.autfilt_run.specs.OperandEvents.{OperandEvent, all_passed, operands_read}
use Rattle.autfilt_run.specs.Plans.{plan_streams}
use Rattle.autfilt_run.specs.Runs.{IsCounted, StopsInOperands}
use Rattle.autfilt_run.specs.declared.fault.RunFault.{RunFault}
use Rattle.filter_plan.specs.Words.{operands}
use Rattle.filter_plan.specs.declared.plan.Plan.{Plan}
use Rattle.hoa_parser.specs.Standing.{OneStanding}

fitted_before : (plan : Plan) (texts : Texts) (left : Option (List ℕ)) (o : Outcome) → (h : EndsBefore plan texts left o) → IsFitted h.stops.point
fitted_before plan texts left o h = fitted_read texts o.taken (start_of (operands plan) left 0) h.stops.point (fitted_start (operands plan) left 0) h.stops.read

pub is_stopped : (plan : Plan) (texts : Texts) (left : Option (List ℕ)) (o : Outcome) → IsByText o.end → (h : EndsBefore plan texts left o)
    → IsStoppedIn h.stops.point h.fault
is_stopped plan texts left o by h =
    stopped_there h.fault o.name h.stops.point o.left (subst IsByText h.ends by) (fitted_before plan texts left o h) h.stops.stops h.stops.counted

through : (plan : Plan) (texts : Texts) (left : Option (List ℕ)) (taken : List OperandEvent) (p : Point) → AreAllRead plan texts left taken p → IsThrough p
through plan texts left taken p h = record { closed = h.none_open; none = h.none_coming }

-- all that two runs have in common
all_same : (plan : Plan) (a b : Outcome) → a.taken ≡ b.taken → AreLike plan a.events b.events → a.end ≡ b.end
    → IsOnePlace a.end a.name b.name a.left b.left → AreSame plan a b
all_same plan a b taken like ends place = record {
  operands = taken;
  streams = like;
  texts = λ decides. are_same plan a.events b.events decides like;
  ends = ends;
  name = place.name;
  line = one_line_about a.end a.name b.name place.name ∙ ap (λ (e : End). line_of e b.name) ends;
  left = place.left;
}

-- ---- both in the files of operands

both_before : OneStanding → (plan : Plan) (texts : Texts) (left : Option (List ℕ)) (a b : Outcome) → IsByText a.end → IsByText b.end
    → EndsBefore plan texts left a → EndsBefore plan texts left b → AreSame plan a b
both_before one plan texts left a b x y s t =
    let p = s.stops.point in
    let q = t.stops.point in
    let h = is_stopped plan texts left a x s in
    let k = is_stopped plan texts left b y t in
    let start = start_of (operands plan) left 0 in
    let same = same_operands one texts a.taken b.taken start p q (fitted_start (operands plan) left 0) s.stops.read t.stops.read (inl (s.fault, h)) (inl (t.fault, k)) in
    let fault = one_fault one p s.fault t.fault h
    (subst (λ (z : Point). IsStoppedIn z t.fault) (sym same.1) k) in
    let here = subst (λ (z : Point). StopsInOperands t.fault b.name z b.left) (sym same.1) t.stops.stops in
    let stops = subst (λ (f : RunFault). StopsInOperands f b.name p b.left) (sym fault) here in
    let count = subst (λ (f : RunFault). IsCounted f p b.left) (sym fault) (subst (λ (z : Point). IsCounted t.fault z b.left) (sym same.1) t.stops.counted) in
    let place =
    one_place_before one s.fault p a.name b.name a.left b.left (subst IsByText s.ends x) (fitted_before plan texts left a s) s.stops.stops s.stops.counted stops count in
    all_same plan a b same.0 (none_like plan a.events b.events s.none t.none) (s.ends ∙ ap end.Fault fault ∙ sym t.ends)
    (subst (λ (e : End). IsOnePlace e a.name b.name a.left b.left) (sym s.ends) place)

-- one in the files of operands, one in the streams

not_mixed : OneStanding → (plan : Plan) (texts : Texts) (left : Option (List ℕ)) (a b : Outcome) → IsByText a.end
    → EndsBefore plan texts left a → EndsInStreams plan texts left b → ⊥
not_mixed one plan texts left a b x s t =
    let p = s.stops.point in
    let h = is_stopped plan texts left a x s in
    let k = through plan texts left b.taken t.point t.read in
    let start = start_of (operands plan) left 0 in
    let same = same_operands one texts a.taken b.taken start p t.point (fitted_start (operands plan) left 0) s.stops.read t.read.read (inl (s.fault, h)) (inr k) in
    not_through p s.fault h (subst IsThrough (sym same.1) k)

-- ---- both in the streams

-- the end of a run in the streams, with the operands that were taken before
record StreamsEnd (plan : Plan) (texts : Texts) (taken : List OperandEvent) (first : Point) (o : Outcome) : Type 0 where
  point : Point
  judged : AreJudged plan (operands_read taken) o.events
  happen : Happen plan (texts_or plan.made texts) o.events (streams_from plan first) point
  tallied : IsTallied o.end (length (all_passed taken)) o.events
  ends : EndsAt plan (operands_read taken) o.end o.name point o.left

streams_end : (plan : Plan) (texts : Texts) (left : Option (List ℕ)) (o : Outcome) → (h : EndsInStreams plan texts left o) → StreamsEnd plan texts o.taken h.point o
streams_end plan texts left o h = record { point = h.runs.point; judged = h.judged; happen = h.runs.happen; tallied = h.tallied; ends = h.runs.ends }

fitted_behind : (plan : Plan) (texts : Texts) (taken : List OperandEvent) (first : Point) (o : Outcome) → (s : StreamsEnd plan texts taken first o) → IsFitted s.point
fitted_behind plan texts taken first o s =
    fitted_happen plan (texts_or plan.made texts) o.events (streams_from plan first) s.point (fitted_start (plan_streams plan) (left_or plan.made first.left) first.before) s.happen

-- what ended it
ends_so : (plan : Plan) (texts : Texts) (taken : List OperandEvent) (first : Point) (o : Outcome) → IsByText o.end → (s : StreamsEnd plan texts taken first o)
    → Ends plan (operands_read taken) (length (all_passed taken)) s.point o.events o.end
ends_so plan texts taken first o by s = ends_at plan (operands_read taken) (length (all_passed taken)) o.end o.events o.name s.point o.left by (fitted_behind plan texts taken first o s)
    s.tallied s.ends

-- what two such runs have in common
record EndsAlike (plan : Plan) (a b : Outcome) : Type 0 where
  like : AreLike plan a.events b.events
  ends : a.end ≡ b.end
  place : IsOnePlace a.end a.name b.name a.left b.left

one_streams_end : OneStanding → AreOne → (plan : Plan) (texts : Texts) (taken : List OperandEvent) (first : Point) (a b : Outcome) → IsByText a.end → IsByText b.end
    → StreamsEnd plan texts taken first a → StreamsEnd plan texts taken first b → EndsAlike plan a b
one_streams_end one plain plan texts taken first a b x y s t =
    let ops = operands_read taken in
    let passed = length (all_passed taken) in
    let over = texts_or plan.made texts in
    let start = streams_from plan first in
    let e = ends_so plan texts taken first a x s in
    let d = ends_so plan texts taken first b y t in
    let same =
    same_events one plain plan ops passed over a.events b.events a.events b.events a.end b.end start s.point t.point
    (fitted_start (plan_streams plan) (left_or plan.made first.left) first.before) s.judged t.judged s.happen t.happen e d in
    let there = subst (λ (z : Point). Ends plan ops passed z b.events b.end) (sym same.1) d in
    let ends = alike one plain plan ops passed s.point a.events a.end b.end x y e (ends_like plan ops passed s.point a.events b.events b.end same.0 there) in
    let here = subst (λ (z : Point). EndsAt plan ops b.end b.name z b.left) (sym same.1) t.ends in
    let other = subst (λ (f : End). EndsAt plan ops f b.name s.point b.left) (sym ends) here in
    record { like = same.0; ends = ends; place = one_place_in_streams one plan ops a.end s.point a.name b.name a.left b.left x (fitted_behind plan texts taken first a s) s.ends other }

both_behind : OneStanding → AreOne → (plan : Plan) (texts : Texts) (left : Option (List ℕ)) (a b : Outcome) → IsByText a.end → IsByText b.end
    → EndsInStreams plan texts left a → EndsInStreams plan texts left b → AreSame plan a b
both_behind one plain plan texts left a b x y s t =
    let h = through plan texts left a.taken s.point s.read in
    let k = through plan texts left b.taken t.point t.read in
    let start = start_of (operands plan) left 0 in
    let same = same_operands one texts a.taken b.taken start s.point t.point (fitted_start (operands plan) left 0) s.read.read t.read.read (inr h) (inr k) in
    let there = subst (λ (z : Point). StreamsEnd plan texts b.taken z b) (sym same.1) (streams_end plan texts left b t) in
    let here = subst (λ (z : List OperandEvent). StreamsEnd plan texts z s.point b) (sym same.0) there in
    let alike = one_streams_end one plain plan texts a.taken s.point a b x y (streams_end plan texts left a s) here in
    all_same plan a b same.0 alike.like alike.ends alike.place

pub runs_end_alike : OneStanding → AreOne → RunsEndAlike
runs_end_alike one plain plan texts left a b x y = go x.ran y.ran
  where
    go : EndsBefore plan texts left a ⊎ EndsInStreams plan texts left a → EndsBefore plan texts left b ⊎ EndsInStreams plan texts left b → AreSame plan a b
    go (inl s) (inl t) = both_before one plan texts left a b x.by_text y.by_text s t
    go (inl s) (inr t) = absurd (not_mixed one plan texts left a b x.by_text s t)
    go (inr s) (inl t) = absurd (not_mixed one plan texts left b a y.by_text t s)
    go (inr s) (inr t) = both_behind one plain plan texts left a b x.by_text y.by_text s t

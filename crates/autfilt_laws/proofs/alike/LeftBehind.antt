-- What a run leaves in the inputs: what it leaves of its streams or, where the stream is generated, what it leaves after its
-- operands.
use Rattle.std.proofs.Common.{◌≡◌, ◌∙◌, ◌⊎◌, ℕ, List, Option, Some, None, ap, inl, inr, subst, sym}
use Rattle.aut_io.specs.Outside.{Texts}
use Rattle.autfilt_run.specs.Run.{AreAllRead}
use Rattle.autfilt_laws.proofs.alike.Full.{fitted_read, fitted_start}
use Rattle.autfilt_laws.proofs.alike.OperandEnds.{IsThrough, not_through, same_operands, stopped_there}
use Rattle.autfilt_laws.specs.Runs.{EndsBefore, IsByText, Outcome}
use Rattle.autfilt_run.specs.Events.{Point, start_of}
use Rattle.autfilt_run.specs.OperandEvents.{OperandEvent}
use Rattle.filter_plan.specs.Words.{operands}
use Rattle.filter_plan.specs.declared.plan.Plan.{Plan}
use Rattle.hoa_parser.specs.Standing.{OneStanding}

abbrev pub IsLeftBehind : Plan → Texts → Option (List ℕ) → Outcome → Option (List ℕ) → Type 0
IsLeftBehind p texts left o now =
    ((now ≡ o.left) × ((p.made ≡ None) ⊎ EndsBefore p texts left o))
    ⊎ (((n : ℕ) × (p.made ≡ Some n)) × (point : Point) × AreAllRead p texts left o.taken point × (now ≡ point.left))

through : (p : Plan) (texts : Texts) (left : Option (List ℕ)) (taken : List OperandEvent) (point : Point) → AreAllRead p texts left taken point → IsThrough point
through p texts left taken point h = record { closed = h.none_open; none = h.none_coming }

-- a run that ended in the files of operands hasn't read all of them
not_both : OneStanding → (p : Plan) (texts : Texts) (left : Option (List ℕ)) (a b : Outcome) → IsByText a.end → EndsBefore p texts left a
    → (point : Point) → AreAllRead p texts left b.taken point → ⊥
not_both one p texts left a b by h point read =
    let begins = fitted_start (operands p) left 0 in
    let fitted = fitted_read texts a.taken (start_of (operands p) left 0) h.stops.point begins h.stops.read in
    let stopped = stopped_there h.fault a.name h.stops.point a.left (subst IsByText h.ends by) fitted h.stops.stops h.stops.counted in
    let through_it = through p texts left b.taken point read in
    let same = same_operands one texts a.taken b.taken (start_of (operands p) left 0) h.stops.point point begins h.stops.read read.read (inl (h.fault, stopped)) (inr through_it) in
    not_through h.stops.point h.fault stopped (subst IsThrough (sym same.1) through_it)

mixed : OneStanding → (p : Plan) (texts : Texts) (left : Option (List ℕ)) (a b : Outcome) → IsByText a.end → (n : ℕ) → p.made ≡ Some n
    → (p.made ≡ None) ⊎ EndsBefore p texts left a → (point : Point) → AreAllRead p texts left b.taken point → ⊥
mixed one p texts left a b by n made (inl none) point read = let no : None ≡ Some n = sym none ∙ made in cc
mixed one p texts left a b by n made (inr h) point read = not_both one p texts left a b by h point read

-- two runs of one plan with ends that the texts determine leave the same
pub one_left_behind : OneStanding → (p : Plan) (texts : Texts) (left : Option (List ℕ)) (a b : Outcome) (x y : Option (List ℕ)) → IsByText a.end → IsByText b.end
    → a.taken ≡ b.taken → a.left ≡ b.left → IsLeftBehind p texts left a x → IsLeftBehind p texts left b y → x ≡ y
one_left_behind one p texts left a b x y by_a by_b taken same (inl h) (inl k) = h.0 ∙ (same ∙ sym k.0)
one_left_behind one p texts left a b x y by_a by_b taken same (inl h) (inr k) = absurd (mixed one p texts left a b by_a k.0.0 k.0.1 h.1 k.1 k.2)
one_left_behind one p texts left a b x y by_a by_b taken same (inr h) (inl k) = absurd (mixed one p texts left b a by_b h.0.0 h.0.1 k.1 h.1 h.2)
one_left_behind one p texts left a b x y by_a by_b taken same (inr h) (inr k) =
    let there = same_operands one texts a.taken b.taken (start_of (operands p) left 0) h.1 k.1 (fitted_start (operands p) left 0) h.2.read k.2.read
    (inr (through p texts left a.taken h.1 h.2)) (inr (through p texts left b.taken k.1 k.2)) in
    h.3 ∙ (ap (λ (z : Point). z.left) there.1 ∙ sym k.3)

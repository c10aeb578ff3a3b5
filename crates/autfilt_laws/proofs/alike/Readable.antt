-- A run over readable texts reads all.
use Rattle.std.proofs.Common.{◌≡◌, ◌≢◌, ◌⊎◌, ◌∙◌, ℕ, List, Option, Some, ap, true, length, subst, inl, inr}
use Rattle.aut_base.specs.Automaton.{Automaton}
use Rattle.aut_base.specs.declared.limit.Limit.TheVariants as limit
use Rattle.aut_io.specs.Outside.{Texts}
use Rattle.autfilt_run.specs.Run.{end_of}
use Rattle.autfilt_run.specs.declared.ended.End.{End}
use Rattle.autfilt_run.specs.declared.ended.End.TheVariants as end
use Rattle.autfilt_laws.proofs.alike.Ends.{Ends, IsStopped, ends_at, in_streams}
use Rattle.autfilt_laws.proofs.alike.Faults.{Asking, Fits, Halted, in_operands, unfit_whole}
use Rattle.autfilt_laws.proofs.alike.Full.{fitted_happen, fitted_start}
use Rattle.autfilt_laws.proofs.alike.OperandEnds.{IsStoppedIn}
use Rattle.autfilt_laws.proofs.alike.Runs.{is_stopped}
use Rattle.autfilt_laws.specs.Runs.{AreReadable, Completes, EndsBefore, EndsInStreams, IsByText, IsReadable, Outcome, left_or, streams_from, texts_or}
use Rattle.autfilt_run.specs.Events.{Event, Point, Stream, bytes_before, tally}
use Rattle.autfilt_run.specs.OperandEvents.{all_passed, operands_read}
use Rattle.autfilt_run.specs.Over.{IsOverLimit}
use Rattle.autfilt_run.specs.Plans.{asks_on, plan_streams}
use Rattle.autfilt_run.specs.declared.fault.RunFault.{RunFault}
use Rattle.autfilt_run.specs.declared.fault.RunFault.TheVariants as fault
use Rattle.filter_plan.specs.declared.plan.Plan.{Plan}
use Rattle.hoa_lexer.specs.Blanks.{IsBlanks}
use Rattle.hoa_parser.specs.Standing as standing
use Rattle.hoa_parser.specs.Standing.{OneStanding, Standing, Stands}

-- no fault goes with what is readable
readable_fits : OneStanding → (a : Asking) (start : ℕ) (rest : List ℕ) (what : Standing) (f : RunFault) → Stands what start rest → Fits a what f → IsReadable a.over start rest → ⊥
readable_fits one a start rest what f stands fits (inl good) =
    unfit_whole a good.0 good.1 f (subst (λ (x : Standing). Fits a x f) (one start rest what (standing.Whole good.0 good.1) stands good.2.whole) fits) good.2.valid good.2.within good.3
readable_fits one a start rest what f stands fits (inr aborted) = subst (λ (x : Standing). Fits a x f) (one start rest what (standing.Aborted aborted.0) stands aborted.1) fits

not_halted : OneStanding → (on : Type 0) (a : Asking) (p : Point) (f : RunFault) → (h : Halted on a p f) → IsReadable a.over (bytes_before h.stream.text h.stream.rest) h.stream.rest → ⊥
not_halted one on a p f h readable = readable_fits one a (bytes_before h.stream.text h.stream.rest) h.stream.rest h.what f h.stands h.fits readable

-- the rest of a stream is readable, or only blanks are left
abbrev IsFair : Plan → List Automaton → Stream → Type 0
IsFair plan ops s = IsBlanks s.rest ⊎ IsReadable (λ which w. IsOverLimit which plan ops w) (bytes_before s.text s.rest) s.rest

not_halted_here : OneStanding → (plan : Plan) (ops : List Automaton) (p : Point) (f : RunFault)
    → (asks_on plan p.kept ≡ true → (s : Stream) → p.stream ≡ Some s → IsFair plan ops s) → Halted (asks_on plan p.kept ≡ true) (in_streams plan ops) p f → ⊥
not_halted_here one plan ops p f readable h = go (readable h.asks h.stream h.is_open)
  where
    go : IsFair plan ops h.stream → ⊥
    go (inl blank) = subst (λ (x : Standing). Fits (in_streams plan ops) x f) (one (bytes_before h.stream.text h.stream.rest) h.stream.rest h.what standing.Blank h.stands blank) h.fits
    go (inr good) = not_halted one _ (in_streams plan ops) p f h good

not_stopped : OneStanding → (plan : Plan) (ops : List Automaton) (p : Point) (f : RunFault) → (f ≡ fault.Limit limit.Bytes → ⊥)
    → (asks_on plan p.kept ≡ true → (s : Stream) → p.stream ≡ Some s → IsFair plan ops s) → IsStopped plan ops p f → ⊥
not_stopped one plan ops p f other readable (inl h) = not_halted_here one plan ops p f readable h.halted
not_stopped one plan ops p f other readable (inr h) = other h.is

-- it isn't the limit of bytes
abbrev IsOther : End → Type 0
IsOther e = e ≢ end.Fault (fault.Limit limit.Bytes)

read_all : OneStanding → (plan : Plan) (ops : List Automaton) (passed : ℕ) (p : Point) (events : List Event) (e : End) → IsOther e
    → (asks_on plan p.kept ≡ true → (s : Stream) → p.stream ≡ Some s → IsFair plan ops s) → Ends plan ops passed p events e → e ≡ end_of (tally passed events)
read_all one plan ops passed p events end.Output other readable h = h.1
read_all one plan ops passed p events end.NoneOutput other readable h = h.1
read_all one plan ops passed p events end.Aborts other readable h = h.1
read_all one plan ops passed p events end.Usage other readable h = h.1
read_all one plan ops passed p events (end.Fault f) other readable h = absurd (not_stopped one plan ops p f (λ is. other (ap end.Fault is)) readable h)

not_before : OneStanding → (plan : Plan) (texts : Texts) (left : Option (List ℕ)) (o : Outcome) → AreReadable plan texts left → IsByText o.end → IsOther o.end
    → EndsBefore plan texts left o → ⊥
not_before one plan texts left o readable by other h = go (is_stopped plan texts left o by h)
  where
    go : IsStoppedIn h.stops.point h.fault → ⊥
    go (inl k) = not_halted one (Unit {0}) in_operands h.stops.point h.fault k.halted (readable.operands o.taken h.stops.point k.halted.stream h.stops.read k.halted.is_open)
    go (inr k) = other (h.ends ∙ ap end.Fault k.is)

behind : OneStanding → (plan : Plan) (texts : Texts) (left : Option (List ℕ)) (o : Outcome) → AreReadable plan texts left → IsByText o.end → IsOther o.end
    → EndsInStreams plan texts left o → o.end ≡ end_of (tally (length (all_passed o.taken)) o.events)
behind one plan texts left o readable by other h =
    let ops = operands_read o.taken in
    let passed = length (all_passed o.taken) in
    let begins = fitted_start (plan_streams plan) (left_or plan.made h.point.left) h.point.before in
    let fitted = fitted_happen plan (texts_or plan.made texts) o.events (streams_from plan h.point) h.runs.point begins h.runs.happen in
    read_all one plan ops passed h.runs.point o.events o.end other
    (λ asks s is. readable.streams o.taken h.point h.read o.events h.runs.point s h.judged h.runs.happen asks is)
    (ends_at plan ops passed o.end o.events o.name h.runs.point o.left by fitted h.tallied h.runs.ends)

pub completes : OneStanding → Completes
completes one plan texts left o readable other a = go a.ran
  where
    go : EndsBefore plan texts left o ⊎ EndsInStreams plan texts left o → o.end ≡ end_of (tally (length (all_passed o.taken)) o.events)
    go (inl h) = absurd (not_before one plan texts left o readable a.by_text other h)
    go (inr h) = behind one plan texts left o readable a.by_text other h

-- Faults that come of what is next in a text, within the limit of bytes.
use Rattle.std.proofs.Common.{◌≡◌, ℕ, ◌+◌, ◌<◌, List, length, Option, Some, sym, ap, subst, inl, arith}
use Rattle.aut_base.specs.declared.limit.Limit.{Limit}
use Rattle.aut_base.specs.declared.limit.Limit.TheVariants as limit
use Rattle.aut_base.specs.declared.limit.TheConstants.{MOST_BYTES}
use Rattle.autfilt_run.specs.declared.ended.End.TheVariants as end
use Rattle.autfilt_laws.specs.Runs.{IsByText}
use Rattle.autfilt_run.proofs.handling.PassedLimits.{IsOfWhole, not_bytes}
use Rattle.autfilt_run.specs.Events.{Point, Stream, bytes_before}
use Rattle.autfilt_run.specs.Runs.{AtNamed, IsCounted, StopsReading, StopsAtOperand, StopsWhere, taken_in, taken_until}
use Rattle.autfilt_run.specs.declared.fault.RunFault.{RunFault}
use Rattle.autfilt_run.specs.declared.fault.RunFault.TheVariants as fault

-- a limit that is told of an automaton that was read whole is another one
pub passed_other : (which : Limit) → IsOfWhole which → fault.Limit which ≡ fault.Limit limit.Bytes → ⊥
passed_other which whole e =
    let same : which ≡ limit.Bytes = cc in
    absurd (not_bytes which whole same)

-- ---- the point of the run then

pub stops_where : (on : Type 0) (stops : RunFault → ℕ → List ℕ → List ℕ → Type 0) (f : RunFault) (name : List ℕ) (p : Point) (left : Option (List ℕ)) → IsByText (end.Fault f)
    → AtNamed on p name left (stops f) → StopsWhere on stops f name p left
stops_where on stops (fault.SyntaxAt k) name p left by_cases h = h
stops_where on stops fault.Truncated name p left by_cases h = h
stops_where on stops (fault.Invalid rule) name p left by_cases h = h
stops_where on stops (fault.Limit which) name p left by_cases h = h
stops_where on stops fault.CannotOpen name p left by_cases h = absurd by_cases
stops_where on stops fault.ReadFault name p left by_cases h = absurd by_cases
stops_where on stops fault.WriteFault name p left by_cases h = absurd by_cases
stops_where on stops fault.Memory name p left by_cases h = absurd by_cases

pub stops_operand : (f : RunFault) (start : ℕ) (rest left : List ℕ) → StopsReading (λ which w. ⊥) f start rest left → StopsAtOperand f start rest left
stops_operand (fault.SyntaxAt k) start rest left h = h
stops_operand fault.Truncated start rest left h = inl h
stops_operand (fault.Invalid rule) start rest left h = h
stops_operand (fault.Limit which) start rest left h = h
stops_operand fault.CannotOpen start rest left h = h
stops_operand fault.ReadFault start rest left h = h
stops_operand fault.WriteFault start rest left h = h
stops_operand fault.Memory start rest left h = h

-- ---- the bytes that were taken

pub is_counted : (f : RunFault) (p : Point) (s : Stream) (now : List ℕ) (more : ℕ) → (f ≡ fault.Limit limit.Bytes → ⊥) → p.stream ≡ Some s
    → p.before + (length s.text + more) < MOST_BYTES
    → IsCounted f p (Some now)
is_counted f p s now more other is few =
    let same : taken_until p (Some now) ≡ p.before + bytes_before s.text now = ap (λ o. p.before + taken_in o (Some now)) is in
    let less : p.before + bytes_before s.text now < MOST_BYTES = omega (arith, few) in
    let taken : taken_until p (Some now) < MOST_BYTES = subst (λ (n : ℕ). n < MOST_BYTES) (sym same) less in
    record { few = omega (arith, taken); reached = λ is. absurd (other is); below = λ is. taken }

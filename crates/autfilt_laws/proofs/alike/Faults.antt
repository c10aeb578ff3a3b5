-- Which faults go with what is next in the rest of a file. `over` says which limits are passed after reading, and `blank`
-- which faults come where only blanks are left.
use Rattle.std.proofs.Common.{◌≡◌, ◌≢◌, ◌⊎◌, ℕ, List, Option, Some, None, refl, sym, ap, ◌∙◌, subst, inl, inr}
use Rattle.aut_base.specs.declared.limit.Limit.{Limit}
use Rattle.aut_base.specs.declared.limit.Limit.TheVariants as limit
use Rattle.autfilt_run.specs.declared.ended.End.TheVariants as end
use Rattle.autfilt_laws.proofs.alike.AtBytes.{asks_at_bytes}
use Rattle.autfilt_laws.proofs.alike.Full.{IsFitted, IsFull, full_apart, full_apart_there, one_full}
use Rattle.autfilt_laws.proofs.alike.Limits.{no_count, one_limit}
use Rattle.autfilt_laws.proofs.alike.Looks.{Look, one_standing_in}
use Rattle.autfilt_laws.specs.Runs.{IsByText}
use Rattle.autfilt_run.proofs.handling.PassedLimits.{IsOfWhole}
use Rattle.autfilt_run.specs.Events.{Point, Stream, bytes_before}
use Rattle.autfilt_run.specs.Runs.{AtStream, IsCounted, StandsWith, StopsReading, StopsAtLimit, StopsAtOperand}
use Rattle.autfilt_run.specs.declared.fault.RunFault.{RunFault}
use Rattle.autfilt_run.specs.declared.fault.RunFault.TheVariants as fault
use Rattle.hoa_parser.specs.Raw.{Written}
use Rattle.hoa_parser.specs.Reads.{AsksOn}
use Rattle.hoa_parser.specs.Standing as standing
use Rattle.hoa_parser.specs.Standing.{OneStanding, Standing, Stands}
use Rattle.hoa_reader.proofs.validity.ValidityLaws.{none_first, one_first}
use Rattle.hoa_reader.specs.Counts.{PassesNone}
use Rattle.hoa_reader.specs.Elaborating.{PassesLimit}
use Rattle.hoa_reader.specs.Validity.{IsFirstBroken, IsValid}
use Rattle.hoa_reader.specs.declared.elaborate.Rule.{Rule}

-- what else a plan says about an automaton
pub record Asking : Type 1 where
  pub over : Limit → Written → Type 0
  pub blank : RunFault → Type 0

abbrev pub Fits : Asking → Standing → RunFault → Type 0
Fits a standing.Blank f = a.blank f
Fits a (standing.Whole w next) f = ((rule : Rule) × (f ≡ fault.Invalid rule) × IsFirstBroken rule w) ⊎ ((which : Limit) × (f ≡ fault.Limit which) × (PassesLimit which w ⊎ a.over which w))
Fits a standing.Deep f = f ≡ fault.Limit limit.Depth
Fits a (standing.Bad k) f = f ≡ fault.SyntaxAt k
Fits a (standing.Aborted next) f = ⊥
Fits a standing.Cut f = f ≡ fault.Truncated

-- it says one thing of each automaton that is valid and within the limits of reading
pub record IsOneAsking (a : Asking) : Type 0 where
  pub limit : (which other : Limit) (w : Written) → a.over which w → a.over other w → which ≡ other
  pub blank : (f g : RunFault) → a.blank f → a.blank g → f ≡ g
  pub valid : (which : Limit) (w : Written) → a.over which w → IsValid w
  pub within : (which : Limit) (w : Written) → a.over which w → PassesNone w

-- no fault goes with an automaton that is good and passes no limit
pub unfit_whole : (a : Asking) (w : Written) (next : List ℕ) (f : RunFault) → Fits a (standing.Whole w next) f → IsValid w → PassesNone w → ((which : Limit) → a.over which w → ⊥) → ⊥
unfit_whole a w next f (inl h) valid within none = none_first h.0 w h.2 valid
unfit_whole a w next f (inr h) valid within none = go h.2
  where
    go : PassesLimit h.0 w ⊎ a.over h.0 w → ⊥
    go (inl p) = no_count h.0 w p within
    go (inr o) = none h.0 o

-- at most one fault goes with it
one_passed : (a : Asking) → IsOneAsking a → (which other : Limit) (w : Written) → PassesLimit which w ⊎ a.over which w → PassesLimit other w ⊎ a.over other w → which ≡ other
one_passed a one which other w (inl x) (inl y) = one_limit which other w x y
one_passed a one which other w (inl x) (inr y) = absurd (no_count which w x (one.within other w y))
one_passed a one which other w (inr x) (inl y) = absurd (no_count other w y (one.within which w x))
one_passed a one which other w (inr x) (inr y) = one.limit which other w x y

is_valid : (a : Asking) → IsOneAsking a → (which : Limit) (w : Written) → PassesLimit which w ⊎ a.over which w → IsValid w
is_valid a one which w (inl x) = x.0
is_valid a one which w (inr x) = one.valid which w x

pub one_fit : (a : Asking) → IsOneAsking a → (s : Standing) (f g : RunFault) → Fits a s f → Fits a s g → f ≡ g
one_fit a one standing.Blank f g x y = one.blank f g x y
one_fit a one standing.Deep f g x y = x ∙ sym y
one_fit a one (standing.Bad k) f g x y = x ∙ sym y
one_fit a one (standing.Aborted next) f g x y = absurd x
one_fit a one standing.Cut f g x y = x ∙ sym y
one_fit a one (standing.Whole w next) f g (inl x) (inl y) = x.1 ∙ ap fault.Invalid (one_first x.0 y.0 w x.2 y.2) ∙ sym y.1
one_fit a one (standing.Whole w next) f g (inl x) (inr y) = absurd (none_first x.0 w x.2 (is_valid a one y.0 w y.2))
one_fit a one (standing.Whole w next) f g (inr x) (inl y) = absurd (none_first y.0 w y.2 (is_valid a one x.0 w x.2))
one_fit a one (standing.Whole w next) f g (inr x) (inr y) = x.1 ∙ ap fault.Limit (one_passed a one x.0 y.0 w x.2 y.2) ∙ sym y.1

-- ---- a run that ended by what is next

pub record Halted (on : Type 0) (a : Asking) (p : Point) (f : RunFault) : Type 0 where
  pub asks : on
  pub stream : Stream
  pub is_open : p.stream ≡ Some stream
  pub what : Standing
  pub stands : Stands what (bytes_before stream.text stream.rest) stream.rest
  pub fits : Fits a what f

pub both_halted : OneStanding → (on : Type 0) (a : Asking) → IsOneAsking a → (p : Point) (f g : RunFault) → Halted on a p f → Halted on a p g → f ≡ g
both_halted one on a plain p f g x y =
    let is = one_standing_in one p.stream x.stream y.stream x.what y.what x.is_open y.is_open x.stands y.stands in
    one_fit a plain x.what f g x.fits (subst (λ (s : Standing). Fits a s g) (sym is) y.fits)

-- an event that happens there goes with it, too
pub halted_look : OneStanding → (on : Type 0) (a : Asking) (p q : Point) (f : RunFault) (W : List ℕ → Standing) (F : Stream → List ℕ → Point) → Halted on a p f → (b : Look p W F q)
    → Fits a (W b.next) f
halted_look one on a p q f W F h b =
    subst (λ (s : Standing). Fits a s f) (one_standing_in one p.stream h.stream b.stream h.what (W b.next) h.is_open b.is_open h.stands b.stands) h.fits

-- ---- which fault it is, by what is next

record Shown (a : Asking) (start : ℕ) (rest : List ℕ) (f : RunFault) : Type 0 where
  what : Standing
  stands : Stands what start rest
  fits : Fits a what f

past : (a : Asking) (which : Limit) (start : ℕ) (rest left : List ℕ) → StandsWith (λ w. PassesLimit which w ⊎ a.over which w) start rest left → Shown a start rest (fault.Limit which)
past a which start rest left h = record { what = standing.Whole h.automaton left; stands = h.whole; fits = inr (which, refl, h.holds) }

-- at a limit
shown_at : (a : Asking) (which : Limit) (start : ℕ) (rest left : List ℕ) → which ≢ limit.Bytes → StopsAtLimit which (λ x w. a.over x w) start rest left → Shown a start rest (fault.Limit which)
shown_at a which start rest left none (inl h) = record { what = standing.Deep; stands = h.1.deep; fits = ap fault.Limit h.0 }
shown_at a which start rest left none (inr (inl h)) = absurd (none h.0)
shown_at a which start rest left none (inr (inr h)) = past a which start rest left h

shown : (a : Asking) (f : RunFault) (start : ℕ) (rest left : List ℕ) → IsByText (end.Fault f) → (f ≡ fault.Limit limit.Bytes → ⊥) → StopsReading (λ which w. a.over which w) f start rest left
    → Shown a start rest f
shown a (fault.SyntaxAt k) start rest left by other h = record { what = standing.Bad k; stands = h.bad; fits = refl }
shown a fault.Truncated start rest left by other h = record { what = standing.Cut; stands = h.cut; fits = refl }
shown a (fault.Invalid rule) start rest left by other h = record { what = standing.Whole h.automaton left; stands = h.whole; fits = inl (rule, refl, h.holds) }
shown a (fault.Limit which) start rest left by other h = shown_at a which start rest left (λ is. other (ap fault.Limit is)) h
shown a fault.CannotOpen start rest left by other h = absurd by
shown a fault.ReadFault start rest left by other h = absurd by
shown a fault.WriteFault start rest left by other h = absurd by
shown a fault.Memory start rest left by other h = absurd by

halted : (on : Type 0) (a : Asking) (f : RunFault) (p : Point) (left : Option (List ℕ)) → IsByText (end.Fault f) → (f ≡ fault.Limit limit.Bytes → ⊥)
    → AtStream on p left (StopsReading (λ which w. a.over which w) f) → Halted on a p f
halted on a f p left by other h =
    let x = shown a f (bytes_before h.stream.text h.stream.rest) h.stream.rest h.now by other h.stands in
    record { asks = h.asks; stream = h.stream; is_open = h.is_open; what = x.what; stands = x.stands; fits = x.fits }

-- ---- or the limit of bytes ended it

-- a run that ended by what is next, within the limit of bytes
pub record HaltedWithin (on : Type 0) (a : Asking) (p : Point) (f : RunFault) : Type 0 where
  pub halted : Halted on a p f
  pub within : IsFull p → ⊥

-- the limit of bytes is reached
pub record HaltedFull (on : Type 0) (p : Point) (f : RunFault) : Type 0 where
  pub asks : on
  pub is : f ≡ fault.Limit limit.Bytes
  pub full : IsFull p

abbrev pub Stopped : Type 0 → Asking → Point → RunFault → Type 0
Stopped on a p f = HaltedWithin on a p f ⊎ HaltedFull on p f

pub both_stopped : OneStanding → (on : Type 0) (a : Asking) → IsOneAsking a → (p : Point) (f g : RunFault) → Stopped on a p f → Stopped on a p g → f ≡ g
both_stopped one on a plain p f g (inl x) (inl y) = both_halted one on a plain p f g x.halted y.halted
both_stopped one on a plain p f g (inl x) (inr y) = absurd (x.within y.full)
both_stopped one on a plain p f g (inr x) (inl y) = absurd (y.within x.full)
both_stopped one on a plain p f g (inr x) (inr y) = x.is ∙ sym y.is

pub asks_there : (on : Type 0) (a : Asking) (p : Point) (f : RunFault) → Stopped on a p f → on
asks_there on a p f (inl h) = h.halted.asks
asks_there on a p f (inr h) = h.asks

-- a file is open
pub open_there : (on : Type 0) (a : Asking) (p : Point) (f : RunFault) → Stopped on a p f → p.stream ≡ None → ⊥
open_there on a p f (inl h) none = let some : None ≡ Some h.halted.stream = sym none ∙ h.halted.is_open in cc
open_there on a p f (inr h) none = let some : None ≡ Some h.full.stream = sym none ∙ h.full.is_open in cc

-- whether it is the limit of bytes
is_bytes : (f : RunFault) → (f ≡ fault.Limit limit.Bytes) ⊎ (f ≡ fault.Limit limit.Bytes → ⊥)
is_bytes (fault.Limit limit.Bytes) = inl refl
is_bytes _ = inr (λ e. cc)

-- the limits after reading are told of an automaton that was read whole
abbrev pub AreOfWhole : (Limit → Written → Type 0) → Type 0
AreOfWhole over = (which : Limit) (w : Written) → over which w → IsOfWhole which

asking_bytes : (over : Limit → Written → Type 0) → AreOfWhole over → (f : RunFault) → f ≡ fault.Limit limit.Bytes → (start : ℕ) (rest now : List ℕ) → StopsReading over f start rest now
    → AsksOn start rest now
asking_bytes over whole f is start rest now h = asks_at_bytes over whole start rest now (subst (λ (g : RunFault). StopsReading over g start rest now) is h)

pub stopped : (on : Type 0) (a : Asking) → AreOfWhole (λ which w. a.over which w)
    → (f : RunFault) (p : Point) (left : Option (List ℕ)) → IsByText (end.Fault f) → IsFitted p → AtStream on p left (StopsReading (λ which w. a.over which w) f)
    → IsCounted f p left → Stopped on a p f
stopped on a whole f p left by fitted h c = go (is_bytes f)
  where
    go : (f ≡ fault.Limit limit.Bytes) ⊎ (f ≡ fault.Limit limit.Bytes → ⊥) → Stopped on a p f
    go (inr other) = inl (record { halted = halted on a f p left by other h; within = full_apart on (λ which w. a.over which w) p left fitted f by h c other })
    go (inl is) =
        inr (record {
          asks = h.asks;
          is = is;
          full = one_full on (StopsReading (λ which w. a.over which w) f) p left (asking_bytes (λ which w. a.over which w) whole f is) h (subst (λ (g : RunFault). IsCounted g p left) is c);
        })

-- ---- where an operand is read

-- only blanks are a fault, too
abbrev pub in_operands : Asking
in_operands = record { over = λ which w. ⊥; blank = λ f. f ≡ fault.Truncated }

pub one_in_operands : IsOneAsking in_operands
one_in_operands = record {
  limit = λ which other w h k. absurd h;
  blank = λ f g h k. h ∙ sym k;
  valid = λ which w h. absurd h;
  within = λ which w h. absurd h;
}

shown_in_operand : (f : RunFault) (start : ℕ) (rest left : List ℕ) → IsByText (end.Fault f) → (f ≡ fault.Limit limit.Bytes → ⊥) → StopsAtOperand f start rest left → Shown in_operands start rest f
shown_in_operand fault.Truncated start rest left by other (inl h) = record { what = standing.Cut; stands = h.cut; fits = refl }
shown_in_operand fault.Truncated start rest left by other (inr h) = record { what = standing.Blank; stands = h.0; fits = refl }
shown_in_operand (fault.SyntaxAt k) start rest left by other h = shown in_operands (fault.SyntaxAt k) start rest left by other h
shown_in_operand (fault.Invalid rule) start rest left by other h = shown in_operands (fault.Invalid rule) start rest left by other h
shown_in_operand (fault.Limit which) start rest left by other h = shown in_operands (fault.Limit which) start rest left by other h
shown_in_operand fault.CannotOpen start rest left by other h = absurd by
shown_in_operand fault.ReadFault start rest left by other h = absurd by
shown_in_operand fault.WriteFault start rest left by other h = absurd by
shown_in_operand fault.Memory start rest left by other h = absurd by

asking_there : (f : RunFault) → f ≡ fault.Limit limit.Bytes → (start : ℕ) (rest now : List ℕ) → StopsAtOperand f start rest now → AsksOn start rest now
asking_there f is start rest now h =
    asks_at_bytes (λ which w. ⊥) (λ which w o. absurd o) start rest now (subst (λ (g : RunFault). StopsAtOperand g start rest now) is h)

pub stopped_in_operand : (f : RunFault) (p : Point) (left : Option (List ℕ)) → IsByText (end.Fault f) → IsFitted p → AtStream (Unit {0}) p left (StopsAtOperand f) → IsCounted f p left
    → Stopped (Unit {0}) in_operands p f
stopped_in_operand f p left by fitted h c = go (is_bytes f)
  where
    go : (f ≡ fault.Limit limit.Bytes) ⊎ (f ≡ fault.Limit limit.Bytes → ⊥) → Stopped (Unit {0}) in_operands p f
    go (inr other) =
        let x = shown_in_operand f (bytes_before h.stream.text h.stream.rest) h.stream.rest h.now by other h.stands in
        inl (record {
          halted = record { asks = h.asks; stream = h.stream; is_open = h.is_open; what = x.what; stands = x.stands; fits = x.fits };
          within = full_apart_there (Unit {0}) p left fitted f by h c other;
        })
    go (inl is) =
        inr (record {
          asks = h.asks;
          is = is;
          full = one_full (Unit {0}) (StopsAtOperand f) p left (asking_there f is) h (subst (λ (g : RunFault). IsCounted g p left) is c);
        })

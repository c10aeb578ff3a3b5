-- How a run may end at a point, for each fault, and what the inputs have left then.
use Rattle.std.specs.Prelude.{◌≡◌, ℕ, ◌+◌, ◌<◌, ◌≤◌, ◌⊎◌, true, false, List, [], ◌∷◌, Option, Some, None}
use Rattle.aut_base.specs.Automaton.{Automaton}
use Rattle.aut_base.specs.declared.limit.Limit.{Limit}
use Rattle.aut_base.specs.declared.limit.Limit.TheVariants as limit
use Rattle.aut_base.specs.declared.limit.TheConstants.{MOST_BYTES}
use Rattle.autfilt_run.specs.Events.{Point, Stream, bytes_before}
use Rattle.autfilt_run.specs.Over.{IsOverLimit}
use Rattle.autfilt_run.specs.Plans.{asks_on}
use Rattle.autfilt_run.specs.declared.fault.RunFault.{RunFault}
use Rattle.autfilt_run.specs.declared.fault.RunFault.TheVariants as fault
use Rattle.filter_plan.specs.declared.plan.Plan.{Plan}
use Rattle.hoa_lexer.specs.Blanks.{IsBlanks}
use Rattle.hoa_lexer.specs.Reading.{unread}
use Rattle.hoa_parser.specs.Raw.{Written}
use Rattle.hoa_parser.specs.Reads.{AskedForLast, AsksOn, EndsDeep, IsHopeless, MayHaveBegun}
use Rattle.hoa_parser.specs.Standing.{IsBad, IsCut, IsDeep, IsWhole}
use Rattle.hoa_reader.specs.Elaborating.{PassesLimit}
use Rattle.hoa_reader.specs.Validity.{IsFirstBroken}

-- ---- what has to be next in the rest of a text for a run to end there. The rest begins `start` bytes after the start of the
-- text, and `left` is what the inputs have left after the end.

-- A whole automaton is next, `fault` holds of it, and `next` follows it.
pub record StandsWith (fault : Written → Type 0) (start : ℕ) (rest next : List ℕ) : Type 0 where
  pub automaton : Written
  pub whole : IsWhole start rest automaton next
  pub holds : fault automaton

-- No token can be at offset k, and no byte is taken after the one that shows it.
pub record IsSyntaxFault (k start : ℕ) (rest left : List ℕ) : Type 0 where
  pub bad : IsBad start rest k
  pub shown : IsHopeless k start rest left
  pub last : AskedForLast start rest left

-- The text ends inside an automaton, which is seen by asking for another byte.
pub record IsTruncated (start : ℕ) (rest left : List ℕ) : Type 0 where
  pub cut : IsCut start rest
  pub nothing : left ≡ []
  pub asks : AsksOn start rest left

-- A token nests too deep, and what is left is what follows it.
pub record IsTooDeep (start : ℕ) (rest left : List ℕ) : Type 0 where
  pub deep : IsDeep start rest
  pub ends : EndsDeep start rest left
  pub last : AskedForLast start rest left

-- Memory was wanting while an automaton was read, maybe before its first token, or after it was read whole. The lexer may
-- hold a byte.
abbrev pub WantsMemory : ℕ → List ℕ → List ℕ → Type 0
WantsMemory start rest left = ((held : Option ℕ) × MayHaveBegun start rest (unread held left)) ⊎ StandsWith (λ w. Unit {0}) start rest left

-- A limit is passed: that of depth at a token, that of bytes at a byte, and each other one at an automaton that was read whole.
-- `over` says which limits are passed after reading: by filters and changes.
abbrev pub StopsAtLimit : Limit → (Limit → Written → Type 0) → ℕ → List ℕ → List ℕ → Type 0
StopsAtLimit which over start rest left =
    ((which ≡ limit.Depth) × IsTooDeep start rest left)
    ⊎ (((which ≡ limit.Bytes) × AsksOn start rest left) ⊎ StandsWith (λ w. PassesLimit which w ⊎ over which w) start rest left)

abbrev pub StopsReading : (Limit → Written → Type 0) → RunFault → ℕ → List ℕ → List ℕ → Type 0
StopsReading over (fault.SyntaxAt k) start rest left = IsSyntaxFault k start rest left
StopsReading over fault.Truncated start rest left = IsTruncated start rest left
StopsReading over (fault.Invalid rule) start rest left = StandsWith (IsFirstBroken rule) start rest left
StopsReading over (fault.Limit which) start rest left = StopsAtLimit which over start rest left
StopsReading over fault.ReadFault start rest left = AsksOn start rest left
StopsReading over fault.Memory start rest left = WantsMemory start rest left
StopsReading over fault.CannotOpen start rest left = ⊥
StopsReading over fault.WriteFault start rest left = ⊥

-- The same while an operand is read: that only blanks are left is a truncated text, too.
abbrev pub StopsAtOperand : RunFault → ℕ → List ℕ → List ℕ → Type 0
StopsAtOperand fault.Truncated start rest left = IsTruncated start rest left ⊎ (IsBlanks rest × (left ≡ []))
StopsAtOperand f start rest left = StopsReading (λ which w. ⊥) f start rest left

-- ---- the end of a run

-- As many automata were kept as `-n` asks for, or there is nothing left to read.
abbrev pub IsDone : Plan → Point → Type 0
IsDone plan p = (asks_on plan p.kept ≡ false) ⊎ ((p.stream ≡ None) × (p.coming ≡ []))

-- ---- `on` is the condition on which reading goes on

-- reading goes on, and the next file has this name
pub record WantsStream (on : Type 0) (p : Point) (name : List ℕ) : Type 0 where
  pub asks : on
  pub closed : p.stream ≡ None
  pub others : List (List ℕ)
  pub next : p.coming ≡ name ∷ others

-- Reading goes on, and `stops` holds of the rest of the open file.
pub record AtStream (on : Type 0) (p : Point) (left : Option (List ℕ)) (stops : ℕ → List ℕ → List ℕ → Type 0) : Type 0 where
  pub asks : on
  pub stream : Stream
  pub is_open : p.stream ≡ Some stream
  pub now : List ℕ
  pub told : left ≡ Some now
  pub stands : stops (bytes_before stream.text stream.rest) stream.rest now

-- the same, where the open file has this name
pub record AtNamed (on : Type 0) (p : Point) (name : List ℕ) (left : Option (List ℕ)) (stops : ℕ → List ℕ → List ℕ → Type 0) : Type 0 where
  pub at : AtStream on p left stops
  pub named : at.stream.name ≡ name

-- At which point a run may end with this fault, and what the inputs have left then. `name` is that of the file that was
-- tried last, where the line about the fault has a name. A write fault concerns an automaton that was read before. Memory was
-- wanting before anything was read, at an opening, after which nothing is open, or in the open file.
abbrev pub StopsWhere : Type 0 → (RunFault → ℕ → List ℕ → List ℕ → Type 0) → RunFault → List ℕ → Point → Option (List ℕ) → Type 0
StopsWhere on stops fault.CannotOpen name p left = WantsStream on p name × (left ≡ Some [])
StopsWhere on stops fault.WriteFault name p left = left ≡ p.left
StopsWhere on stops fault.Memory name p left =
    (left ≡ p.left) ⊎ (((other : List ℕ) × WantsStream on p other × (left ≡ Some [])) ⊎ AtStream on p left WantsMemory)
StopsWhere on stops f name p left = AtNamed on p name left (stops f)

-- in the streams of a plan with these operands, where fewer automata were kept than `-n` asks for
abbrev pub StopsRun : Plan → List Automaton → RunFault → List ℕ → Point → Option (List ℕ) → Type 0
StopsRun plan ops f name p left = StopsWhere (asks_on plan p.kept ≡ true) (StopsReading (λ which w. IsOverLimit which plan ops w)) f name p left

-- in the files of operands
abbrev pub StopsInOperands : RunFault → List ℕ → Point → Option (List ℕ) → Type 0
StopsInOperands f name p left = StopsWhere (Unit {0}) StopsAtOperand f name p left

-- how many bytes of the open stream were taken, where so much is left
abbrev pub taken_in : Option Stream → Option (List ℕ) → ℕ
taken_in (Some s) (Some now) = bytes_before s.text now
taken_in _ _ = 0

abbrev pub taken_until : Point → Option (List ℕ) → ℕ
taken_until p left = p.before + taken_in p.stream left

-- The limit of bytes isn't passed, and is reached where the fault is that it is. An end of input or a read fault comes before it.
pub record IsCounted (f : RunFault) (p : Point) (left : Option (List ℕ)) : Type 0 where
  pub few : taken_until p left ≤ MOST_BYTES
  pub reached : f ≡ fault.Limit limit.Bytes → taken_until p left ≡ MOST_BYTES
  pub below : (f ≡ fault.Truncated) ⊎ (f ≡ fault.ReadFault) → taken_until p left < MOST_BYTES

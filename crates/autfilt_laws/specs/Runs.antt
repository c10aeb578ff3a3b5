-- Laws of runs over given texts: they agree as far as they go, end alike, read all that is readable, and exist.
use Rattle.std.specs.Prelude.{◌≡◌, ◌≢◌, ℕ, ◌+◌, ◌<◌, ◌⊎◌, true, false, List, [], ◌∷◌, ◌++◌, length, Option, Some, None}
use Rattle.std.specs.List.{AllByRecursion, sum_by}
use Rattle.aut_base.specs.Automaton.{Automaton}
use Rattle.aut_base.specs.declared.limit.Limit.{Limit}
use Rattle.aut_base.specs.declared.limit.Limit.TheVariants as limit
use Rattle.aut_base.specs.declared.limit.TheConstants.{MOST_BYTES}
use Rattle.aut_io.specs.Outside.{Texts, text_of}
use Rattle.autfilt_run.specs.Notes.{line_of}
use Rattle.autfilt_run.specs.Run.{AreAllRead, EndsInOperands, RunsTo, end_of}
use Rattle.autfilt_run.specs.declared.ended.End.{End}
use Rattle.autfilt_run.specs.declared.ended.End.TheVariants as end
use Rattle.autfilt_run.specs.Due.{IsDue}
use Rattle.autfilt_run.specs.Events.{AreJudged, Dropped, Ended, Event, Happen, IsGood, Kept, Opened, Point, Skipped, Stream, bytes_before, start_of, tally}
use Rattle.made_stream.specs.Made.{made_texts}
use Rattle.autfilt_run.specs.OperandEvents.{AreRead, FileOpened, OperandEvent, PassedOver, Taken, all_passed, operands_read}
use Rattle.autfilt_run.specs.Over.{IsOverLimit}
use Rattle.autfilt_run.specs.Plans.{asks_on, prints_each, plan_streams}
use Rattle.autfilt_run.specs.declared.fault.RunFault.{RunFault}
use Rattle.autfilt_run.specs.declared.fault.RunFault.TheVariants as fault
use Rattle.filter_plan.specs.Words.{operands}
use Rattle.filter_plan.specs.declared.format.Piece.{Piece}
use Rattle.filter_plan.specs.declared.format.Piece.TheVariants.{Word}
use Rattle.filter_plan.specs.declared.plan.Output.{Output}
use Rattle.filter_plan.specs.declared.plan.Output.TheVariants.{Hoa, Refute, Stats}
use Rattle.filter_plan.specs.declared.plan.Plan.{Plan}
use Rattle.hoa_lexer.specs.Blanks.{IsBlanks}
use Rattle.hoa_parser.specs.Raw.{Written}
use Rattle.hoa_parser.specs.Standing.{Aborted, Stands}
use Rattle.hoa_reader.specs.Counts.{PassesNone}
use Rattle.hoa_reader.specs.Described.{described}
use Rattle.hoa_reader.specs.Validity.{IsValid}
use Rattle.plan_meaning.specs.Filters.{IsKept}

-- The texts alone determine the end: no I/O fault, no want of memory.
abbrev pub IsByText : End → Type 0
IsByText end.Output = Unit {0}
IsByText end.NoneOutput = Unit {0}
IsByText end.Aborts = Unit {0}
IsByText end.Usage = ⊥
IsByText (end.Fault (fault.SyntaxAt k)) = Unit {0}
IsByText (end.Fault fault.Truncated) = Unit {0}
IsByText (end.Fault (fault.Invalid rule)) = Unit {0}
IsByText (end.Fault (fault.Limit which)) = Unit {0}
IsByText (end.Fault fault.CannotOpen) = ⊥
IsByText (end.Fault fault.ReadFault) = ⊥
IsByText (end.Fault fault.WriteFault) = ⊥
IsByText (end.Fault fault.Memory) = ⊥

-- ---- a run over texts

-- the texts that a plan's streams are read from: those of the inputs, or the generated one, where none is open at first
abbrev pub texts_or : Option ℕ → Texts → Texts
texts_or None texts = texts
texts_or (Some n) texts = made_texts n

abbrev pub left_or : Option ℕ → Option (List ℕ) → Option (List ℕ)
left_or None left = left
left_or (Some n) left = Some []

-- the point before the streams of a plan, after its operands
abbrev pub streams_from : Plan → Point → Point
streams_from plan p = start_of (plan_streams plan) (left_or plan.made p.left) p.before

-- What a run did: the operands that it took, the events in its streams, how it ended, the name of the file that was tried
-- last, and what is left in the inputs, or in the generated text.
pub record Outcome : Type 0 where
  pub taken : List OperandEvent
  pub events : List Event
  pub end : End
  pub name : List ℕ
  pub left : Option (List ℕ)

-- All operands were read, and then the streams up to this end.
pub record EndsInStreams (plan : Plan) (texts : Texts) (left : Option (List ℕ)) (o : Outcome) : Type 0 where
  pub point : Point
  pub read : AreAllRead plan texts left o.taken point
  pub judged : AreJudged plan (operands_read o.taken) o.events
  pub tallied : ((f : RunFault) × (o.end ≡ end.Fault f)) ⊎ (o.end ≡ end_of (tally (length (all_passed o.taken)) o.events))
  pub runs : RunsTo plan (operands_read o.taken) (texts_or plan.made texts) (streams_from plan point) o.left o.events o.end o.name

-- the run ended while the file of an operand was read
pub record EndsBefore (plan : Plan) (texts : Texts) (left : Option (List ℕ)) (o : Outcome) : Type 0 where
  pub fault : RunFault
  pub ends : o.end ≡ end.Fault fault
  pub none : o.events ≡ []
  pub stops : EndsInOperands plan texts left o.left o.taken fault o.name

-- a run of the plan over these texts, with an end that they determine
pub record IsEnded (plan : Plan) (texts : Texts) (left : Option (List ℕ)) (o : Outcome) : Type 0 where
  pub by_text : IsByText o.end
  pub ran : EndsBefore plan texts left o ⊎ EndsInStreams plan texts left o

-- ---- uniqueness

-- What is printed of an automaton is unique: its canonical text, or a line of figures without `%w`. (Which accepted word `%w`
-- prints is left open, and so is which word refutes.)
abbrev pub DecidesPrinted : Output → Type 0
DecidesPrinted Hoa = Unit {0}
DecidesPrinted (Stats pieces) = AllByRecursion (λ (piece : Piece). piece ≢ Word) pieces
DecidesPrinted (Refute file) = ⊥

-- The plan determines the text of each automaton, or prints none.
abbrev pub DecidesTexts : Plan → Type 0
DecidesTexts plan = DecidesPrinted plan.output ⊎ (prints_each plan ≡ false)

-- the same event, with the same text where the plan determines it
abbrev pub IsLike : Plan → Event → Event → Type 0
IsLike plan (Opened name) f = f ≡ Opened name
IsLike plan (Kept w text) f = (other : List ℕ) × (f ≡ Kept w other) × (DecidesTexts plan → other ≡ text)
IsLike plan (Dropped w) f = f ≡ Dropped w
IsLike plan (Skipped name) f = f ≡ Skipped name
IsLike plan Ended f = f ≡ Ended

abbrev pub AreLike : Plan → List Event → List Event → Type 0
AreLike plan [] [] = Unit {0}
AreLike plan [] (f ∷ fs) = ⊥
AreLike plan (e ∷ es) [] = ⊥
AreLike plan (e ∷ es) (f ∷ fs) = IsLike plan e f × AreLike plan es fs

-- A name is in the line about the end: where a fault ended the run. (No line is written about other ends.)
abbrev pub TellsName : End → Type 0
TellsName (end.Fault f) = Unit {0}
TellsName end.Output = ⊥
TellsName end.NoneOutput = ⊥
TellsName end.Aborts = ⊥
TellsName end.Usage = ⊥

pub record AreSame (plan : Plan) (a b : Outcome) : Type 0 where
  pub operands : a.taken ≡ b.taken
  pub streams : AreLike plan a.events b.events
  pub texts : DecidesTexts plan → b.events ≡ a.events
  pub ends : a.end ≡ b.end
  pub name : TellsName a.end → a.name ≡ b.name
  -- the line that is noted about the end
  pub line : line_of a.end a.name ≡ line_of b.end b.name
  pub left : a.left ≡ b.left

-- Two runs of one plan over the same texts, with ends that these determine, have the same events and end alike.
abbrev pub RunsEndAlike : Type 0
RunsEndAlike =
    (plan : Plan) (texts : Texts) (left : Option (List ℕ)) (a b : Outcome) → IsEnded plan texts left a → IsEnded plan texts left b
    → AreSame plan a b

-- the events are a prefix of the others
pub record AreFirst (plan : Plan) (events others : List Event) : Type 0 where
  pub front : List Event
  pub more : List Event
  pub parted : others ≡ front ++ more
  pub like : AreLike plan events front

-- Of the events of two runs in the streams, one list is a prefix of the other: a run that a fault ended has read and written
-- a prefix of what any other run reads and writes.
abbrev pub RunsAgree : Type 0
RunsAgree =
    (plan : Plan) (ops : List Automaton) (texts : Texts) (events others : List Event) (p q r : Point) → AreJudged plan ops events → AreJudged plan ops others
    → Happen plan texts events p q → Happen plan texts others p r → AreFirst plan events others ⊎ AreFirst plan others events

-- The same of operands.
abbrev pub OperandRunsAgree : Type 0
OperandRunsAgree =
    (texts : Texts) (taken others : List OperandEvent) (p q r : Point) → AreRead texts taken p q → AreRead texts others p r
    → ((more : List OperandEvent) × (others ≡ taken ++ more)) ⊎ ((more : List OperandEvent) × (taken ≡ others ++ more))

-- ---- completeness

-- an automaton is next that is valid, within the limits of reading and passes none of `over`; or one that is abandoned
abbrev pub IsReadable : (Limit → Written → Type 0) → ℕ → List ℕ → Type 0
IsReadable over start rest =
    ((w : Written) × (next : List ℕ) × IsGood start rest w next × ((which : Limit) → over which w → ⊥)) ⊎ ((next : List ℕ) × Stands (Aborted next) start rest)

-- Texts that are readable for a plan: at every point of reading operands a readable automaton is next in the open file; and
-- at every point of reading streams where more automata are asked for, a readable one is next, or only blanks are left. In
-- streams the limits are those of filters and changes, with the operands that were read.
pub record AreReadable (plan : Plan) (texts : Texts) (left : Option (List ℕ)) : Type 0 where
  pub operands : (taken : List OperandEvent) (p : Point) (s : Stream) → AreRead texts taken (start_of (operands plan) left 0) p → p.stream ≡ Some s
      → IsReadable (λ which w. ⊥) (bytes_before s.text s.rest) s.rest
  pub streams : (taken : List OperandEvent) (first : Point) → AreAllRead plan texts left taken first
      → (events : List Event) (p : Point) (s : Stream) → AreJudged plan (operands_read taken) events → Happen plan (texts_or plan.made texts) events (streams_from plan first) p
      → asks_on plan p.kept ≡ true → p.stream ≡ Some s
      → IsBlanks s.rest ⊎ IsReadable (λ which w. IsOverLimit which plan (operands_read taken) w) (bytes_before s.text s.rest) s.rest

-- A run over readable texts, without I/O fault, want of memory or limit of bytes, reads all that is asked for.
abbrev pub Completes : Type 0
Completes =
    (plan : Plan) (texts : Texts) (left : Option (List ℕ)) (o : Outcome) → AreReadable plan texts left → o.end ≢ end.Fault (fault.Limit limit.Bytes)
    → IsEnded plan texts left o → o.end ≡ end_of (tally (length (all_passed o.taken)) o.events)

-- ---- existence

-- how many bytes the files of these names have together
abbrev pub size_of : Texts → List (List ℕ) → ℕ
size_of texts names = sum_by (λ name. length (text_of texts name)) names

-- an automaton that is valid and within the limits of reading
abbrev pub IsGoodOperand : OperandEvent → Type 0
IsGoodOperand (Taken w) = IsValid w × PassesNone w
IsGoodOperand (FileOpened name) = Unit {0}
IsGoodOperand (PassedOver name) = Unit {0}

-- There is an operand for each name of the plan, and each is valid and within the limits.
pub record AreGoodOperands (plan : Plan) (taken : List OperandEvent) : Type 0 where
  pub number : length (operands_read taken) ≡ length (operands plan)
  pub good : AllByRecursion IsGoodOperand taken

-- Of each automaton that is valid, within the limits of reading and kept, with such operands, a text is due or a limit is
-- passed. Stated as: it is impossible that neither is so.
abbrev pub IsAlwaysDue : Plan → Type 0
IsAlwaysDue plan =
    (taken : List OperandEvent) → AreGoodOperands plan taken → (w : Written) → IsValid w → PassesNone w → IsKept plan (operands_read taken) (described w)
    → (((text : List ℕ) × IsDue plan (operands_read taken) w text) ⊎ ((which : Limit) × IsOverLimit which plan (operands_read taken) w) → ⊥) → ⊥

-- The same under each plan.
abbrev pub EachIsDue : Type 0
EachIsDue = (plan : Plan) → IsAlwaysDue plan

-- There is a run of each plan over texts that together have fewer bytes than the limit. Stated as: it is impossible that
-- there is none.
abbrev pub ARunExists : Type 0
ARunExists =
    (plan : Plan) (texts : Texts) (left : Option (List ℕ)) → size_of texts (operands plan) + size_of (texts_or plan.made texts) (plan_streams plan) < MOST_BYTES
    → ((o : Outcome) → IsEnded plan texts left o → ⊥) → ⊥

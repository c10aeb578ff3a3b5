-- What happens in a run over streams, as a list of events, and the point that a run is at between two of them.
use Rattle.std.specs.Prelude.{◌≡◌, ℕ, ◌+◌, ◌-◌, ◌<◌, ◌≤◌, Bool, true, false, List, [], ◌∷◌, length, flat_map, Option, Some, None, fold}
use Rattle.std.specs.List.{AllByRecursion}
use Rattle.aut_base.specs.Automaton.{Automaton}
use Rattle.aut_base.specs.declared.limit.TheConstants.{MOST_BYTES}
use Rattle.aut_io.specs.Outside.{Texts, text_of}
use Rattle.autfilt_run.specs.Due.{IsDue}
use Rattle.autfilt_run.specs.Plans.{asks_on}
use Rattle.filter_plan.specs.declared.plan.Plan.{Plan}
use Rattle.hoa_lexer.specs.Blanks.{IsBlanks}
use Rattle.hoa_parser.specs.Raw.{Written}
use Rattle.hoa_parser.specs.Standing.{IsAborted, IsWhole}
use Rattle.hoa_reader.specs.Counts.{PassesNone}
use Rattle.hoa_reader.specs.Described.{described}
use Rattle.hoa_reader.specs.Validity.{IsValid}
use Rattle.plan_meaning.specs.Filters.{IsDropped, IsKept}

-- how many bytes of the text come before its rest
abbrev pub bytes_before : List ℕ → List ℕ → ℕ
bytes_before text rest = length text - length rest

-- A whole automaton is next in the rest, which begins `start` bytes after the start of the text. It is valid and within the
-- limits, and `next` follows it.
pub record IsGood (start : ℕ) (rest : List ℕ) (w : Written) (next : List ℕ) : Type 0 where
  pub whole : IsWhole start rest w next
  pub valid : IsValid w
  pub within : PassesNone w

pub data Event : Type 0 where
  -- the next stream, of this name, is opened
  Opened : List ℕ → Event
  -- an automaton is read and kept, and this text is written of it
  Kept : Written → List ℕ → Event
  -- an automaton is read and dropped
  Dropped : Written → Event
  -- an automaton of the stream of this name is abandoned, and skipped
  Skipped : List ℕ → Event
  -- only blanks are left of the stream
  Ended : Event

-- ---- where a run is

-- a stream that is open: its name, its text, and the rest that was not read yet
pub record Stream : Type 0 where
  pub name : List ℕ
  pub text : List ℕ
  pub rest : List ℕ

pub record Point : Type 0 where
  -- the names of the streams that were not opened yet
  pub coming : List (List ℕ)
  pub stream : Option Stream
  -- what is left in the inputs, where that is known
  pub left : Option (List ℕ)
  -- how many bytes were taken of the streams before
  pub before : ℕ
  -- how many automata were kept
  pub kept : ℕ

-- the point before files of these names are read, where the inputs have this left and so many bytes were taken before
abbrev pub start_of : List (List ℕ) → Option (List ℕ) → ℕ → Point
start_of names left before = record { coming = names; stream = None; left = left; before = before; kept = 0 }

-- the point where the stream of this name was opened
abbrev pub opened_at : Point → List (List ℕ) → List ℕ → List ℕ → Point
opened_at p others name text = record p { coming = others; stream = Some (record { name = name; text = text; rest = text }); left = Some text }

-- The open stream is read further: `read` says what is next in its rest, and the limit of bytes isn't passed.
pub record ReadsOn (p : Point) (read : ℕ → List ℕ → List ℕ → Type 0) (kept : ℕ) (q : Point) : Type 0 where
  pub stream : Stream
  pub is_open : p.stream ≡ Some stream
  pub next : List ℕ
  pub stands : read (bytes_before stream.text stream.rest) stream.rest next
  pub few : p.before + bytes_before stream.text next ≤ MOST_BYTES
  pub to : q ≡ record p { stream = Some (record stream { rest = next }); left = Some next; kept = kept }

-- An abandoned automaton of the stream of this name is skipped.
pub record PassesOver (name : List ℕ) (p q : Point) : Type 0 where
  pub reads : ReadsOn p IsAborted p.kept q
  pub named : reads.stream.name ≡ name

-- no stream is open, and the next one has this name
pub record OpensStream (texts : Texts) (name : List ℕ) (p q : Point) : Type 0 where
  pub closed : p.stream ≡ None
  pub others : List (List ℕ)
  pub next : p.coming ≡ name ∷ others
  pub to : q ≡ opened_at p others name (text_of texts name)

-- Only blanks are left of the open stream. Its end is seen by asking for another byte, which the limit allows.
pub record EndsStream (p q : Point) : Type 0 where
  pub stream : Stream
  pub is_open : p.stream ≡ Some stream
  pub blank : IsBlanks stream.rest
  pub few : p.before + length stream.text < MOST_BYTES
  pub to : q ≡ record p { stream = None; left = Some []; before = p.before + length stream.text }

-- Whether an event leads from one point to another.
abbrev pub EventLeads : Texts → Event → Point → Point → Type 0
EventLeads texts (Opened name) p q = OpensStream texts name p q
EventLeads texts (Kept w text) p q = ReadsOn p (λ start rest next. IsGood start rest w next) (p.kept + 1) q
EventLeads texts (Dropped w) p q = ReadsOn p (λ start rest next. IsGood start rest w next) p.kept q
EventLeads texts (Skipped name) p q = PassesOver name p q
EventLeads texts Ended p q = EndsStream p q

-- The events happen one after the other. Before each of them fewer automata were kept than `-n` asks for.
abbrev pub Happen : Plan → Texts → List Event → Point → Point → Type 0
Happen plan texts [] p q = p ≡ q
Happen plan texts (event ∷ events) p q = (asks_on plan p.kept ≡ true) × (m : Point) × EventLeads texts event p m × Happen plan texts events m q

-- ---- verdicts and texts, which don't depend on what is in the inputs

-- whether an automaton is kept is the verdict of the filters, and what is written of it is the text that is due
abbrev pub IsEventJudged : Plan → List Automaton → Event → Type 0
IsEventJudged plan ops (Kept w text) = IsKept plan ops (described w) × IsDue plan ops w text
IsEventJudged plan ops (Dropped w) = IsDropped plan ops (described w)
IsEventJudged plan ops _ = Unit {0}

abbrev pub AreJudged : Plan → List Automaton → List Event → Type 0
AreJudged plan ops = AllByRecursion (IsEventJudged plan ops)

-- what is written of an event
abbrev pub written_of : Event → List ℕ
written_of (Kept w text) = text
written_of _ = []

abbrev pub all_written : List Event → List ℕ
all_written = flat_map written_of

-- the names of the streams that were opened
abbrev pub opened_stream : Event → List (List ℕ)
opened_stream (Opened name) = name ∷ []
opened_stream (Kept w text) = []
opened_stream (Dropped w) = []
opened_stream (Skipped name) = []
opened_stream Ended = []

abbrev pub opened_streams : List Event → List (List ℕ)
opened_streams = flat_map opened_stream

-- whether a stream is open after an event, where one was before or not
abbrev pub open_by : Bool → Event → Bool
open_by before (Opened name) = true
open_by before (Kept w text) = before
open_by before (Dropped w) = before
open_by before (Skipped name) = before
open_by before Ended = false

-- how many automata were kept, and how many were skipped
pub record Tally : Type 0 where
  pub kept : ℕ
  pub skipped : ℕ

abbrev pub tally_with : Tally → Event → Tally
tally_with t (Kept w text) = record t { kept = t.kept + 1 }
tally_with t (Skipped name) = record t { skipped = t.skipped + 1 }
tally_with t _ = t

-- where none was kept before, and so many were skipped: in the files of operands
abbrev pub tally : ℕ → List Event → Tally
tally passed events = fold tally_with (record { kept = 0; skipped = passed }) events

-- What a reader answers, of what it has not read yet.
use Rattle.std.specs.Prelude.{◌≡◌, ◌↔◌, ℕ, ◌⊎◌, List, [], ◌∷◌, ◌++◌, Option, None, Result, Ok, Err}
use Rattle.hoa_lexer.specs.Moves.{Stop, AtEnd, AtFault, AtMost, Elsewhere}
use Rattle.hoa_lexer.specs.Reading.{unread}
use Rattle.hoa_lexer.specs.Spelling.{IsDelimited}
use Rattle.hoa_lexer.specs.Text.{AsksPast, IsNext}
use Rattle.hoa_lexer.specs.declared.token.Token.{Token}
use Rattle.hoa_parser.specs.Raw.{Written, written}
use Rattle.hoa_parser.specs.Standing.{AfterTokens, IsBad, IsDeep, IsWhole, Stands, Blank, Whole, Deep, Bad, Aborted, Cut}
use Rattle.hoa_parser.specs.declared.fault.ReadFault.{ReadFault}
use Rattle.hoa_parser.specs.declared.fault.ReadFault.TheVariants as fault
use Rattle.hoa_parser.specs.declared.read.Front.{Front}
use Rattle.hoa_parser.specs.declared.read.Front.TheVariants as front

-- An automaton may have begun, and one byte more is asked for.
abbrev pub AsksOn : ℕ → List ℕ → List ℕ → Type 0
AsksOn start text new = AfterTokens start text (λ tokens used rest. AsksPast rest new)

-- So it was before the last byte that was taken: nothing is taken past the byte that shows an answer.
pub record AskedForLast (start : ℕ) (text left : List ℕ) : Type 0 where
  pub byte : ℕ
  pub asked : AsksOn start text (byte ∷ left)

-- a token stands next, and `new` follows it
pub record HasToken (used : ℕ) (rest new : List ℕ) : Type 0 where
  pub next_token : Token
  pub offset : ℕ
  pub next : IsNext rest used next_token offset new

-- An automaton may have begun, and behind its closed tokens no more was read than bytes that ask for one more, or one more
-- token.
abbrev pub MayHaveBegun : ℕ → List ℕ → List ℕ → Type 0
MayHaveBegun start text new = AfterTokens start text (λ tokens used rest. AsksPast rest new ⊎ HasToken used rest new)

-- What each answer says of the unread bytes before and after. `start` is how many bytes of the text were used before.
abbrev pub AnswersFront : Result Front ReadFault → ℕ → List ℕ → List ℕ → Type 0
AnswersFront (Ok front.Blank) start old new = Stands Blank start old × (new ≡ [])
AnswersFront (Ok (front.Whole raw)) start old new = Stands (Whole (written raw) new) start old
AnswersFront (Ok front.Aborted) start old new = Stands (Aborted new) start old
AnswersFront (Err (fault.Syntax k)) start old new = Stands (Bad k) start old
AnswersFront (Err fault.Truncated) start old new = Stands Cut start old
AnswersFront (Err fault.Depth) start old new = Stands Deep start old
AnswersFront (Err fault.Bytes) start old new = AsksOn start old new
AnswersFront (Err fault.Read) start old new = AsksOn start old new
AnswersFront (Err fault.Memory) start old new = MayHaveBegun start old new

-- The bytes that were taken show that the text cannot go on at offset k as it does: no text that begins with them begins
-- with an automaton.
pub record IsHopeless (k start : ℕ) (old left : List ℕ) : Type 0 where
  pub used : List ℕ
  pub split : old ≡ used ++ left
  pub bad : IsBad start used k
  pub hopeless : (more : List ℕ) (w : Written) (rest : List ℕ) → IsWhole start (used ++ more) w rest → ⊥

-- A token opens one more than may be open, and `left` follows it, or the byte that closes it, where it needs one: nothing is taken
-- past that. It needs none if it is delimited where the input ends, as `(` and `!` are.
pub record EndsDeep (start : ℕ) (old left : List ℕ) : Type 0 where
  pub deep : IsDeep start old
  pub held : Option ℕ
  pub behind : deep.after ≡ unread held left
  pub needed : IsDelimited deep.next_token [] ↔ (held ≡ None)

-- What the bytes that were taken show. `left` is what is left in the inputs, behind a byte that is held.
abbrev pub Shows : Result Front ReadFault → ℕ → List ℕ → List ℕ → Type 0
Shows (Err (fault.Syntax k)) start old left = IsHopeless k start old left × AskedForLast start old left
Shows (Err fault.Depth) start old left = EndsDeep start old left × AskedForLast start old left
Shows (Ok front.Aborted) start old left = AskedForLast start old left
Shows (Err fault.Truncated) start old left = (left ≡ []) × AsksOn start old left
Shows _ start old left = Unit {0}

-- A byte may be held past a token that cannot stand where it does, and where memory was wanting; else none is.
abbrev pub HoldsBehind : Result Front ReadFault → Option ℕ → Type 0
HoldsBehind (Err (fault.Syntax k)) held = Unit {0}
HoldsBehind (Err fault.Memory) held = Unit {0}
HoldsBehind _ held = held ≡ None

-- where a reader came to its answer
abbrev pub stop_of_read_fault : ReadFault → Stop
stop_of_read_fault (fault.Syntax k) = Elsewhere
stop_of_read_fault fault.Truncated = AtEnd
stop_of_read_fault fault.Depth = Elsewhere
stop_of_read_fault fault.Bytes = AtMost
stop_of_read_fault fault.Read = AtFault
stop_of_read_fault fault.Memory = Elsewhere

abbrev pub stop_of_reading : {A : Type 0} → Result A ReadFault → Stop
stop_of_reading (Ok value) = Elsewhere
stop_of_reading (Err fault) = stop_of_read_fault fault

-- the same where only blanks are told at the end of the text
abbrev pub stop_of_front : Result Front ReadFault → Stop
stop_of_front (Ok front.Blank) = AtEnd
stop_of_front answer = stop_of_reading answer

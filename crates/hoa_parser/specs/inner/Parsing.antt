-- What the inner functions of the reader say of the bytes. Each reads a part of the automaton from a place on.
use Rattle.std.specs.Prelude.{◌≡◌, ◌≢◌, ℕ, ◌+◌, ◌-◌, ◌≤◌, ◌<◌, ◌⊎◌, Bool, true, false, not, is_some, List, [], ◌∷◌, ◌++◌, length, Option, Some, None, Result, Ok, Err}
use Rattle.std.specs.List.{AllByRecursion}
use Rattle.aut_base.specs.declared.limit.TheConstants.{MOST_DEPTH}
use Rattle.aut_io.specs.Seen.{Seen}
use Rattle.hoa_lexer.specs.Blanks.{IsBlanks, IsOpenComment}
use Rattle.hoa_lexer.specs.Moves.{MovesLexer, Elsewhere}
use Rattle.hoa_lexer.specs.Reading.{Tells, held_count, unread}
use Rattle.hoa_lexer.specs.Spelling.{closes_itself}
use Rattle.hoa_lexer.specs.Text.{AfterBlanks, AskedForOne, AsksPast, IsNext, IsOpenString, IsOpenToken, IsShownBy}
use Rattle.hoa_lexer.specs.declared.lexer.Lexer.{Lexer}
use Rattle.hoa_lexer.specs.declared.token.Token.{Token}
use Rattle.hoa_lexer.specs.declared.token.Token.TheVariants as token
use Rattle.hoa_parser.specs.inner.Expecting.{Part, parts_after, parts_behind}
use Rattle.hoa_parser.specs.Reads.{stop_of_read_fault}
use Rattle.hoa_parser.specs.Standing.{IsNoTokenAt}
use Rattle.hoa_parser.specs.declared.fault.ReadFault.{ReadFault}
use Rattle.hoa_parser.specs.declared.fault.ReadFault.TheVariants as fault

-- a token at hand, where it begins, how many bytes of the text were used with it, the byte behind it that is held, if
-- any, and the bytes behind it
pub record Cursor : Type 0 where
  pub token : Token
  pub offset : ℕ
  pub used : ℕ
  pub held : Option ℕ
  pub rest : List ℕ

-- the token of `b` is the next one after that of `a`, and a byte past it is held where that was needed to close it
pub record Follows (a b : Cursor) : Type 0 where
  pub next : IsNext a.rest a.used b.token b.offset b.rest
  pub used : b.used ≡ a.used + (length a.rest - length b.rest)
  pub holds : is_some b.held ≡ not (closes_itself b.token)

-- from `a` on these tokens were passed, and that of `b` is at hand
abbrev pub Passed : Cursor → List Token → Cursor → Type 0
Passed a [] b = a ≡ b
Passed a (t ∷ ts) b = (m : Cursor) × (t ≡ a.token) × Follows a m × Passed m ts b

-- The tokens lead to what is left of these parts, whatever is expected behind the parts.
pub record LeadsToParts (parts : List Part) (tokens : List Token) (left : List Part) : Type 0 where
  pub runs : (others : List Part) → parts_after MOST_DEPTH (parts ++ others) tokens ≡ Some (left ++ others)

-- an automaton ends with `--END--`, and only then
abbrev pub is_end : Token → Bool
is_end token.End = true
is_end _ = false

-- none of the tokens is `--END--`
abbrev pub Unended : List Token → Type 0
Unended = AllByRecursion (λ t. is_end t ≡ false)

-- From `a` on tokens were passed that lead from some expected parts to others, as the token of `b` shows.
pub record PassesTokens (parts : List Part) (a : Cursor) (target : List Part) (b : Cursor) : Type 0 where
  pub tokens : List Token
  pub passed : Passed a tokens b
  pub left : List Part
  pub leads : LeadsToParts parts tokens left
  pub unended : Unended tokens
  pub over : (most : ℕ) (others : List Part) → parts_behind most (left ++ others) b.token ≡ parts_behind most (target ++ others) b.token

-- The token of `b`, which the reader has at hand, cannot stand where it does.
pub record RefusesToken (parts : List Part) (a b : Cursor) : Type 0 where
  pub target : List Part
  pub goes : PassesTokens parts a target b
  pub refused : (most : ℕ) (others : List Part) → parts_behind most (target ++ others) b.token ≡ None

-- It opens one more than may be open.
pub record TooDeep (parts : List Part) (a b : Cursor) : Type 0 where
  pub target : List Part
  pub goes : PassesTokens parts a target b
  pub refused : (others : List Part) → parts_behind MOST_DEPTH (target ++ others) b.token ≡ None
  pub most : ℕ
  pub more : MOST_DEPTH ≤ most
  pub left : List Part
  pub taken : (others : List Part) → parts_behind most (target ++ others) b.token ≡ Some (left ++ others)

-- why a reader stops at the token that it has at hand
abbrev pub HaltsHere : ReadFault → List Part → Cursor → Cursor → Type 0
HaltsHere (fault.Syntax k) parts a b = RefusesToken parts a b × (k ≡ b.offset)
HaltsHere fault.Depth parts a b = TooDeep parts a b
HaltsHere fault.Memory parts a b = (target : List Part) × PassesTokens parts a target b
HaltsHere _ parts a b = ⊥

-- a text ends inside a comment, a string or another token
abbrev pub EndsOpen : List ℕ → Type 0
EndsOpen rest = AfterBlanks rest IsOpenComment ⊎ (AfterBlanks rest IsOpenString ⊎ AfterBlanks rest IsOpenToken)

-- why the lexer gave no token behind `used` bytes of the text, where `new` is unread afterwards
abbrev pub Unlexed : ReadFault → ℕ → List ℕ → List ℕ → Type 0
Unlexed (fault.Syntax k) used rest new = IsNoTokenAt k used rest × AskedForOne rest new × IsShownBy k used rest new
Unlexed fault.Truncated used rest new = (IsBlanks rest ⊎ EndsOpen rest) × (new ≡ [])
Unlexed fault.Depth used rest new = ⊥
Unlexed fault.Bytes used rest new = AsksPast rest new
Unlexed fault.Read used rest new = AsksPast rest new
Unlexed fault.Memory used rest new = AsksPast rest new

-- Behind a token that could stand there the lexer gave no other, and stopped at `last`.
pub record Unread (fault : ReadFault) (parts : List Part) (a last : Cursor) : Type 0 where
  pub target : List Part
  pub b : Cursor
  pub goes : PassesTokens parts a target b
  pub left : List Part
  pub taken : (others : List Part) → parts_behind MOST_DEPTH (target ++ others) b.token ≡ Some (left ++ others)
  pub unended : is_end b.token ≡ false
  pub bytes : Unlexed fault b.used b.rest last.rest
  pub held : last.held ≡ None
  pub no_abort : last.token ≢ token.Abort

-- why these parts could not be read from `a` on, where the reader stopped at `last`
abbrev pub FailsParts : ReadFault → List Part → Cursor → Cursor → Type 0
FailsParts fault parts a last = HaltsHere fault parts a last ⊎ Unread fault parts a last

-- All that a reader sees and changes: the lexer, the token at hand, and the inputs as far as they tell.
pub record State : Type 0 where
  pub lexer : Lexer
  pub ahead : Token
  pub seen : Seen

abbrev pub reader_state : Lexer → Token → Seen → State
reader_state lexer ahead seen = record { lexer = lexer; ahead = ahead; seen = seen }

-- the place where a reader stands, where this is left of the inputs
abbrev pub cursor_of : State → List ℕ → Cursor
cursor_of s left = record { token = s.ahead; offset = s.lexer.offset; used = s.lexer.since - held_count s.lexer.held; held = s.lexer.held; rest = unread s.lexer.held left }

-- what is true of two places
abbrev pub Relation : Type 1
Relation = Cursor → Cursor → Type 0

-- it is true of the places before and after, where the inputs tell what is left
abbrev pub HoldsOfPlaces : State → State → Relation → Type 0
HoldsOfPlaces s s' A = Tells s.seen s'.seen (λ x y. A (cursor_of s x) (cursor_of s' y))

-- a byte past the token at hand is held exactly where it was needed to close it
abbrev pub HoldsNeeded : State → Type 0
HoldsNeeded s = is_some s.lexer.held ≡ not (closes_itself s.ahead)

-- the fault is that `--ABORT--` cannot stand there
abbrev pub Abandons : ReadFault → Token → Type 0
Abandons (fault.Syntax k) z = z ≡ token.Abort
Abandons _ z = ⊥

-- After a fault no byte is held, but for one past a token that was refused, or read before memory was wanting. Where
-- that token is `--ABORT--`, none is, and the lexer may be used on.
abbrev pub LeavesReader : ReadFault → State → Type 0
LeavesReader (fault.Syntax k) s = Abandons (fault.Syntax k) s.ahead → (s.lexer.held ≡ None) × (s.lexer.spent ≡ false)
LeavesReader fault.Memory s = Unit {0}
LeavesReader _ s = s.lexer.held ≡ None

-- something was read: a byte was used
abbrev pub Uses : Lexer → Lexer → Type 0
Uses old new = old.taken + held_count new.held < new.taken + held_count old.held

-- The next token came.
pub record Advanced (s s' : State) : Type 0 where
  pub moves : MovesLexer Elsewhere s.lexer s'.lexer s.seen s'.seen
  pub uses : Uses s.lexer s'.lexer
  pub spent : s'.lexer.spent ≡ false
  pub holds : HoldsNeeded s'
  pub text : HoldsOfPlaces s s' Follows

-- No token came, and the one at hand stays.
pub record Unadvanced (fault : ReadFault) (s s' : State) : Type 0 where
  pub moves : MovesLexer (stop_of_read_fault fault) s.lexer s'.lexer s.seen s'.seen
  pub held : s'.lexer.held ≡ None
  pub stays : s'.ahead ≡ s.ahead
  pub text : HoldsOfPlaces s s' (λ a b. Unlexed fault a.used a.rest b.rest)

abbrev pub AdvancesReader : {T : Type 0} → Result T ReadFault → State → State → Type 0
AdvancesReader (Ok value) s s' = Advanced s s'
AdvancesReader (Err fault) s s' = Unadvanced fault s s'

-- The parts were read as far as `target`, and `A` is true of the places before and after.
pub record ReadsTo (parts target : List Part) (A : Relation) (s s' : State) : Type 0 where
  pub moves : MovesLexer Elsewhere s.lexer s'.lexer s.seen s'.seen
  pub spent : s'.lexer.spent ≡ false
  pub holds : HoldsNeeded s → HoldsNeeded s'
  pub text : HoldsOfPlaces s s' (λ a b. A a b × PassesTokens parts a target b)

-- They could not be read.
pub record FailsAt (fault : ReadFault) (parts : List Part) (s s' : State) : Type 0 where
  pub moves : MovesLexer (stop_of_read_fault fault) s.lexer s'.lexer s.seen s'.seen
  pub leaves : HoldsNeeded s → LeavesReader fault s'
  pub text : HoldsOfPlaces s s' (FailsParts fault parts)

-- What an answer says: the parts were read as far as `target`, and `Q` is true of the value, or they could not be.
abbrev pub ReadsParts : {T : Type 0} → List Part → List Part → (T → Relation) → Result T ReadFault → State → State → Type 0
ReadsParts parts target Q (Ok value) s s' = ReadsTo parts target (Q value) s s'
ReadsParts parts target Q (Err fault) s s' = FailsAt fault parts s s'

-- It is written so from `a` to `b`.
pub record IsWritten {X Y : Type 0} (Within : X → Type 0) (tokens : X → List Token) (meaning : X → Y) (value : Y) (a b : Cursor) : Type 0 where
  pub phrase : X
  pub within : Within phrase
  pub passed : Passed a (tokens phrase) b
  pub means : value ≡ meaning phrase

-- What an answer of the lexer means for the bytes that were unread before it.
use Rattle.std.specs.Prelude.{◌≡◌, ◌≢◌, ◌⊎◌, ℕ, ◌+◌, Bool, true, false, List, [], ◌∷◌, ◌++◌, length, Option, Some, None, Result, Ok, Err, is_some, not}
use Rattle.aut_io.specs.Seen.{Seen}
use Rattle.hoa_lexer.specs.Blanks.{IsBlanks, IsOpenComment}
use Rattle.hoa_lexer.specs.Bytes.{is_space}
use Rattle.hoa_lexer.specs.Spelling.{closes_itself}
use Rattle.hoa_lexer.specs.Text.{IsNext, AfterBlanks, IsOpenString, IsOpenToken, IsNoToken, AskedForOne, AsksPast, IsShownBy}
use Rattle.hoa_lexer.specs.declared.token.LexFault.{LexFault}
use Rattle.hoa_lexer.specs.declared.token.LexFault.TheVariants.{BadToken, OpenComment, OpenString, OpenToken, Read, Bytes, Memory}
use Rattle.hoa_lexer.specs.declared.token.Token.{Token}

-- the byte that is held, if any, and then what the inputs have left
abbrev pub unread : Option ℕ → List ℕ → List ℕ
unread None left = left
unread (Some b) left = b ∷ left

-- how many bytes are held
abbrev pub held_count : Option ℕ → ℕ
held_count None = 0
held_count (Some b) = 1

-- `P` of what the inputs had left before and have left after, where that is known
abbrev pub Between : Option (List ℕ) → Option (List ℕ) → (List ℕ → List ℕ → Type 0) → Type 0
Between None new P = new ≡ None
Between (Some old) None P = ⊥
Between (Some old) (Some new) P = P old new

abbrev pub Tells : Seen → Seen → (List ℕ → List ℕ → Type 0) → Type 0
Tells seen seen' P = Between seen.left seen'.left P

-- What each answer means for the unread bytes before (`old`) and after (`new`). `start` is how many bytes of the text were
-- used before, and `offset` the lexer's offset after the call.
abbrev pub AnswersToken : Result (Option Token) LexFault → ℕ → ℕ → List ℕ → List ℕ → Type 0
AnswersToken (Ok (Some token)) start offset old new = IsNext old start token offset new
AnswersToken (Ok None) start offset old new = IsBlanks old × (new ≡ [])
AnswersToken (Err (BadToken k)) start offset old new =
    AfterBlanks old (λ bytes. (k + length bytes ≡ start + length old) × IsNoToken bytes) × AskedForOne old new
    × IsShownBy k start old new
AnswersToken (Err OpenComment) start offset old new = AfterBlanks old IsOpenComment × (new ≡ [])
AnswersToken (Err OpenString) start offset old new = AfterBlanks old IsOpenString × (new ≡ [])
AnswersToken (Err OpenToken) start offset old new = AfterBlanks old IsOpenToken × (new ≡ [])
AnswersToken (Err Bytes) start offset old new = AsksPast old new
AnswersToken (Err Read) start offset old new = AsksPast old new
AnswersToken (Err Memory) start offset old new = AsksPast old new

-- The answer of a call that replaces a token, as the answer of a call that returns one: true is Some of the new token, false
-- is None.
abbrev pub renewed : Result Bool LexFault → Token → Result (Option Token) LexFault
renewed (Ok true) token = Ok (Some token)
renewed (Ok false) token = Ok None
renewed (Err fault) token = Err fault

-- where no token was read, the old one stays
abbrev pub Stays : Result Bool LexFault → Token → Token → Type 0
Stays (Ok true) old new = Unit {0}
Stays (Ok false) old new = new ≡ old
Stays (Err fault) old new = new ≡ old

-- a token can begin so, and no blank does
abbrev pub BeginsToken : List ℕ → Type 0
BeginsToken [] = ⊥
BeginsToken (b ∷ bytes) = (is_space b ≡ false) × (b ≢ 47)

-- nothing, or only what a comment could begin with
abbrev pub BeginsNoToken : List ℕ → Type 0
BeginsNoToken [] = Unit {0}
BeginsNoToken (b ∷ bytes) = b ≡ 47

-- The offset is where the first token begins in the bytes that were used; or it is unchanged, and no token begins in them.
-- They begin `start` bytes after the start of the text.
pub record IsOffsetPlaced (start offset offset' : ℕ) (used : List ℕ) : Type 0 where
  pub before : List ℕ
  pub bytes : List ℕ
  pub split : used ≡ before ++ bytes
  pub blanks : IsBlanks before
  pub place : BeginsToken bytes × (offset' ≡ start + length before) ⊎ BeginsNoToken bytes × (offset' ≡ offset)

-- The offset after an answer. For a token, `AnswersToken` says it.
abbrev pub PlacesOffset : Result (Option Token) LexFault → ℕ → ℕ → ℕ → List ℕ → List ℕ → Type 0
PlacesOffset (Ok (Some token)) start offset offset' old new = Unit {0}
PlacesOffset (Ok None) start offset offset' old new = offset' ≡ offset
PlacesOffset (Err fault) start offset offset' old new = (used : List ℕ) × (old ≡ used ++ new) × IsOffsetPlaced start offset offset' used

-- A byte past the token is held exactly where that byte was needed to close it. After a fault none is held.
abbrev pub HoldsPast : Result (Option Token) LexFault → Option ℕ → Type 0
HoldsPast (Ok None) held = held ≡ None
HoldsPast (Ok (Some token)) held = is_some held ≡ not (closes_itself token)
HoldsPast (Err fault) held = held ≡ None

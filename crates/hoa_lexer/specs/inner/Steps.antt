-- What the lexer's inner functions ensure.
use Rattle.std.specs.Prelude.{◌≡◌, ◌≢◌, ℕ, zero, suc, ◌≤◌, ◌&&◌, ◌==◌, true, false, if◌then◌else◌, List, [], ◌∷◌, ◌++◌, length, codes, is_some, not, Option, Some, None, Result, Ok, Err, ◌⊎◌}
use Rattle.std.specs.List.{list_all}
use Rattle.aut_io.specs.Seen.{Seen}
use Rattle.hoa_lexer.specs.Blanks.{IsBlanks}
use Rattle.hoa_lexer.specs.Bytes.{is_space, is_word}
use Rattle.hoa_lexer.specs.Moves.{MovesLexer, Stop}
use Rattle.hoa_lexer.specs.Reading.{AnswersToken, BeginsNoToken}
use Rattle.hoa_lexer.specs.Spelling.{Quotes, closes_itself}
use Rattle.hoa_lexer.specs.Text.{IsFront, HasFront, BeginsToken, IsOpenString, IsOpenToken, IsNoToken}
use Rattle.hoa_lexer.specs.declared.lexer.Lexer.{Lexer}
use Rattle.hoa_lexer.specs.declared.token.LexFault.{LexFault}
use Rattle.hoa_lexer.specs.declared.token.LexFault.TheVariants.{BadToken, OpenComment, OpenString, OpenToken, Read, Bytes, Memory}
use Rattle.hoa_lexer.specs.declared.token.Token.{Token}
use Rattle.hoa_lexer.specs.declared.token.Token.TheVariants.{Bang, Amp, Bar, LeftParen, RightParen, LeftBrace, RightBrace, LeftBracket, RightBracket, Body, End, Abort}

-- From one state of a lexer to a later one, where the offset of the token stays.
pub record AdvancesLexer (stop : Stop) (old new : Lexer) (seen seen' : Seen) : Type 0 where
  pub moves : MovesLexer stop old new seen seen'
  pub offset : new.offset ≡ old.offset

-- a byte that was looked at is the next of the unread ones
abbrev pub Peeks : Result (Option ℕ) LexFault → List ℕ → List ℕ → Type 0
Peeks (Ok (Some b)) old left = old ≡ b ∷ left
Peeks (Ok None) old left = (old ≡ []) × (left ≡ [])
Peeks (Err fault) old left = old ≡ left

-- a byte that was read is held, and else none
abbrev pub HoldsRead : Result (Option ℕ) LexFault → Option ℕ → Type 0
HoldsRead (Ok byte) held = held ≡ byte
HoldsRead (Err fault) held = held ≡ None

-- the faults that reading a byte can have
abbrev pub IsReadFault : LexFault → Type 0
IsReadFault Read = Unit {0}
IsReadFault Bytes = Unit {0}
IsReadFault _ = ⊥

-- What follows the end of this many open comments, where they are closed.
abbrev pub closing : ℕ → List ℕ → Option (List ℕ)
closing zero bytes = Some bytes
closing (suc depth) [] = None
closing (suc depth) (b ∷ []) = None
closing (suc depth) (b ∷ c ∷ bytes) =
    if (b == 42) && (c == 47) then closing depth bytes
    else (if (b == 47) && (c == 42) then closing (suc (suc depth)) bytes else closing (suc depth) (c ∷ bytes))

-- one step inside nested comments, from one depth to the next
abbrev pub StepsIn : Result ℕ LexFault → ℕ → List ℕ → List ℕ → Type 0
StepsIn (Ok next) depth old new = (closing next new ≡ closing depth old) × (seen : List ℕ) × (old ≡ seen ++ new)
StepsIn (Err OpenComment) depth old new = (closing depth old ≡ None) × (new ≡ [])
StepsIn (Err Bytes) depth old new = (seen : List ℕ) × (old ≡ seen ++ new) × (length seen ≤ 1)
StepsIn (Err Read) depth old new = (seen : List ℕ) × (old ≡ seen ++ new) × (length seen ≤ 1)
StepsIn (Err _) depth old new = ⊥

-- the rest of an open comment
abbrev pub ClosesComment : Result (Unit {0}) LexFault → List ℕ → List ℕ → Type 0
ClosesComment (Ok done) old new = closing 1 old ≡ Some new
ClosesComment (Err OpenComment) old new = (closing 1 old ≡ None) × (new ≡ [])
ClosesComment (Err Bytes) old new = (seen : List ℕ) × (old ≡ seen ++ new) × (closing 1 seen ≡ None)
ClosesComment (Err Read) old new = (seen : List ℕ) × (old ≡ seen ++ new) × (closing 1 seen ≡ None)
ClosesComment (Err _) old new = ⊥

-- blanks were used
pub record PassesBlanks (old new : List ℕ) : Type 0 where
  pub before : List ℕ
  pub split : old ≡ before ++ new
  pub blanks : IsBlanks before

-- a comment, or why there is none after a `/`
abbrev pub SkipsComment : Result (Unit {0}) LexFault → ℕ → List ℕ → List ℕ → Type 0
SkipsComment (Ok done) start old new = PassesBlanks old new
SkipsComment (Err fault) start old new = AnswersToken (Err fault) start 0 old new

-- blanks, up to a byte that is none or the end of the text
abbrev pub SkipsBlanks : Result (Option ℕ) LexFault → ℕ → List ℕ → List ℕ → Type 0
SkipsBlanks (Ok (Some b)) start old new = PassesBlanks old new
SkipsBlanks (Ok None) start old new = IsBlanks old × (new ≡ [])
SkipsBlanks (Err fault) start old new = AnswersToken (Err fault) start 0 old new

-- at a fault among blanks, none of the bytes that were used begins a token
pub record UsesBlanks (old new : List ℕ) : Type 0 where
  pub before : List ℕ
  pub bytes : List ℕ
  pub split : old ≡ (before ++ bytes) ++ new
  pub blanks : IsBlanks before
  pub none : BeginsNoToken bytes

abbrev pub BeginsNone : Result (Option ℕ) LexFault → List ℕ → List ℕ → Type 0
BeginsNone (Ok byte) old new = Unit {0}
BeginsNone (Err fault) old new = UsesBlanks old new

-- a byte that begins no blank, if there is one
abbrev pub IsSolid : Result (Option ℕ) LexFault → Type 0
IsSolid (Ok (Some b)) = (is_space b ≡ false) × (b ≢ 47)
IsSolid _ = Unit {0}

-- letters, digits and `-` were used and added to the end of the name
pub record AddsWord (name name' old new : List ℕ) : Type 0 where
  pub seen : List ℕ
  pub named : name' ≡ name ++ seen
  pub words : list_all is_word seen ≡ true
  pub split : old ≡ seen ++ new

-- letters, digits and `-` were used
pub record TakesWord (old new : List ℕ) : Type 0 where
  pub seen : List ℕ
  pub words : list_all is_word seen ≡ true
  pub split : old ≡ seen ++ new

-- all letters, digits and `-` that come next, up to another byte or the end of the text
abbrev pub AddsWords : Result (Option ℕ) LexFault → List ℕ → List ℕ → List ℕ → List ℕ → Type 0
AddsWords (Ok (Some b)) name name' old left = AddsWord name name' old (b ∷ left) × (is_word b ≡ false)
AddsWords (Ok None) name name' old left = AddsWord name name' old [] × (left ≡ [])
AddsWords (Err Bytes) name name' old left = TakesWord old left
AddsWords (Err Read) name name' old left = TakesWord old left
AddsWords (Err Memory) name name' old left = TakesWord old left
AddsWords (Err _) name name' old left = ⊥

-- the part of an escape that denotes no byte yet: nothing, or `\`
abbrev pub IsHalf : List ℕ → Type 0
IsHalf bytes = (bytes ≡ []) ⊎ (bytes ≡ 92 ∷ [])

-- the next byte that a string denotes, or its closing quote
abbrev pub ReadsQuoted : Result (Option ℕ) LexFault → List ℕ → List ℕ → Type 0
ReadsQuoted (Ok (Some b)) old left = (seen : List ℕ) × Quotes seen (b ∷ []) × (old ≡ seen ++ left)
ReadsQuoted (Ok None) old left = old ≡ 34 ∷ left
ReadsQuoted (Err OpenString) old left = IsHalf old × (left ≡ [])
ReadsQuoted (Err Bytes) old left = (seen : List ℕ) × IsHalf seen × (old ≡ seen ++ left)
ReadsQuoted (Err Read) old left = (seen : List ℕ) × IsHalf seen × (old ≡ seen ++ left)
ReadsQuoted (Err _) old left = ⊥

-- the bytes that were used contain no complete token, and can be continued so that they do
pub record Pauses (old new : List ℕ) : Type 0 where
  pub at_hand : List ℕ
  pub split : old ≡ at_hand ++ new
  pub some : at_hand ≢ []
  pub unclosed : HasFront at_hand → ⊥
  pub begins : BeginsToken at_hand

-- a byte was used, after bytes that leave a token incomplete, or after none
pub record TriesByte (old new : List ℕ) : Type 0 where
  pub byte : ℕ
  pub past : (old ≡ byte ∷ new) ⊎ Pauses old (byte ∷ new)

-- the bytes that were used begin no token, whatever follows them
pub record ShowsNone (old new : List ℕ) : Type 0 where
  pub used : List ℕ
  pub split : old ≡ used ++ new
  pub none : IsNoToken used

-- the answer of a call that replaces a token, as the answer of a call that returns one
abbrev pub put : Result (Unit {0}) LexFault → Token → Result Token LexFault
put (Ok done) token = Ok token
put (Err fault) token = Err fault

-- the token that comes next, where no blank does
abbrev pub ReadsToken : Result Token LexFault → ℕ → List ℕ → List ℕ → Type 0
ReadsToken (Ok token) offset old new = IsFront old token new
ReadsToken (Err (BadToken k)) offset old new = (k ≡ offset) × IsNoToken old × TriesByte old new × ShowsNone old new
ReadsToken (Err OpenString) offset old new = IsOpenString old × (new ≡ [])
ReadsToken (Err OpenToken) offset old new = IsOpenToken old × (new ≡ [])
ReadsToken (Err Bytes) offset old new = Pauses old new
ReadsToken (Err Read) offset old new = Pauses old new
ReadsToken (Err Memory) offset old new = Pauses old new
ReadsToken (Err OpenComment) offset old new = ⊥

-- a byte past the token is held exactly where it was needed to close it, and none after a fault
abbrev pub HoldsAfter : Result Token LexFault → Option ℕ → Type 0
HoldsAfter (Ok token) held = is_some held ≡ not (closes_itself token)
HoldsAfter (Err fault) held = held ≡ None

-- the token is spelled `--`, the letter and the tail
abbrev pub IsDashed : Token → ℕ → List ℕ → Type 0
IsDashed Body letter tail = (letter ≡ 66) × (tail ≡ codes "ODY--")
IsDashed End letter tail = (letter ≡ 69) × (tail ≡ codes "ND--")
IsDashed Abort letter tail = (letter ≡ 65) × (tail ≡ codes "BORT--")
IsDashed _ letter tail = ⊥

-- How far the next bytes agree with a word: `seen` is the prefix that agrees, and `b` the byte of the word after it.
pub record Expects (word seen : List ℕ) (b : ℕ) : Type 0 where
  pub rest : List ℕ
  pub split : word ≡ seen ++ b ∷ rest

-- the next bytes are those of the word, or why they aren't
abbrev pub ReadsWord : Result (Unit {0}) LexFault → List ℕ → ℕ → List ℕ → List ℕ → Type 0
ReadsWord (Ok done) word offset old new = old ≡ word ++ new
ReadsWord (Err (BadToken k)) word offset old new =
    (k ≡ offset) × (seen : List ℕ) × (b : ℕ) × (c : ℕ) × Expects word seen b × (old ≡ seen ++ c ∷ new) × (c ≢ b)
ReadsWord (Err OpenToken) word offset old new = (b : ℕ) × Expects word old b × (new ≡ [])
ReadsWord (Err Bytes) word offset old new = (seen : List ℕ) × (b : ℕ) × Expects word seen b × (old ≡ seen ++ new)
ReadsWord (Err Read) word offset old new = (seen : List ℕ) × (b : ℕ) × Expects word seen b × (old ≡ seen ++ new)
ReadsWord (Err _) word offset old new = ⊥

-- the mark is spelled by this byte
abbrev pub IsSign : Token → ℕ → Type 0
IsSign Bang b = b ≡ 33
IsSign Amp b = b ≡ 38
IsSign Bar b = b ≡ 124
IsSign LeftParen b = b ≡ 40
IsSign RightParen b = b ≡ 41
IsSign LeftBrace b = b ≡ 123
IsSign RightBrace b = b ≡ 125
IsSign LeftBracket b = b ≡ 91
IsSign RightBracket b = b ≡ 93
IsSign _ b = ⊥

-- The tokens of a text: blanks, and then the longest token that the bytes allow (maximal munch), again and again.
use Rattle.std.specs.Prelude.{◌≡◌, ◌≢◌, ℕ, ◌+◌, ◌-◌, ◌⊎◌, true, List, [], ◌∷◌, ◌++◌, length}
use Rattle.hoa_lexer.specs.Blanks.{IsBlanks}
use Rattle.hoa_lexer.specs.Bytes.{is_space}
use Rattle.hoa_lexer.specs.Spelling.{Spells, IsDelimited, Quotes}
use Rattle.hoa_lexer.specs.declared.token.Token.{Token}

-- the bytes begin with this token, which is complete, and go on with `rest`
pub record IsFront (bytes : List ℕ) (token : Token) (rest : List ℕ) : Type 0 where
  pub word : List ℕ
  pub split : bytes ≡ word ++ rest
  pub spells : Spells token word
  pub ends : IsDelimited token rest

-- the bytes begin with a complete token
pub record HasFront (bytes : List ℕ) : Type 0 where
  pub token : Token
  pub rest : List ℕ
  pub front : IsFront bytes token rest

-- the bytes can be continued so that they begin with a complete token
pub record BeginsToken (bytes : List ℕ) : Type 0 where
  pub more : List ℕ
  pub front : HasFront (bytes ++ more)

-- The next token of the input, which begins `start` bytes after the start of the text: blanks, and then the token.
pub record IsNext (input : List ℕ) (start : ℕ) (token : Token) (offset : ℕ) (rest : List ℕ) : Type 0 where
  pub before : List ℕ
  pub bytes : List ℕ
  pub split : input ≡ before ++ bytes
  pub blanks : IsBlanks before
  pub place : offset ≡ start + length before
  pub front : IsFront bytes token rest

-- The tokens of the input, each with its offset, and what follows the last of them.
abbrev pub Lexes : List ℕ → ℕ → List (Token × ℕ) → List ℕ → Type 0
Lexes input start [] rest = input ≡ rest
Lexes input start (t ∷ ts) rest =
    (next : List ℕ) × IsNext input start t.0 t.1 next × Lexes next (start + (length input - length next)) ts rest

-- after blanks come bytes of which `P` holds
pub record AfterBlanks (input : List ℕ) (P : List ℕ → Type 0) : Type 0 where
  pub before : List ℕ
  pub bytes : List ℕ
  pub split : input ≡ before ++ bytes
  pub blanks : IsBlanks before
  pub holds : P bytes

-- the text ends inside a string
pub record IsOpenString (bytes : List ℕ) : Type 0 where
  pub rest : List ℕ
  pub opens : bytes ≡ 34 ∷ rest
  pub open_still : (inner text more : List ℕ) → rest ≡ inner ++ 34 ∷ more → Quotes inner text → ⊥

-- the text ends inside a token that could still be completed, or after a `/` that could open a comment
pub record IsOpenToken (bytes : List ℕ) : Type 0 where
  pub some : bytes ≢ []
  pub no_string : (rest : List ℕ) → bytes ≢ 34 ∷ rest
  pub unclosed : HasFront bytes → ⊥
  pub begins : (bytes ≡ 47 ∷ []) ⊎ BeginsToken bytes

-- no blank, comment or token begins here, whatever follows
pub record IsNoToken (bytes : List ℕ) : Type 0 where
  pub some : bytes ≢ []
  pub no_space : (b : ℕ) (rest : List ℕ) → bytes ≡ b ∷ rest → is_space b ≡ true → ⊥
  pub no_comment : (rest : List ℕ) → bytes ≢ 47 ∷ 42 ∷ rest
  pub no_slash : bytes ≢ 47 ∷ []
  pub no_token : BeginsToken bytes → ⊥

-- the bytes read so far contain no complete token, and can be continued so that they do
pub record AsksForMore (at_hand : List ℕ) : Type 0 where
  pub unclosed : AfterBlanks at_hand HasFront → ⊥
  pub more : List ℕ
  pub closes : AfterBlanks (at_hand ++ more) HasFront

-- the bytes that were read leave a token incomplete
pub record AsksPast (old new : List ℕ) : Type 0 where
  pub at_hand : List ℕ
  pub split : old ≡ at_hand ++ new
  pub asks : AsksForMore at_hand

-- the bytes before the last one that was used leave a token incomplete
pub record AskedForOne (old new : List ℕ) : Type 0 where
  pub at_hand : List ℕ
  pub byte : ℕ
  pub split : old ≡ at_hand ++ byte ∷ new
  pub asks : AsksForMore at_hand

-- The bytes that were used decide it, whatever follows them: after blanks among them come bytes with which no token begins,
-- at offset `k`.
pub record IsShownBy (k start : ℕ) (old new : List ℕ) : Type 0 where
  pub used : List ℕ
  pub split : old ≡ used ++ new
  pub shows : AfterBlanks used (λ bytes. (k + length bytes ≡ start + length used) × IsNoToken bytes)

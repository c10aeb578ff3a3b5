-- The statements of the lexer's laws: a text has one list of tokens, and the last byte of a token was needed.
use Rattle.std.specs.Prelude.{◌≡◌, ℕ, ◌+◌, ◌==◌, true, is_some, not, length, Option, List, [], ◌∷◌, ◌++◌, map}
use Rattle.std.specs.List.{list_all}
use Rattle.hoa_lexer.specs.Blanks.{IsBlanks, IsOpenComment}
use Rattle.hoa_lexer.specs.Reading.{unread}
use Rattle.hoa_lexer.specs.Spelling.{Spells, closes_itself}
use Rattle.hoa_lexer.specs.Text.{AfterBlanks, AskedForOne, IsNext, IsNoToken, IsOpenString, IsOpenToken, Lexes}
use Rattle.hoa_lexer.specs.declared.token.Token.{Token}

-- A text has at most one next token.
abbrev pub OneNextToken : Type 0
OneNextToken =
    (input : List ℕ) (start : ℕ) (t u : Token) (i k : ℕ) (rest rest' : List ℕ)
    → IsNext input start t i rest → IsNext input start u k rest' → (t ≡ u) × (i ≡ k) × (rest ≡ rest')

-- So a text that ends in blanks has at most one list of tokens.
abbrev pub OneTokenList : Type 0
OneTokenList =
    (input : List ℕ) (start : ℕ) (ts us : List (Token × ℕ)) (rest rest' : List ℕ)
    → Lexes input start ts rest → IsBlanks rest → Lexes input start us rest' → IsBlanks rest' → (ts ≡ us) × (rest ≡ rest')

-- What comes next in a text: only blanks, a token with its offset and what follows it, an offset at which no token can begin,
-- or an end inside a comment, a string or another token.
pub data Next : Type 0 where
  NoMore : Next
  OneToken : Token → ℕ → List ℕ → Next
  NoToken : ℕ → Next
  InComment : Next
  InString : Next
  InToken : Next

abbrev pub StandsNext : Next → ℕ → List ℕ → Type 0
StandsNext NoMore start text = IsBlanks text
StandsNext (OneToken token offset rest) start text = IsNext text start token offset rest
StandsNext (NoToken k) start text = AfterBlanks text (λ bytes. (k + length bytes ≡ start + length text) × IsNoToken bytes)
StandsNext InComment start text = AfterBlanks text IsOpenComment
StandsNext InString start text = AfterBlanks text IsOpenString
StandsNext InToken start text = AfterBlanks text IsOpenToken

-- At most one of these is so of a text.
abbrev pub OneNext : Type 0
OneNext = (start : ℕ) (text : List ℕ) (a b : Next) → StandsNext a start text → StandsNext b start text → a ≡ b

-- At least one is.
abbrev pub SomeNext : Type 0
SomeNext = (start : ℕ) (text : List ℕ) → ((a : Next) → StandsNext a start text → ⊥) → ⊥

-- A token never takes a byte too many: the bytes before its last one contain no complete token, and can be continued so that
-- they do. A byte past the token is held exactly where it was needed to see its end.
abbrev pub LastIsAskedFor : Type 0
LastIsAskedFor =
    (input : List ℕ) (start offset : ℕ) (token : Token) (held : Option ℕ) (left : List ℕ)
    → IsNext input start token offset (unread held left) → is_some held ≡ not (closes_itself token) → AskedForOne input left

-- one or more spaces
abbrev pub IsGap : List ℕ → Type 0
IsGap [] = ⊥
IsGap (b ∷ bs) = list_all (λ c. c == 32) (b ∷ bs) ≡ true

-- the tokens, each followed by spaces
abbrev pub IsSpelledApart : List Token → List ℕ → Type 0
IsSpelledApart [] text = text ≡ []
IsSpelledApart (t ∷ ts) text =
    (word : List ℕ) × (gap : List ℕ) × (more : List ℕ) × Spells t word × IsGap gap × IsSpelledApart ts more × (text ≡ word ++ (gap ++ more))

-- these are the tokens of the text, which begins `start` bytes after the start of its whole
pub record HasTokens (text : List ℕ) (start : ℕ) (ts : List Token) : Type 0 where
  pub placed : List (Token × ℕ)
  pub rest : List ℕ
  pub tokens : map (λ p. p.0) placed ≡ ts
  pub lexes : Lexes text start placed rest
  pub blanks : IsBlanks rest

-- Tokens that are spelled one after the other, with spaces after each, are read back.
abbrev pub SpelledApartIsRead : Type 0
SpelledApartIsRead = (ts : List Token) (text : List ℕ) → IsSpelledApart ts text → HasTokens text 0 ts

-- The tokens of the notation of lasso words: how each is spelled, and where it ends. Each is the longest that the bytes allow.
use Rattle.std.specs.Prelude.{◌≡◌, ◌≢◌, ℕ, ◌==◌, ◌&&◌, ◌||◌, ◌⊎◌, Bool, true, false, List, [], ◌∷◌, ◌++◌, codes}
use Rattle.std.specs.List.{list_all}
pub use Rattle.aut_base.specs.Bytes.{is_digit, is_letter, is_space}
pub use Rattle.aut_base.specs.Strings.{Quotes, escaped, nothing, plain}
use Rattle.word_syntax.specs.declared.token.Token.{Token}
use Rattle.word_syntax.specs.declared.token.Token.TheVariants.{True, False, Name, Not, And, Or, LeftParen, RightParen, Semicolon, Cycle, LeftBrace, RightBrace}

-- a letter or a digit
abbrev pub is_alphanumeric : ℕ → Bool
is_alphanumeric b = is_letter b || is_digit b

-- a letter, and then letters and digits
abbrev pub IsBare : List ℕ → Type 0
IsBare [] = ⊥
IsBare (b ∷ bs) = (is_letter b ≡ true) × (list_all is_alphanumeric bs ≡ true)

-- a name without quotes, which is no keyword
pub record IsBareName (name : List ℕ) : Type 0 where
  pub bare : IsBare name
  pub not_true : name ≢ codes "true"
  pub not_false : name ≢ codes "false"
  pub not_cycle : name ≢ codes "cycle"

-- the bytes that spell a token
abbrev pub SpellsWordToken : Token → List ℕ → Type 0
SpellsWordToken True word = (word ≡ codes "1") ⊎ (word ≡ codes "true")
SpellsWordToken False word = (word ≡ codes "0") ⊎ (word ≡ codes "false")
SpellsWordToken (Name name) word = (IsBareName name × (word ≡ name)) ⊎ ((inner : List ℕ) × Quotes inner name × (word ≡ 34 ∷ (inner ++ 34 ∷ [])))
SpellsWordToken Not word = word ≡ codes "!"
SpellsWordToken And word = (word ≡ codes "&") ⊎ (word ≡ codes "&&")
SpellsWordToken Or word = (word ≡ codes "|") ⊎ (word ≡ codes "||")
SpellsWordToken LeftParen word = word ≡ codes "("
SpellsWordToken RightParen word = word ≡ codes ")"
SpellsWordToken Semicolon word = word ≡ codes ";"
SpellsWordToken Cycle word = word ≡ codes "cycle"
SpellsWordToken LeftBrace word = word ≡ codes "{"
SpellsWordToken RightBrace word = word ≡ codes "}"

-- With this byte the word would be a longer token: a further byte of a name or keyword, or a second `&` or `|`.
abbrev pub extends : List ℕ → ℕ → Bool
extends [] c = false
extends (b ∷ []) c = (is_letter b && is_alphanumeric c) || (((b == 38) && (c == 38)) || ((b == 124) && (c == 124)))
extends (b ∷ d ∷ ds) c = is_letter b && is_alphanumeric c

-- the bytes that follow don't make the token longer
abbrev pub EndsWord : List ℕ → List ℕ → Type 0
EndsWord word [] = Unit {0}
EndsWord word (c ∷ rest) = extends word c ≡ false

-- the token is at the front of the bytes, and `rest` follows it
pub record IsWordFront (bytes : List ℕ) (token : Token) (rest : List ℕ) : Type 0 where
  pub word : List ℕ
  pub split : bytes ≡ word ++ rest
  pub spells : SpellsWordToken token word
  pub ends : EndsWord word rest

-- blanks, and then these bytes
pub record FollowsBlanks (input bytes : List ℕ) : Type 0 where
  pub before : List ℕ
  pub split : input ≡ before ++ bytes
  pub blank : list_all is_space before ≡ true

-- These tokens are at the front of the text, with blanks before and between them, and `rest` follows.
abbrev pub LexesWord : List ℕ → List Token → List ℕ → Type 0
LexesWord text [] rest = text ≡ rest
LexesWord text (t ∷ ts) rest = (bytes : List ℕ) × (next : List ℕ) × FollowsBlanks text bytes × IsWordFront bytes t next × LexesWord next ts rest

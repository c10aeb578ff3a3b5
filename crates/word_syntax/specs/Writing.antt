-- Which pattern a text writes, and the offset of the error in a text that writes none.
use Rattle.std.specs.Prelude.{◌≡◌, ℕ, ◌+◌, ◌^◌, ◌<◌, ◌≤◌, ◌⊎◌, true, false, List, [], ◌∷◌, ◌++◌, length, map, drop, Result, Ok, Err}
use Rattle.std.specs.List.{list_all}
use Rattle.aut_base.specs.Label.{label_tree}
use Rattle.word_syntax.specs.Grammar.{IsPrefixOfWord, IsWord, WordPattern}
use Rattle.word_syntax.specs.Tokens.{FollowsBlanks, IsWordFront, LexesWord, is_space}
use Rattle.word_syntax.specs.declared.pattern.Pattern.{Pattern}
use Rattle.word_syntax.specs.declared.pattern.WordFault.{WordFault}
use Rattle.word_syntax.specs.declared.pattern.WordFault.TheVariants.{BadWord, Memory}
use Rattle.word_syntax.specs.declared.token.Token.{Token}
use Rattle.word_syntax.specs.declared.token.Token.TheVariants as token

-- the pattern as a value
abbrev pub word_pattern : Pattern → WordPattern
word_pattern p = record { names = p.names; stem = map label_tree p.stem; cycle = map label_tree p.cycle }

-- The text writes the pattern: its tokens are a word, and only blanks follow. A text of 2^32 bytes or more writes none.
pub record WritesWord (text : List ℕ) (p : WordPattern) : Type 0 where
  pub short : length text < 2 ^ 32
  pub tokens : List Token
  pub rest : List ℕ
  pub lexes : LexesWord text tokens rest
  pub blank : list_all is_space rest ≡ true
  pub word : IsWord tokens p

-- Why no pattern that begins with these tokens goes on with these bytes.
pub data StopsWord (tokens : List Token) : List ℕ → Type 0 where
  -- a token that can't follow, or that opens more `(` and `!` than may be open
  misplaced : {bytes rest : List ℕ} (t : Token) → IsWordFront bytes t rest → (IsPrefixOfWord (tokens ++ t ∷ []) → ⊥) → StopsWord tokens bytes
  -- the bytes are no token
  no_token : {b : ℕ} {bs : List ℕ} → is_space b ≡ false → ((t : Token) (rest : List ℕ) → IsWordFront (b ∷ bs) t rest → ⊥) → StopsWord tokens (b ∷ bs)
  -- the text ends too early
  ended : ((p : WordPattern) → IsWord tokens p → ⊥) → StopsWord tokens []

-- The tokens before the offset k begin some pattern, but none goes on as the text does from there.
pub record IsStoppedAt (text : List ℕ) (k : ℕ) : Type 0 where
  pub tokens : List Token
  pub rest : List ℕ
  pub bytes : List ℕ
  pub lexes : LexesWord text tokens rest
  pub begins : IsPrefixOfWord tokens
  pub after_blanks : FollowsBlanks rest bytes
  pub offset : k + length bytes ≡ length text
  pub stops : StopsWord tokens bytes

-- The text writes no pattern, and k is the offset of its error: always 0 for a text of 2^32 bytes or more.
abbrev pub IsBadAt : List ℕ → ℕ → Type 0
IsBadAt text k = ((2 ^ 32 ≤ length text) × (k ≡ 0)) ⊎ ((length text < 2 ^ 32) × IsStoppedAt text k)

-- the text writes no pattern
abbrev pub WritesNothing : List ℕ → Type 0
WritesNothing text = (p : WordPattern) → WritesWord text p → ⊥

-- The answer to a text is right.
abbrev pub AnswersWord : Result Pattern WordFault → List ℕ → Type 0
AnswersWord (Ok p) text = WritesWord text (word_pattern p)
AnswersWord (Err (BadWord k)) text = IsBadAt text k × WritesNothing text
AnswersWord (Err Memory) text = Unit {0}

-- A text writes at most one pattern, and none if it is bad at some offset. There is at most one such offset.
pub record OneReading (text : List ℕ) : Type 0 where
  pub pattern : (p q : WordPattern) → WritesWord text p → WritesWord text q → p ≡ q
  pub offset : (j k : ℕ) → IsBadAt text j → IsBadAt text k → j ≡ k
  pub either : (p : WordPattern) (k : ℕ) → WritesWord text p → IsBadAt text k → ⊥

-- the name is the token at the first byte of the text, and this many bytes spell it
pub record IsNameAtFront (text name : List ℕ) (size : ℕ) : Type 0 where
  pub within : size ≤ length text
  pub front : IsWordFront text (token.Name name) (drop size text)

-- no name begins at the first byte
abbrev pub NoNameAtFront : List ℕ → Type 0
NoNameAtFront text = (name rest : List ℕ) → IsWordFront text (token.Name name) rest → ⊥

-- How each token is spelled (HOA v1, Grammar), and what may follow it.
use Rattle.std.specs.Prelude.{◌≡◌, ◌≢◌, ℕ, zero, suc, ◌+◌, ◌-◌, ◌*◌, ◌^◌, ◌<◌, ◌==◌, Bool, true, false, List, [], ◌∷◌, ◌++◌, codes, fold}
use Rattle.std.specs.List.{list_all}
pub use Rattle.aut_base.specs.Strings.{Quotes, escaped, nothing, plain}
use Rattle.hoa_lexer.specs.Bytes.{is_digit, is_letter, is_word}
use Rattle.hoa_lexer.specs.declared.token.Token.{Token}
use Rattle.hoa_lexer.specs.declared.token.Token.TheVariants.{HeaderName, Identifier, Str, Int, Alias, Bang, Amp, Bar, LeftParen, RightParen}
use Rattle.hoa_lexer.specs.declared.token.Token.TheVariants.{LeftBrace, RightBrace, LeftBracket, RightBracket, Body, End, Abort}

-- a letter, and then letters, digits and `-`
abbrev pub IsIdentifier : List ℕ → Type 0
IsIdentifier [] = ⊥
IsIdentifier (b ∷ bs) = (is_letter b ≡ true) × (list_all is_word bs ≡ true)

-- the value of digits in base ten
abbrev pub value_of : List ℕ → ℕ
value_of = fold (λ value digit. 10 * value + (digit - 48)) 0

-- `0`, or digits of which the first is not `0`
abbrev pub IsNumeral : List ℕ → Type 0
IsNumeral [] = ⊥
IsNumeral (b ∷ []) = is_digit b ≡ true
IsNumeral (b ∷ c ∷ bs) = (is_digit b ≡ true) × (b ≢ 48) × (list_all is_digit (c ∷ bs) ≡ true)

-- the bytes that spell a token; an alias is named by one or more letters, digits and `-`
abbrev pub Spells : Token → List ℕ → Type 0
Spells (HeaderName name) word = IsIdentifier name × (word ≡ name ++ 58 ∷ [])
Spells (Identifier name) word = IsIdentifier name × (word ≡ name)
Spells (Str text) word = (inner : List ℕ) × Quotes inner text × (word ≡ 34 ∷ (inner ++ 34 ∷ []))
Spells (Int n) word = IsNumeral word × (value_of word ≡ n) × (n < 2 ^ 32)
Spells (Alias name) word = (name ≢ []) × (list_all is_word name ≡ true) × (word ≡ 64 ∷ name)
Spells Bang word = word ≡ codes "!"
Spells Amp word = word ≡ codes "&"
Spells Bar word = word ≡ codes "|"
Spells LeftParen word = word ≡ codes "("
Spells RightParen word = word ≡ codes ")"
Spells LeftBrace word = word ≡ codes "{"
Spells RightBrace word = word ≡ codes "}"
Spells LeftBracket word = word ≡ codes "["
Spells RightBracket word = word ≡ codes "]"
Spells Body word = word ≡ codes "--BODY--"
Spells End word = word ≡ codes "--END--"
Spells Abort word = word ≡ codes "--ABORT--"

-- there is a next byte, and it fails the test
abbrev pub StopsAt : (ℕ → Bool) → List ℕ → Type 0
StopsAt goes_on [] = ⊥
StopsAt goes_on (b ∷ rest) = goes_on b ≡ false

-- A token that a further byte could extend has to be followed by a byte that doesn't; a colon extends an identifier to a
-- header's name. The other tokens, `0` among them, are complete with their own last byte.
abbrev pub IsDelimited : Token → List ℕ → Type 0
IsDelimited (Identifier name) rest = StopsAt is_word rest × StopsAt (λ b. b == 58) rest
IsDelimited (Int zero) rest = Unit {0}
IsDelimited (Int (suc n)) rest = StopsAt is_digit rest
IsDelimited (Alias name) rest = StopsAt is_word rest
IsDelimited _ rest = Unit {0}

-- a token is complete with its own last byte, whatever follows
abbrev pub closes_itself : Token → Bool
closes_itself (Identifier name) = false
closes_itself (Int zero) = true
closes_itself (Int (suc n)) = false
closes_itself (Alias name) = false
closes_itself _ = true

-- The lexer as a function: the token at the front of bytes.
use Rattle.std.specs.Prelude.{ℕ, ◌+◌, ◌==◌, ◌&&◌, if◌then◌else◌, List, [], ◌∷◌, length, nat_lt, take, drop, slice_index, codes, Option, Some, None}
use Rattle.std.specs.List.{prefix_len}
use Rattle.std.specs.Option.{option_map}
use Rattle.aut_base.specs.Text.{same_text}
use Rattle.word_syntax.specs.Tokens.{is_letter, is_alphanumeric}
use Rattle.word_syntax.specs.declared.token.Token.{Token}
use Rattle.word_syntax.specs.declared.token.Token.TheVariants.{True, False, Name, Not, And, Or, LeftParen, RightParen, Semicolon, Cycle, LeftBrace, RightBrace}

-- the token that a bare word is
abbrev pub bare_token : List ℕ → Token
bare_token word =
    if same_text word (codes "true") then True else
    if same_text word (codes "false") then False else
    if same_text word (codes "cycle") then Cycle else
    Name word

-- the token of one byte
abbrev pub sign_token : ℕ → Option Token
sign_token b =
    if b == 49 then Some True else
    if b == 48 then Some False else
    if b == 33 then Some Not else
    if b == 40 then Some LeftParen else
    if b == 41 then Some RightParen else
    if b == 59 then Some Semicolon else
    if b == 123 then Some LeftBrace else
    if b == 125 then Some RightBrace else
    None

-- a string with another byte in front, which is spelled by this many bytes
abbrev pub quoted_more : ℕ → ℕ → List ℕ × ℕ → List ℕ × ℕ
quoted_more b size s = (b ∷ s.0, size + s.1)

-- The text of a string whose opening quote is just before these bytes, and how many of them it takes, with the closing quote.
abbrev pub unquoted : List ℕ → Option (List ℕ × ℕ)
unquoted [] = None
unquoted (b ∷ []) = if b == 34 then Some ([], 1) else None
unquoted (b ∷ c ∷ cs) =
    if b == 34 then Some ([], 1) else
    if b == 92 then option_map (quoted_more c 2) (unquoted cs) else
    option_map (quoted_more b 1) (unquoted (c ∷ cs))

-- how often a sign occurs at the front, up to twice
abbrev pub sign_count : ℕ → List ℕ → ℕ
sign_count b bytes = if nat_lt 1 (length bytes) && (slice_index bytes 1 == b) then 2 else 1

-- the token that begins with the first of these bytes, and how many of them spell it
abbrev pub token_from : ℕ → List ℕ → Option (Token × ℕ)
token_from b bytes =
    if is_letter b then Some (bare_token (take (prefix_len is_alphanumeric bytes) bytes), prefix_len is_alphanumeric bytes) else
    if b == 34 then option_map (λ (s : List ℕ × ℕ). (Name s.0, 1 + s.1)) (unquoted (drop 1 bytes)) else
    if b == 38 then Some (And, sign_count 38 bytes) else
    if b == 124 then Some (Or, sign_count 124 bytes) else
    option_map (λ t. (t, 1)) (sign_token b)

-- the token at the front of these bytes, and how many of them spell it
abbrev pub front_token : List ℕ → Option (Token × ℕ)
front_token bytes = if length bytes == 0 then None else token_from (slice_index bytes 0) bytes

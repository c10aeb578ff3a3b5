-- What stands next in a text: an automaton, only blanks, or what a reader has to refuse.
use Rattle.std.specs.Prelude.{◌≡◌, ◌≢◌, ℕ, ◌+◌, ◌-◌, ◌⊎◌, List, [], ◌∷◌, ◌++◌, length, map}
use Rattle.aut_base.specs.declared.limit.TheConstants.{MOST_DEPTH}
use Rattle.hoa_lexer.specs.Blanks.{IsBlanks, IsOpenComment}
use Rattle.hoa_lexer.specs.Text.{AfterBlanks, IsNext, IsNoToken, IsOpenString, IsOpenToken, Lexes}
use Rattle.hoa_lexer.specs.declared.token.Token.{Token}
use Rattle.hoa_lexer.specs.declared.token.Token.TheVariants as token
use Rattle.hoa_parser.specs.Grammar.{IsViable, SpellsAutomaton}
use Rattle.hoa_parser.specs.Raw.{Written}

-- Closed tokens at the front of the text, of which no more than may be are open: an automaton may begin so, and none is
-- whole yet. `rest` follows them. The text begins `start` bytes after the start of its whole.
pub record IsBegun (start : ℕ) (text : List ℕ) (tokens : List Token) (used : ℕ) (rest : List ℕ) : Type 0 where
  pub placed : List (Token × ℕ)
  pub shown : map (λ p. p.0) placed ≡ tokens
  pub lexes : Lexes text start placed rest
  pub used_is : used ≡ start + (length text - length rest)
  pub viable : IsViable MOST_DEPTH tokens
  -- they spell no automaton, whatever is open in it
  pub unfinished : (most : ℕ) (w : Written) → SpellsAutomaton most tokens w → ⊥

-- an automaton stands whole, and `rest` follows its `--END--`
pub record IsWhole (start : ℕ) (text : List ℕ) (w : Written) (rest : List ℕ) : Type 0 where
  pub placed : List (Token × ℕ)
  pub lexes : Lexes text start placed rest
  pub spells : SpellsAutomaton MOST_DEPTH (map (λ p. p.0) placed) w

-- A token cannot stand at offset k. After one or more tokens `--ABORT--` is not such a token: it abandons the automaton.
pub record IsMisplaced (k : ℕ) (tokens : List Token) (used : ℕ) (rest : List ℕ) : Type 0 where
  pub next_token : Token
  pub after : List ℕ
  pub next : IsNext rest used next_token k after
  -- no automaton begins with the tokens and it
  pub dead : (most : ℕ) → IsViable most (tokens ++ next_token ∷ []) → ⊥
  pub no_abort : (tokens ≢ []) → next_token ≢ token.Abort

-- the bytes at offset k can be no token
abbrev pub IsNoTokenAt : ℕ → ℕ → List ℕ → Type 0
IsNoTokenAt k used rest = AfterBlanks rest (λ bytes. (k + length bytes ≡ used + length rest) × IsNoToken bytes)

-- An automaton has begun with some tokens, and this holds of them, of the bytes they took and of what is left.
pub record AfterTokens (start : ℕ) (text : List ℕ) (Holds : List Token → ℕ → List ℕ → Type 0) : Type 0 where
  pub tokens : List Token
  pub used : ℕ
  pub rest : List ℕ
  pub begun : IsBegun start text tokens used rest
  pub holds : Holds tokens used rest

-- The text cannot go on at offset k as it does.
abbrev pub IsBad : ℕ → List ℕ → ℕ → Type 0
IsBad start text k = AfterTokens start text (λ tokens used rest. IsMisplaced k tokens used rest ⊎ IsNoTokenAt k used rest)

-- A token opens one more than may be open.
pub record IsDeep (start : ℕ) (text : List ℕ) : Type 0 where
  pub tokens : List Token
  pub used : ℕ
  pub rest : List ℕ
  pub begun : IsBegun start text tokens used rest
  pub next_token : Token
  pub offset : ℕ
  pub after : List ℕ
  pub next : IsNext rest used next_token offset after
  pub most : ℕ
  pub viable : IsViable most (tokens ++ next_token ∷ [])
  pub too_deep : IsViable MOST_DEPTH (tokens ++ next_token ∷ []) → ⊥

-- the automaton is abandoned, and `after` follows its `--ABORT--`
abbrev pub IsAborted : ℕ → List ℕ → List ℕ → Type 0
IsAborted start text after = AfterTokens start text (λ tokens used rest. (tokens ≢ []) × (offset : ℕ) × IsNext rest used token.Abort offset after)

-- The text ends inside an automaton: among blanks behind a token, or inside a comment, a string or another token.
abbrev pub IsCut : ℕ → List ℕ → Type 0
IsCut start text = AfterTokens start text (λ tokens used rest. (tokens ≢ []) × IsBlanks rest
    ⊎ (AfterBlanks rest IsOpenComment ⊎ (AfterBlanks rest IsOpenString ⊎ AfterBlanks rest IsOpenToken)))

-- what stands next
pub data Standing : Type 0 where
  Blank : Standing
  Whole : Written → List ℕ → Standing
  Deep : Standing
  Bad : ℕ → Standing
  Aborted : List ℕ → Standing
  Cut : Standing

abbrev pub Stands : Standing → ℕ → List ℕ → Type 0
Stands Blank start text = IsBlanks text
Stands (Whole w rest) start text = IsWhole start text w rest
Stands Deep start text = IsDeep start text
Stands (Bad k) start text = IsBad start text k
Stands (Aborted after) start text = IsAborted start text after
Stands Cut start text = IsCut start text

-- No more than one thing stands next,
abbrev pub OneStanding : Type 0
OneStanding = (start : ℕ) (text : List ℕ) (a b : Standing) → Stands a start text → Stands b start text → a ≡ b

-- and there is no text of which nothing does.
abbrev pub SomeStanding : Type 0
SomeStanding = (start : ℕ) (text : List ℕ) → ((s : Standing) → Stands s start text → ⊥) → ⊥

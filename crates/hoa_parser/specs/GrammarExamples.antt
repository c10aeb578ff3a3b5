-- Lists of tokens, with what they spell, and some that spell nothing.
use Rattle.std.specs.Prelude.{ℕ, true, false, List, [], ◌∷◌, ◌++◌, codes, Some, None}
use Rattle.aut_base.specs.Formula as formula
use Rattle.hoa_lexer.specs.declared.token.Token.{Token}
use Rattle.hoa_lexer.specs.declared.token.Token.TheVariants.{HeaderName, Identifier, Str, Int, Alias, Bang, Amp, Bar, LeftParen, RightParen}
use Rattle.hoa_lexer.specs.declared.token.Token.TheVariants.{LeftBrace, RightBrace, LeftBracket, RightBracket, Body, End, Abort}
use Rattle.hoa_parser.specs.Grammar.{IsViable, SpellsAutomaton}
use Rattle.hoa_parser.specs.Raw as raw
use Rattle.hoa_parser.specs.Raw.{Written, WrittenItem, WrittenState}

-- HOA: v1, an item, --BODY-- --END--
abbrev pub with_item : List Token → List Token
with_item item = HeaderName (codes "HOA") ∷ Identifier (codes "v1") ∷ (item ++ Body ∷ End ∷ [])

abbrev pub has_item : WrittenItem → Written
has_item item = record { version = codes "v1"; items = item ∷ []; states = [] }

-- HOA: v1 --BODY--, a state, --END--
abbrev pub with_state : List Token → List Token
with_state state = HeaderName (codes "HOA") ∷ Identifier (codes "v1") ∷ Body ∷ (state ++ End ∷ [])

abbrev pub has_state : WrittenState → Written
has_state state = record { version = codes "v1"; items = []; states = state ∷ [] }

-- Alias: @a 0 & 1 | !2
abbrev pub alias_a : List Token
alias_a = HeaderName (codes "Alias") ∷ Alias (codes "a") ∷ Int 0 ∷ Amp ∷ Int 1 ∷ Bar ∷ Bang ∷ Int 2 ∷ []

-- Alias: @b (0 | @a) & t
abbrev pub alias_b : List Token
alias_b =
    HeaderName (codes "Alias") ∷ Alias (codes "b") ∷ LeftParen ∷ Int 0 ∷ Bar ∷ Alias (codes "a") ∷ RightParen ∷ Amp
    ∷ Identifier (codes "t") ∷ []

-- Acceptance: 2 Inf(0) & (Fin(!1) | f)
abbrev pub two_sets : List Token
two_sets =
    HeaderName (codes "Acceptance") ∷ Int 2 ∷ Identifier (codes "Inf") ∷ LeftParen ∷ Int 0 ∷ RightParen ∷ Amp ∷ LeftParen
    ∷ Identifier (codes "Fin") ∷ LeftParen ∷ Bang ∷ Int 1 ∷ RightParen ∷ Bar ∷ Identifier (codes "f") ∷ RightParen ∷ []

-- State: [!0] 3 "three" {1} 4 & 5 {0 2} [t] 3
abbrev pub state_three : List Token
state_three =
    HeaderName (codes "State") ∷ LeftBracket ∷ Bang ∷ Int 0 ∷ RightBracket ∷ Int 3 ∷ Str (codes "three") ∷ LeftBrace ∷ Int 1
    ∷ RightBrace ∷ Int 4 ∷ Amp ∷ Int 5 ∷ LeftBrace ∷ Int 0 ∷ Int 2 ∷ RightBrace ∷ LeftBracket ∷ Identifier (codes "t")
    ∷ RightBracket ∷ Int 3 ∷ []

-- each with the least number of `(` and `!` that may be open
pub record GrammarExamples : Type 0 where
  pub factors_first : SpellsAutomaton 1 (with_item alias_a)
      (has_item (raw.AliasOf (codes "a") (raw.Or (raw.And (raw.Prop 0) (raw.Prop 1) raw.none) (raw.Not (raw.Prop 2)) raw.none)))
  pub not_products_first : (most : ℕ) → SpellsAutomaton most (with_item alias_a)
      (has_item (raw.AliasOf (codes "a") (raw.And (raw.Prop 0) (raw.Or (raw.Prop 1) (raw.Not (raw.Prop 2)) raw.none) raw.none))) → ⊥
  pub in_parentheses : SpellsAutomaton 1 (with_item alias_b)
      (has_item (raw.AliasOf (codes "b") (raw.And (raw.Or (raw.Prop 0) (raw.Alias (codes "a")) raw.none) raw.True raw.none)))
  pub condition : SpellsAutomaton 1 (with_item two_sets)
      (has_item (raw.Acceptance 2 (formula.And (formula.Inf 0 false) (formula.Or (formula.Fin 1 true) formula.False formula.none) formula.none)))
  -- Start: 0 & 1
  pub start : SpellsAutomaton 0 (with_item (HeaderName (codes "Start") ∷ Int 0 ∷ Amp ∷ Int 1 ∷ [])) (has_item (raw.Start (0 ∷ 1 ∷ [])))
  -- tool: "ltl" "2", of which nothing is kept
  pub dropped : SpellsAutomaton 0 (with_item (HeaderName (codes "tool") ∷ Str (codes "ltl") ∷ Str (codes "2") ∷ [])) (has_item raw.Tool)
  -- controllable-AP: 0
  pub other : SpellsAutomaton 0 (with_item (HeaderName (codes "controllable-AP") ∷ Int 0 ∷ [])) (has_item (raw.Other (codes "controllable-AP")))
  pub state : SpellsAutomaton 1 (with_state state_three)
      (has_state
      (record {
        label = Some (raw.Not (raw.Prop 0));
        number = 3;
        marks = 1 ∷ [];
        edges = record { label = None; to = 4 ∷ 5 ∷ []; marks = 0 ∷ 2 ∷ [] } ∷ record { label = Some raw.True; to = 3 ∷ []; marks = [] } ∷ [];
      }))
  -- `0` begins nothing, nothing goes on with `--ABORT--`, and nothing stands behind `--END--`
  pub no_opening : (most : ℕ) → IsViable most (Int 0 ∷ []) → ⊥
  pub no_abort : (most : ℕ) → IsViable most (HeaderName (codes "HOA") ∷ Identifier (codes "v1") ∷ Abort ∷ []) → ⊥
  pub no_more : (most : ℕ) → IsViable most (with_state state_three ++ HeaderName (codes "HOA") ∷ []) → ⊥

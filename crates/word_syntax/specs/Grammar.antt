-- The grammar of patterns, over tokens:
--
--     word        = (letter ";")* "cycle" "{" (letter ";")* letter "}"
--     letter      = (conjunction "|")* conjunction
--     conjunction = (operand "&")* operand
--     operand     = "1" | "0" | NAME | "!" operand | "(" letter ")"
--
-- A formula refers to a proposition by the index of its name in the list of names.
use Rattle.std.specs.Prelude.{◌≡◌, ℕ, List, [], ◌∷◌, ◌++◌, Some, slice_get}
use Rattle.aut_base.specs.Lists.{distinct}
use Rattle.aut_base.specs.CanonicalLabel.{all_of, one_of}
use Rattle.aut_base.specs.Chains.{Chains, IsSum}
use Rattle.aut_base.specs.Label as label
use Rattle.aut_base.specs.Label.{LabelTree}
use Rattle.aut_base.specs.Text.{same_text}
use Rattle.aut_base.specs.declared.limit.TheConstants.{MOST_DEPTH}
use Rattle.word_syntax.specs.declared.token.Token.{Token}
use Rattle.word_syntax.specs.declared.token.Token.TheVariants as token

-- A pattern as a value: a formula over the names for each letter of a stem and of a cycle.
pub record WordPattern : Type 0 where
  pub names : List (List ℕ)
  pub stem : List LabelTree
  pub cycle : List LabelTree

-- "1" | "0" | NAME, over a list of names
pub data IsLetterAtom (names : List (List ℕ)) : List Token → LabelTree → Type 0 where
  always : IsLetterAtom names (token.True ∷ []) label.True
  never : IsLetterAtom names (token.False ∷ []) label.False
  proposition : (name : List ℕ) (place : ℕ) → slice_get names place ≡ Some name → IsLetterAtom names (token.Name name ∷ []) (label.Prop place)

-- letter = (conjunction "|")* conjunction
-- conjunction = (operand "&")* operand
-- operand = "1" | "0" | NAME | "!" operand | "(" letter ")"
abbrev pub letters_over : List (List ℕ) → Chains Token LabelTree
letters_over names = record {
  bang = token.Not;
  amp = token.And;
  bar = token.Or;
  left = token.LeftParen;
  right = token.RightParen;
  IsAtom = IsLetterAtom names;
  Negates = λ t u. u ≡ label.Not t;
  conjunction = all_of;
  disjunction = one_of;
}

-- (letter ";")*
pub data AreLetters (names : List (List ℕ)) (room : ℕ) : List Token → List LabelTree → Type 0 where
  no_letter : AreLetters names room [] []
  letter : {v w u : List Token} {ts us : List LabelTree} {t : LabelTree} → AreLetters names room v ts → IsSum (letters_over names) room w t → u ≡ v ++ (w ++ token.Semicolon ∷ []) → us ≡ ts ++ t ∷ []
      → AreLetters names room u us

-- the names among the tokens, in order
abbrev pub token_names : List Token → List (List ℕ)
token_names [] = []
token_names (token.Name name ∷ ts) = name ∷ token_names ts
token_names (_ ∷ ts) = token_names ts

-- word = (letter ";")* "cycle" "{" (letter ";")* letter "}"
-- The pattern's names are those that the tokens have, in the order in which they first appear. No more than MOST_DEPTH of `(` and `!` are open.
pub record IsWord (tokens : List Token) (p : WordPattern) : Type 0 where
  pub stem_tokens : List Token
  pub cycle_tokens : List Token
  pub last_tokens : List Token
  pub first : List LabelTree
  pub last : LabelTree
  pub names : p.names ≡ distinct same_text (token_names tokens)
  pub stem : AreLetters p.names MOST_DEPTH stem_tokens p.stem
  pub letters : AreLetters p.names MOST_DEPTH cycle_tokens first
  pub last_letter : IsSum (letters_over p.names) MOST_DEPTH last_tokens last
  pub cycle : p.cycle ≡ first ++ last ∷ []
  pub spelled : tokens ≡ stem_tokens ++ (token.Cycle ∷ token.LeftBrace ∷ (cycle_tokens ++ (last_tokens ++ token.RightBrace ∷ [])))

-- a word can begin with these tokens
pub record IsPrefixOfWord (tokens : List Token) : Type 0 where
  pub more : List Token
  pub pattern : WordPattern
  pub word : IsWord (tokens ++ more) pattern

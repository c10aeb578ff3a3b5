-- One way to write an automaton down: with no more parentheses than it takes, and with no sig where there are no marks.
-- What is dropped when an automaton is read stands as the shortest that the grammar allows.
use Rattle.std.specs.Prelude.{ℕ, List, [], ◌∷◌, ◌++◌, map, flat_map, codes, Option, Some, None}
use Rattle.aut_base.specs.Formula as formula
use Rattle.aut_base.specs.Formula.{FormulaTree, FormulaTrees}
use Rattle.hoa_lexer.specs.declared.token.Token.{Token}
use Rattle.hoa_lexer.specs.declared.token.Token.TheVariants as token
use Rattle.hoa_parser.specs.Grammar.{and_number, set_tokens}
use Rattle.hoa_parser.specs.Raw as raw
use Rattle.hoa_parser.specs.Raw.{RawTree, RawTrees, Written, WrittenEdge, WrittenItem, WrittenState}

-- where a label or formula stands: for itself, between `|`, or between `&` or behind `!`
pub data Cursor : Type 0 where
  Alone : Cursor
  InOr : Cursor
  InAnd : Cursor

-- a conjunction, and a disjunction, at this place
abbrev pub conjunction_at : Cursor → List Token → List Token
conjunction_at InAnd tokens = token.LeftParen ∷ (tokens ++ token.RightParen ∷ [])
conjunction_at _ tokens = tokens

abbrev pub disjunction_at : Cursor → List Token → List Token
disjunction_at Alone tokens = tokens
disjunction_at _ tokens = token.LeftParen ∷ (tokens ++ token.RightParen ∷ [])

abbrev mutual
  pub label_tokens_at : Cursor → RawTree → List Token
  label_tokens_at place raw.True = token.Identifier (codes "t") ∷ []
  label_tokens_at place raw.False = token.Identifier (codes "f") ∷ []
  label_tokens_at place (raw.Prop i) = token.Int i ∷ []
  label_tokens_at place (raw.Alias name) = token.Alias name ∷ []
  label_tokens_at place (raw.Not t) = token.Bang ∷ label_tokens_at InAnd t
  label_tokens_at place (raw.And t u ts) = conjunction_at place (label_tokens_at InAnd t ++ token.Amp ∷ (label_tokens_at InAnd u ++ written_factors ts))
  label_tokens_at place (raw.Or t u ts) = disjunction_at place (label_tokens_at InOr t ++ token.Bar ∷ (label_tokens_at InOr u ++ written_products ts))

  pub written_factors : RawTrees → List Token
  written_factors raw.none = []
  written_factors (raw.more t ts) = token.Amp ∷ (label_tokens_at InAnd t ++ written_factors ts)

  pub written_products : RawTrees → List Token
  written_products raw.none = []
  written_products (raw.more t ts) = token.Bar ∷ (label_tokens_at InOr t ++ written_products ts)

abbrev mutual
  pub written_formula : Cursor → FormulaTree → List Token
  written_formula place formula.True = token.Identifier (codes "t") ∷ []
  written_formula place formula.False = token.Identifier (codes "f") ∷ []
  written_formula place (formula.Inf set neg) = token.Identifier (codes "Inf") ∷ set_tokens set neg
  written_formula place (formula.Fin set neg) = token.Identifier (codes "Fin") ∷ set_tokens set neg
  written_formula place (formula.And t u ts) = conjunction_at place (written_formula InAnd t ++ token.Amp ∷ (written_formula InAnd u ++ written_atoms ts))
  written_formula place (formula.Or t u ts) = disjunction_at place (written_formula InOr t ++ token.Bar ∷ (written_formula InOr u ++ written_conjunctions ts))

  pub written_atoms : FormulaTrees → List Token
  written_atoms formula.none = []
  written_atoms (formula.more t ts) = token.Amp ∷ (written_formula InAnd t ++ written_atoms ts)

  pub written_conjunctions : FormulaTrees → List Token
  written_conjunctions formula.none = []
  written_conjunctions (formula.more t ts) = token.Bar ∷ (written_formula InOr t ++ written_conjunctions ts)

-- states that are met together
abbrev pub written_conj : List ℕ → List Token
written_conj [] = []
written_conj (n ∷ ns) = token.Int n ∷ flat_map and_number ns

abbrev pub item_tokens : WrittenItem → List Token
item_tokens (raw.States n) = token.HeaderName (codes "States") ∷ token.Int n ∷ []
item_tokens (raw.Start states) = token.HeaderName (codes "Start") ∷ written_conj states
item_tokens (raw.Ap count names) = token.HeaderName (codes "AP") ∷ token.Int count ∷ map token.Str names
item_tokens (raw.AliasOf name label) = token.HeaderName (codes "Alias") ∷ token.Alias name ∷ label_tokens_at Alone label
item_tokens (raw.Acceptance sets condition) = token.HeaderName (codes "Acceptance") ∷ token.Int sets ∷ written_formula Alone condition
item_tokens raw.AccName = token.HeaderName (codes "acc-name") ∷ token.Identifier (codes "x") ∷ []
item_tokens raw.Tool = token.HeaderName (codes "tool") ∷ token.Str [] ∷ []
item_tokens (raw.Name text) = token.HeaderName (codes "name") ∷ token.Str text ∷ []
item_tokens (raw.Properties words) = token.HeaderName (codes "properties") ∷ map token.Identifier words
item_tokens (raw.Other name) = token.HeaderName name ∷ []

abbrev pub bracketed : Option RawTree → List Token
bracketed None = []
bracketed (Some label) = token.LeftBracket ∷ (label_tokens_at Alone label ++ token.RightBracket ∷ [])

abbrev pub marks_tokens : List ℕ → List Token
marks_tokens [] = []
marks_tokens (n ∷ ns) = token.LeftBrace ∷ (map token.Int (n ∷ ns) ++ token.RightBrace ∷ [])

abbrev pub edge_tokens : WrittenEdge → List Token
edge_tokens e = bracketed e.label ++ (written_conj e.to ++ marks_tokens e.marks)

abbrev pub state_tokens : WrittenState → List Token
state_tokens s = token.HeaderName (codes "State") ∷ (bracketed s.label ++ (token.Int s.number ∷ (marks_tokens s.marks ++ flat_map edge_tokens s.edges)))

abbrev pub written_tokens : Written → List Token
written_tokens w =
    token.HeaderName (codes "HOA") ∷ token.Identifier w.version ∷ (flat_map item_tokens w.items
    ++ token.Body ∷ (flat_map state_tokens w.states ++ token.End ∷ []))

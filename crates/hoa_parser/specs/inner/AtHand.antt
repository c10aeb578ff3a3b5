-- What stands in front of bytes, token by token, with blanks before each and behind the last.
use Rattle.std.specs.Prelude.{◌≡◌, ℕ, suc, ◌≤◌, List, [], ◌∷◌, ◌++◌, codes, map, Option, Some, None}
use Rattle.aut_base.specs.declared.limit.TheConstants.{MOST_DEPTH}
use Rattle.hoa_lexer.specs.Text.{IsFront}
use Rattle.hoa_lexer.specs.inner.Steps.{PassesBlanks}
use Rattle.hoa_lexer.specs.declared.token.Token.{Token}
use Rattle.hoa_lexer.specs.declared.token.Token.TheVariants as token
use Rattle.hoa_parser.specs.Phrases.{Label, Lnot, Lnots, LabelWithin, LnotWithin, LnotsWithin, raw_conjunction, disjunction, edge_meaning, label, label_meaning, label_tokens}
use Rattle.hoa_parser.specs.Phrases.{lands_meaning, lnot_meaning, lnot_tokens, lnots_meaning, lnots_tokens, marks_meaning, optional_marks}
use Rattle.hoa_parser.specs.declared.parse.body.StateHead.{StateHead}
use Rattle.hoa_parser.specs.declared.parse.plain.Next.{Next}
use Rattle.hoa_parser.specs.declared.parse.plain.Next.TheVariants as next
use Rattle.hoa_parser.specs.inner.RuleReads.{LandPhrase, LandWithin, head_meaning, land_meaning, land_tokens, written_head}
use Rattle.hoa_parser.specs.Raw.{RawTree, raw_all, raw_tree, written_edge}
use Rattle.hoa_parser.specs.declared.raw.RawEdge.{RawEdge}
use Rattle.hoa_parser.specs.declared.raw.RawLabel.{RawLabel}

-- these tokens stand in front, and `y` behind them and blanks
abbrev pub Spelled : List ℕ → List Token → List ℕ → Type 0
Spelled x [] y = PassesBlanks x y
Spelled x (t ∷ ts) y = (at : List ℕ) × (behind : List ℕ) × PassesBlanks x at × IsFront at t behind × Spelled behind ts y

-- It is written so in front of `x`.
pub record IsSpelled {X Y : Type 0} (Within : X → Type 0) (tokens : X → List Token) (meaning : X → Y) (value : Y) (x y : List ℕ) : Type 0 where
  pub phrase : X
  pub within : Within phrase
  pub spelled : Spelled x (tokens phrase) y
  pub means : value ≡ meaning phrase

abbrev pub IsIntText : ℕ → List ℕ → List ℕ → Type 0
IsIntText n x y = Spelled x (token.Int n ∷ []) y

-- this sign, and blanks
abbrev pub IsSigned : ℕ → List ℕ → List ℕ → Type 0
IsSigned sign x y = (left : List ℕ) × (x ≡ sign ∷ left) × PassesBlanks left y

-- so wherever one more `(` or `!` may be open
abbrev pub Anywhere : (ℕ → Type 0) → Type 0
Anywhere Within = (depth : ℕ) → suc depth ≤ MOST_DEPTH → Within depth

abbrev pub Shallow : Lnot → Type 0
Shallow f = Anywhere (λ d. LnotWithin MOST_DEPTH d f)

abbrev pub ShallowLand : LandPhrase → Type 0
ShallowLand p = Anywhere (λ d. LandWithin d p)

abbrev pub ShallowLnots : Lnots → Type 0
ShallowLnots fs = Anywhere (λ d. LnotsWithin MOST_DEPTH d fs)

-- "t" | "f" | "!"? INT
abbrev pub IsLiteralOf : RawTree → List ℕ → List ℕ → Type 0
IsLiteralOf = IsSpelled Shallow lnot_tokens lnot_meaning

abbrev pub IsLiteral : RawLabel → List ℕ → List ℕ → Type 0
IsLiteral l = IsLiteralOf (raw_tree l)

-- ("&" literal)*, behind these parts
abbrev pub AreLiteralsBehind : List RawTree → RawLabel → List ℕ → List ℕ → Type 0
AreLiteralsBehind before l = IsSpelled ShallowLnots lnots_tokens (λ fs. raw_all (before ++ lnots_meaning fs)) (raw_tree l)

-- literal ("&" literal)*, as parts, behind a first part, as a label of its own, and before ")"
abbrev pub literals_meaning : LandPhrase → List RawTree
literals_meaning p = lnot_meaning p.first ∷ lnots_meaning p.others

abbrev pub AreLiterals : List RawTree → List ℕ → List ℕ → Type 0
AreLiterals = IsSpelled ShallowLand land_tokens literals_meaning

abbrev pub AreMoreLiterals : RawTree → RawLabel → List ℕ → List ℕ → Type 0
AreMoreLiterals first l = IsSpelled ShallowLand land_tokens (λ p. raw_conjunction first (literals_meaning p)) (raw_tree l)

abbrev pub IsConjunctionText : RawLabel → List ℕ → List ℕ → Type 0
IsConjunctionText l = IsSpelled ShallowLand land_tokens land_meaning (raw_tree l)

abbrev pub IsGrouped : RawLabel → List ℕ → List ℕ → Type 0
IsGrouped l = IsSpelled ShallowLand (λ p. land_tokens p ++ token.RightParen ∷ []) land_meaning (raw_tree l)

-- conjunction | "(" conjunction ")"
abbrev pub IsFactor : RawLabel → List ℕ → List ℕ → Type 0
IsFactor l = IsSpelled (LandWithin 0) land_tokens land_meaning (raw_tree l)

-- factor ("|" factor)*, as parts, behind a first part, and as a label
abbrev pub factors_meaning : Label → List RawTree
factors_meaning (label f fs ls) = raw_conjunction (lnot_meaning f) (lnots_meaning fs) ∷ lands_meaning ls

abbrev pub AreFactors : List RawTree → List ℕ → List ℕ → Type 0
AreFactors = IsSpelled (LabelWithin MOST_DEPTH 0) label_tokens factors_meaning

abbrev pub AreMoreFactors : RawTree → RawLabel → List ℕ → List ℕ → Type 0
AreMoreFactors first l = IsSpelled (LabelWithin MOST_DEPTH 0) label_tokens (λ p. disjunction first (factors_meaning p)) (raw_tree l)

abbrev pub IsLabel : RawLabel → List ℕ → List ℕ → Type 0
IsLabel l = IsSpelled (LabelWithin MOST_DEPTH 0) label_tokens label_meaning (raw_tree l)

-- INT* "}", and sig?
abbrev pub AreMarks : List ℕ → List ℕ → List ℕ → Type 0
AreMarks marks x y = Spelled x (map token.Int marks ++ token.RightBrace ∷ []) y

abbrev pub AreMaybeMarks : List ℕ → List ℕ → List ℕ → Type 0
AreMaybeMarks = IsSpelled (λ (marks : Option (List ℕ)). Unit {0}) optional_marks marks_meaning

-- how an edge with a label begins, and a state
abbrev pub next_word : Next → List ℕ
next_word next.Edge = codes "["
next_word next.State = codes "State:"

abbrev pub next_token : Next → Token
next_token next.Edge = token.LeftBracket
next_token next.State = token.HeaderName (codes "State")

-- An edge behind its `[`: label "]" INT sig?
pub record IsPlain (edge : RawEdge) (x y : List ℕ) : Type 0 where
  pub label : Label
  pub goal : ℕ
  pub marks : Option (List ℕ)
  pub within : LabelWithin MOST_DEPTH 0 label
  pub spelled : Spelled x ((label_tokens label ++ token.RightBracket ∷ []) ++ (token.Int goal ∷ optional_marks marks)) y
  pub means : written_edge edge ≡ edge_meaning (record { label = Some label; to = record { first = goal; others = [] }; marks = marks })

-- A state without its edges, behind its `State:`: INT sig?
pub record IsPlainHead (head : StateHead) (x y : List ℕ) : Type 0 where
  pub marks : Option (List ℕ)
  pub spelled : Spelled x (token.Int head.number ∷ optional_marks marks) y
  pub means : written_head head ≡ head_meaning (record { label = None; number = head.number; name = None; marks = marks })

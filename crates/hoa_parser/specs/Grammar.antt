-- Which tokens spell an automaton, and what they say (HOA v1, Grammar). `room` is how many more of `(` and `!` may be open.
use Rattle.std.specs.Prelude.{◌≡◌, ℕ, Bool, true, false, List, [], ◌∷◌, ◌++◌, map, flat_map, codes, Option, Some, None}
use Rattle.std.specs.List.{list_all, list_any}
use Rattle.aut_base.specs.Chains.{Chains, IsSum}
use Rattle.aut_base.specs.Formula as formula
use Rattle.aut_base.specs.Formula.{FormulaTree, and_of, some_of}
use Rattle.aut_base.specs.Text.{same_text}
use Rattle.hoa_lexer.specs.declared.token.Token.{Token}
use Rattle.hoa_lexer.specs.declared.token.Token.TheVariants as token
use Rattle.hoa_parser.specs.Raw as raw
use Rattle.hoa_parser.specs.Raw.{RawTree, Written, WrittenEdge, WrittenItem, WrittenState, raw_all, raw_any}

-- parts that stand one after the other
pub data Each {X : Type 0} (Is : List Token → X → Type 0) : List Token → List X → Type 0 where
  none : Each Is [] []
  also : {v w : List Token} {x : X} {xs : List X} → Is v x → Each Is w xs → Each Is (v ++ w) (x ∷ xs)

-- "t" | "f" | INT | ANAME
pub data IsLabelAtom : List Token → RawTree → Type 0 where
  true_label : IsLabelAtom (token.Identifier (codes "t") ∷ []) raw.True
  false_label : IsLabelAtom (token.Identifier (codes "f") ∷ []) raw.False
  proposition : (i : ℕ) → IsLabelAtom (token.Int i ∷ []) (raw.Prop i)
  alias : (name : List ℕ) → IsLabelAtom (token.Alias name ∷ []) (raw.Alias name)

-- Labels and conditions have the same signs. What is an atom, and what is meant by what is joined, is their own.
abbrev pub hoa_chains : {T : Type 0} → (List Token → T → Type 0) → (T → T → Type 0) → (List T → T) → (List T → T) → Chains Token T
hoa_chains IsAtom Negates conjunction disjunction = record {
  bang = token.Bang;
  amp = token.Amp;
  bar = token.Bar;
  left = token.LeftParen;
  right = token.RightParen;
  IsAtom = IsAtom;
  Negates = Negates;
  conjunction = conjunction;
  disjunction = disjunction;
}

-- label = land ("|" land)*
-- land = lnot ("&" lnot)*
-- lnot = "!" lnot | "t" | "f" | INT | ANAME | "(" label ")"
abbrev pub labels : Chains Token RawTree
labels = hoa_chains IsLabelAtom (λ t u. u ≡ raw.Not t) raw_all raw_any

-- "!"?
abbrev pub bang_tokens : Bool → List Token
bang_tokens false = []
bang_tokens true = token.Bang ∷ []

-- "(" "!"? INT ")"
abbrev pub set_tokens : ℕ → Bool → List Token
set_tokens set neg = token.LeftParen ∷ (bang_tokens neg ++ token.Int set ∷ token.RightParen ∷ [])

-- "t" | "f" | ("Inf" | "Fin") "(" "!"? INT ")"
pub data IsConditionAtom : List Token → FormulaTree → Type 0 where
  true_condition : IsConditionAtom (token.Identifier (codes "t") ∷ []) formula.True
  false_condition : IsConditionAtom (token.Identifier (codes "f") ∷ []) formula.False
  -- the set, and whether `!` stands before it
  infinitely : (set : ℕ) (neg : Bool) → IsConditionAtom (token.Identifier (codes "Inf") ∷ set_tokens set neg) (formula.Inf set neg)
  finitely : (set : ℕ) (neg : Bool) → IsConditionAtom (token.Identifier (codes "Fin") ∷ set_tokens set neg) (formula.Fin set neg)

-- formula = fand ("|" fand)*
-- fand = fatom ("&" fatom)*
-- fatom = "t" | "f" | ("Inf" | "Fin") "(" "!"? INT ")" | "(" formula ")"
abbrev pub conditions : Chains Token FormulaTree
conditions = hoa_chains IsConditionAtom (λ f g. ⊥) and_of some_of

abbrev pub and_number : ℕ → List Token
and_number n = token.Amp ∷ token.Int n ∷ []

-- conj = INT ("&" INT)*
pub data IsConj : List Token → List ℕ → Type 0 where
  conj : (first : ℕ) (others : List ℕ) → IsConj (token.Int first ∷ flat_map and_number others) (first ∷ others)

-- INT | IDENTIFIER, and where texts are values, too, STRING
abbrev pub is_value : Bool → Token → Bool
is_value texts (token.Int n) = true
is_value texts (token.Str text) = texts
is_value texts (token.Identifier word) = true
is_value texts _ = false

-- STRING?
abbrev pub optional_text : Option (List ℕ) → List Token
optional_text None = []
optional_text (Some text) = token.Str text ∷ []

-- the names of headers that have a rule of their own; `HOA` and `State` begin no item
abbrev pub known_headers : List (List ℕ)
known_headers = map codes ("States" ∷ "Start" ∷ "AP" ∷ "Alias" ∷ "Acceptance" ∷ "acc-name" ∷ "tool" ∷ "name" ∷ "properties" ∷ "HOA" ∷ "State" ∷ [])

-- item = "States:" INT | "Start:" conj | "AP:" INT STRING* | "Alias:" ANAME label | "Acceptance:" INT formula
--      | "acc-name:" IDENTIFIER (INT | IDENTIFIER)* | "tool:" STRING STRING? | "name:" STRING
--      | "properties:" IDENTIFIER* | HEADERNAME (INT | STRING | IDENTIFIER)*
pub data IsItem (room : ℕ) : List Token → WrittenItem → Type 0 where
  states_item : (n : ℕ) → IsItem room (token.HeaderName (codes "States") ∷ token.Int n ∷ []) (raw.States n)
  start_item : {w : List Token} {to : List ℕ} → IsConj w to → IsItem room (token.HeaderName (codes "Start") ∷ w) (raw.Start to)
  names_item : (n : ℕ) (names : List (List ℕ)) → IsItem room (token.HeaderName (codes "AP") ∷ token.Int n ∷ map token.Str names) (raw.Ap n names)
  alias_item : {w : List Token} {t : RawTree} (name : List ℕ) → IsSum labels room w t
      → IsItem room (token.HeaderName (codes "Alias") ∷ token.Alias name ∷ w) (raw.AliasOf name t)
  acceptance_item : {w : List Token} {f : FormulaTree} (n : ℕ) → IsSum conditions room w f
      → IsItem room (token.HeaderName (codes "Acceptance") ∷ token.Int n ∷ w) (raw.Acceptance n f)
  acc_name_item : (word : List ℕ) (values : List Token) → list_all (is_value false) values ≡ true
      → IsItem room (token.HeaderName (codes "acc-name") ∷ token.Identifier word ∷ values) raw.AccName
  tool_item : (text : List ℕ) (other : Option (List ℕ)) → IsItem room (token.HeaderName (codes "tool") ∷ token.Str text ∷ optional_text other) raw.Tool
  name_item : (text : List ℕ) → IsItem room (token.HeaderName (codes "name") ∷ token.Str text ∷ []) (raw.Name text)
  properties_item : (words : List (List ℕ)) → IsItem room (token.HeaderName (codes "properties") ∷ map token.Identifier words) (raw.Properties words)
  -- any other header's name but `HOA` and `State`
  other_item : (name : List ℕ) (values : List Token) → list_any (same_text name) known_headers ≡ false → list_all (is_value true) values ≡ true
      → IsItem room (token.HeaderName name ∷ values) (raw.Other name)

-- ("[" label "]")?
pub data IsOptionalLabel (room : ℕ) : List Token → Option RawTree → Type 0 where
  no_label : IsOptionalLabel room [] None
  some_label : {w : List Token} {t : RawTree} → IsSum labels room w t → IsOptionalLabel room (token.LeftBracket ∷ (w ++ token.RightBracket ∷ [])) (Some t)

-- sig = "{" INT* "}", or nothing
pub data AreMarks : List Token → List ℕ → Type 0 where
  no_marks : AreMarks [] []
  some_marks : (marks : List ℕ) → AreMarks (token.LeftBrace ∷ (map token.Int marks ++ token.RightBrace ∷ [])) marks

-- edge = ("[" label "]")? conj sig?
pub data IsEdge (room : ℕ) : List Token → WrittenEdge → Type 0 where
  edge : {u v w : List Token} {label : Option RawTree} {to marks : List ℕ} → IsOptionalLabel room u label → IsConj v to → AreMarks w marks
      → IsEdge room (u ++ (v ++ w)) (record { label = label; to = to; marks = marks })

-- state = "State:" ("[" label "]")? INT STRING? sig? edge*
pub data IsState (room : ℕ) : List Token → WrittenState → Type 0 where
  state : {u v w : List Token} {label : Option RawTree} {marks : List ℕ} {edges : List WrittenEdge} (number : ℕ) (name : Option (List ℕ))
      → IsOptionalLabel room u label → AreMarks v marks → Each (IsEdge room) w edges
      → IsState room (token.HeaderName (codes "State") ∷ (u ++ (token.Int number ∷ (optional_text name ++ (v ++ w)))))
      (record { label = label; number = number; marks = marks; edges = edges })

-- automaton = "HOA:" IDENTIFIER item* "--BODY--" state* "--END--"
-- The tokens spell what is written, and never more than `most` of the `(` and `!` of a label or formula are open.
pub record SpellsAutomaton (most : ℕ) (tokens : List Token) (w : Written) : Type 0 where
  pub item_tokens : List Token
  pub state_tokens : List Token
  pub items : Each (IsItem most) item_tokens w.items
  pub states : Each (IsState most) state_tokens w.states
  pub spelled : tokens ≡ token.HeaderName (codes "HOA") ∷ token.Identifier w.version ∷ (item_tokens ++ token.Body ∷ (state_tokens ++ token.End ∷ []))

-- The tokens can go on so that they spell an automaton.
pub record IsViable (most : ℕ) (tokens : List Token) : Type 0 where
  pub more : List Token
  pub whole : Written
  pub spelled : SpellsAutomaton most (tokens ++ more) whole

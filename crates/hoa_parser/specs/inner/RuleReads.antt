-- What each inner function of the reader reads, in the words of the grammar.
use Rattle.std.specs.Prelude.{◌≡◌, ℕ, Bool, true, false, if◌then◌else◌, codes, List, [], ◌∷◌, ◌++◌, map, flat_map, Option, Some, None}
use Rattle.std.specs.List.{AllByRecursion}
use Rattle.std.specs.Option.{option_map}
use Rattle.aut_base.specs.Formula.{FormulaTree, formula_tree}
use Rattle.aut_base.specs.declared.formula.Formula.{Formula}
use Rattle.hoa_lexer.specs.declared.token.Token.{Token}
use Rattle.hoa_lexer.specs.declared.token.Token.TheVariants as token
use Rattle.hoa_parser.specs.Phrases.{AccValue, AutomatonPhrase, AutomatonWithin, ConditionWithin, Conj, FandsWithin, Fatom, FatomWithin, Fatoms}
use Rattle.hoa_parser.specs.Phrases.{FatomsWithin, ItemPhrase, ItemWithin, Label, LabelWithin, LandsWithin, Lnot, LnotWithin, Lnots, LnotsWithin}
use Rattle.hoa_parser.specs.Grammar.{and_number, bang_tokens, optional_text, set_tokens}
use Rattle.hoa_parser.specs.Headers.{header_of}
use Rattle.hoa_parser.specs.Phrases.{OptionalWithin, StateWithin, Value, acc_value_token, formula_conjunction, automaton_meaning}
use Rattle.hoa_parser.specs.Phrases.{condition_meaning, condition_tokens, conj_meaning, conj_tokens, raw_conjunction, disjunction}
use Rattle.hoa_parser.specs.Phrases.{edge_meaning, edge_tokens, fands_meaning, fands_tokens, fatom_meaning, fatom_tokens, fatoms_meaning}
use Rattle.hoa_parser.specs.Phrases.{fatoms_tokens, item_meaning, item_tokens, label_meaning, label_tokens, lands_meaning, lands_tokens, lnot_meaning}
use Rattle.hoa_parser.specs.Phrases.{lnot_tokens, lnots_meaning, lnots_tokens, marks_meaning, formula_disjunction, optional_label, optional_marks}
use Rattle.hoa_parser.specs.Phrases.{state_meaning, state_tokens, value_token}
use Rattle.hoa_parser.specs.inner.Expecting as part
use Rattle.hoa_parser.specs.inner.Expecting.{Part}
use Rattle.hoa_parser.specs.inner.Parsing.{IsWritten, Passed, Cursor}
use Rattle.hoa_parser.specs.Raw as raw
use Rattle.hoa_parser.specs.Raw.{RawTree, WrittenEdge, WrittenItem, WrittenState, raw_tree, written, written_edge, written_item, written_state}
use Rattle.hoa_parser.specs.declared.header.Header.{Header}
use Rattle.aut_base.specs.Text.{same_text}
use Rattle.aut_base.specs.declared.limit.TheConstants.{MOST_DEPTH}
use Rattle.hoa_parser.specs.declared.parse.body.StateHead.{StateHead}
use Rattle.hoa_parser.specs.declared.parse.condition.SetAt.{SetAt}
use Rattle.hoa_parser.specs.declared.parse.condition.Sign.{Sign}
use Rattle.hoa_parser.specs.declared.parse.condition.Sign.TheVariants as sign
use Rattle.hoa_parser.specs.declared.raw.Item.{Item}
use Rattle.hoa_parser.specs.declared.raw.Raw.{Raw}
use Rattle.hoa_parser.specs.declared.raw.RawEdge.{RawEdge}
use Rattle.hoa_parser.specs.declared.raw.RawLabel.{RawLabel}
use Rattle.hoa_parser.specs.declared.raw.RawState.{RawState}

-- this token
abbrev pub IsToken : Token → Unit {0} → Cursor → Cursor → Type 0
IsToken z done a b = Passed a (z ∷ []) b

abbrev pub IsIntToken : ℕ → Cursor → Cursor → Type 0
IsIntToken n a b = Passed a (token.Int n ∷ []) b

abbrev pub IsQuoted : List ℕ → Cursor → Cursor → Type 0
IsQuoted text a b = Passed a (token.Str text ∷ []) b

abbrev pub IsIdentifierToken : List ℕ → Cursor → Cursor → Type 0
IsIdentifierToken word a b = Passed a (token.Identifier word ∷ []) b

abbrev pub IsAliasToken : List ℕ → Cursor → Cursor → Type 0
IsAliasToken name a b = Passed a (token.Alias name ∷ []) b

abbrev pub IsConj : List ℕ → Cursor → Cursor → Type 0
IsConj = IsWritten (λ (c : Conj). Unit {0}) conj_tokens conj_meaning

-- the numbers that follow these, each behind a `&`
abbrev pub AddsNumbers : List ℕ → List ℕ → Cursor → Cursor → Type 0
AddsNumbers before numbers a b = (more : List ℕ) × Passed a (flat_map and_number more) b × (numbers ≡ before ++ more)

abbrev pub AreTexts : List (List ℕ) → Cursor → Cursor → Type 0
AreTexts texts a b = Passed a (map token.Str texts) b

abbrev pub AreWords : List (List ℕ) → Cursor → Cursor → Type 0
AreWords words a b = Passed a (map token.Identifier words) b

abbrev pub values_part : Bool → Part
values_part false = part.AccValues
values_part true = part.Values

abbrev pub ValueOf : Bool → Type 0
ValueOf false = AccValue
ValueOf true = Value

abbrev pub token_of : (texts : Bool) → ValueOf texts → Token
token_of false value = acc_value_token value
token_of true value = value_token value

abbrev pub AreValues : Bool → Unit {0} → Cursor → Cursor → Type 0
AreValues texts done a b = (values : List (ValueOf texts)) × Passed a (map (token_of texts) values) b

abbrev pub IsOptionalText : Unit {0} → Cursor → Cursor → Type 0
IsOptionalText done a b = (text : Option (List ℕ)) × Passed a (optional_text text) b

abbrev pub AreMarks : List ℕ → Cursor → Cursor → Type 0
AreMarks = IsWritten (λ (marks : Option (List ℕ)). Unit {0}) optional_marks marks_meaning

-- INT* "}", behind these
abbrev pub AddsMarks : List ℕ → List ℕ → Cursor → Cursor → Type 0
AddsMarks before marks a b = (more : List ℕ) × Passed a (map token.Int more ++ token.RightBrace ∷ []) b × (marks ≡ before ++ more)

-- lnot, land, label
abbrev pub IsLnot : ℕ → RawLabel → Cursor → Cursor → Type 0
IsLnot depth l = IsWritten (LnotWithin MOST_DEPTH depth) lnot_tokens lnot_meaning (raw_tree l)

-- "&" lnot
abbrev pub IsAndLnot : ℕ → RawLabel → Cursor → Cursor → Type 0
IsAndLnot depth l = IsWritten (LnotWithin MOST_DEPTH depth) (λ f. token.Amp ∷ lnot_tokens f) lnot_meaning (raw_tree l)

pub record LandPhrase : Type 0 where
  pub first : Lnot
  pub others : Lnots

abbrev pub LandWithin : ℕ → LandPhrase → Type 0
LandWithin depth p = LnotWithin MOST_DEPTH depth p.first × LnotsWithin MOST_DEPTH depth p.others

abbrev pub land_tokens : LandPhrase → List Token
land_tokens p = lnot_tokens p.first ++ lnots_tokens p.others

abbrev pub land_meaning : LandPhrase → RawTree
land_meaning p = raw_conjunction (lnot_meaning p.first) (lnots_meaning p.others)

abbrev pub IsLand : ℕ → RawLabel → Cursor → Cursor → Type 0
IsLand depth l = IsWritten (LandWithin depth) land_tokens land_meaning (raw_tree l)

-- "|" land
abbrev pub IsOrLand : ℕ → RawLabel → Cursor → Cursor → Type 0
IsOrLand depth l = IsWritten (LandWithin depth) (λ p. token.Bar ∷ land_tokens p) land_meaning (raw_tree l)

abbrev pub IsLabel : ℕ → RawLabel → Cursor → Cursor → Type 0
IsLabel depth l = IsWritten (LabelWithin MOST_DEPTH depth) label_tokens label_meaning (raw_tree l)

-- ("&" lnot)* and ("|" land)* behind a first part
abbrev pub IsAndLnots : ℕ → RawTree → RawLabel → Cursor → Cursor → Type 0
IsAndLnots depth first l = IsWritten (LnotsWithin MOST_DEPTH depth) lnots_tokens (λ fs. raw_conjunction first (lnots_meaning fs)) (raw_tree l)

abbrev pub IsOrLands : ℕ → RawTree → RawLabel → Cursor → Cursor → Type 0
IsOrLands depth first l = IsWritten (LandsWithin MOST_DEPTH depth) lands_tokens (λ ls. disjunction first (lands_meaning ls)) (raw_tree l)

-- the same of formulas
abbrev pub IsFatom : ℕ → Formula → Cursor → Cursor → Type 0
IsFatom depth l = IsWritten (FatomWithin MOST_DEPTH depth) fatom_tokens fatom_meaning (formula_tree l)

abbrev pub IsAndFatom : ℕ → Formula → Cursor → Cursor → Type 0
IsAndFatom depth l = IsWritten (FatomWithin MOST_DEPTH depth) (λ f. token.Amp ∷ fatom_tokens f) fatom_meaning (formula_tree l)

pub record FandPhrase : Type 0 where
  pub first : Fatom
  pub others : Fatoms

abbrev pub FandWithin : ℕ → FandPhrase → Type 0
FandWithin depth p = FatomWithin MOST_DEPTH depth p.first × FatomsWithin MOST_DEPTH depth p.others

abbrev pub fand_tokens : FandPhrase → List Token
fand_tokens p = fatom_tokens p.first ++ fatoms_tokens p.others

abbrev pub fand_meaning : FandPhrase → FormulaTree
fand_meaning p = formula_conjunction (fatom_meaning p.first) (fatoms_meaning p.others)

abbrev pub IsFand : ℕ → Formula → Cursor → Cursor → Type 0
IsFand depth l = IsWritten (FandWithin depth) fand_tokens fand_meaning (formula_tree l)

abbrev pub IsOrFand : ℕ → Formula → Cursor → Cursor → Type 0
IsOrFand depth l = IsWritten (FandWithin depth) (λ p. token.Bar ∷ fand_tokens p) fand_meaning (formula_tree l)

abbrev pub IsCondition : ℕ → Formula → Cursor → Cursor → Type 0
IsCondition depth l = IsWritten (ConditionWithin MOST_DEPTH depth) condition_tokens condition_meaning (formula_tree l)

-- ("&" fatom)* and ("|" fand)* behind a first part
abbrev pub IsAndFatoms : ℕ → FormulaTree → Formula → Cursor → Cursor → Type 0
IsAndFatoms depth first l = IsWritten (FatomsWithin MOST_DEPTH depth) fatoms_tokens (λ fs. formula_conjunction first (fatoms_meaning fs)) (formula_tree l)

abbrev pub IsOrFands : ℕ → FormulaTree → Formula → Cursor → Cursor → Type 0
IsOrFands depth first l = IsWritten (FandsWithin MOST_DEPTH depth) fands_tokens (λ ls. formula_disjunction first (fands_meaning ls)) (formula_tree l)

-- the constant that a word is, if it is one
abbrev pub truth_value : List ℕ → Option RawTree
truth_value word = if same_text word (codes "t") then Some raw.True else if same_text word (codes "f") then Some raw.False else None

-- what a token that is no alias says as a label of its own, if it is one
abbrev pub plain_atom_of : Token → Option RawTree
plain_atom_of (token.Identifier word) = truth_value word
plain_atom_of (token.Int place) = Some (raw.Prop place)
plain_atom_of _ = None

-- what a token says as a label of its own, if it is one
abbrev pub atom_of : Token → Option RawTree
atom_of (token.Alias name) = Some (raw.Alias name)
atom_of z = plain_atom_of z

-- what a word says in a condition, if anything
abbrev pub sign_of : List ℕ → Option Sign
sign_of word =
    if same_text word (codes "t") then Some sign.True else if same_text word (codes "f") then Some sign.False else
    if same_text word (codes "Inf") then Some sign.Inf else if same_text word (codes "Fin") then Some sign.Fin else None

abbrev pub sign_at : Token → Option Sign
sign_at (token.Identifier word) = sign_of word
sign_at _ = None

abbrev pub IsSet : SetAt → Cursor → Cursor → Type 0
IsSet set a b = Passed a (set_tokens set.number set.neg) b

abbrev pub IsMaybeBang : Bool → Cursor → Cursor → Type 0
IsMaybeBang neg a b = Passed a (bang_tokens neg) b

-- an item, and the items of a header
abbrev pub IsItem : Item → Cursor → Cursor → Type 0
IsItem item = IsWritten (ItemWithin MOST_DEPTH) item_tokens item_meaning (written_item item)

abbrev pub AreItems : List Item → Cursor → Cursor → Type 0
AreItems items = IsWritten (AllByRecursion (ItemWithin MOST_DEPTH)) (flat_map item_tokens) (map item_meaning) (map written_item items)

-- with this name before them the tokens are an item
pub record IsItemWith (name : List ℕ) (tokens : List Token) (item : WrittenItem) : Type 0 where
  pub phrase : ItemPhrase
  pub within : ItemWithin MOST_DEPTH phrase
  pub spelled : token.HeaderName name ∷ tokens ≡ item_tokens phrase
  pub means : item ≡ item_meaning phrase

-- The tokens behind the name of a header, and what the item means.
pub record ItemRest (header : Header) (name : List ℕ) (item : WrittenItem) (a b : Cursor) : Type 0 where
  pub tokens : List Token
  pub passed : Passed a tokens b
  pub is_item : header_of name ≡ header → IsItemWith name tokens item

abbrev pub IsItemOf : Header → List ℕ → Item → Cursor → Cursor → Type 0
IsItemOf header name item = ItemRest header name (written_item item)

-- the same, of a header whose name is known by what it says
abbrev pub IsItemWritten : Header → Item → Cursor → Cursor → Type 0
IsItemWritten header item a b = (name : List ℕ) → ItemRest header name (written_item item) a b

-- "[" label
abbrev pub IsOpened : RawLabel → Cursor → Cursor → Type 0
IsOpened l a c = (b : Cursor) × Passed a (token.LeftBracket ∷ []) b × IsLabel 0 l b c

-- a label in brackets, or none
abbrev pub IsMaybeLabel : Option RawLabel → Cursor → Cursor → Type 0
IsMaybeLabel label = IsWritten (OptionalWithin MOST_DEPTH) optional_label (option_map label_meaning) (option_map raw_tree label)

abbrev pub IsEdge : RawEdge → Cursor → Cursor → Type 0
IsEdge edge = IsWritten (λ e. OptionalWithin MOST_DEPTH e.label) edge_tokens edge_meaning (written_edge edge)

abbrev pub AreEdgesWritten : List RawEdge → Cursor → Cursor → Type 0
AreEdgesWritten edges = IsWritten (AllByRecursion (λ e. OptionalWithin MOST_DEPTH e.label)) (flat_map edge_tokens) (map edge_meaning) (map written_edge edges)

-- a state without its edges
pub record HeadPhrase : Type 0 where
  pub label : Option Label
  pub number : ℕ
  pub name : Option (List ℕ)
  pub marks : Option (List ℕ)

abbrev pub head_tokens : HeadPhrase → List Token
head_tokens h = token.HeaderName (codes "State") ∷ (optional_label h.label ++ (token.Int h.number ∷ (optional_text h.name ++ optional_marks h.marks)))

pub record WrittenHead : Type 0 where
  pub label : Option RawTree
  pub number : ℕ
  pub marks : List ℕ

abbrev pub head_meaning : HeadPhrase → WrittenHead
head_meaning h = record { label = option_map label_meaning h.label; number = h.number; marks = marks_meaning h.marks }

abbrev pub written_head : StateHead → WrittenHead
written_head h = record { label = option_map raw_tree h.label; number = h.number; marks = h.marks }

abbrev pub IsHead : StateHead → Cursor → Cursor → Type 0
IsHead head = IsWritten (λ h. OptionalWithin MOST_DEPTH h.label) head_tokens head_meaning (written_head head)

abbrev pub IsState : RawState → Cursor → Cursor → Type 0
IsState state = IsWritten (StateWithin MOST_DEPTH) state_tokens state_meaning (written_state state)

-- the states of a body, behind which `--END--` is at hand
pub record AreStatesWritten (states : List RawState) (a b : Cursor) : Type 0 where
  pub written : IsWritten (AllByRecursion (StateWithin MOST_DEPTH)) (flat_map state_tokens) (map state_meaning) (map written_state states) a b
  pub ends : b.token ≡ token.End

-- the tokens of an automaton before its `--END--`
abbrev pub open_tokens : AutomatonPhrase → List Token
open_tokens a =
    token.HeaderName (codes "HOA") ∷ token.Identifier a.version ∷ (flat_map item_tokens a.items ++ (token.Body ∷ flat_map state_tokens a.states))

-- an automaton, whose `--END--` is at hand
pub record IsAutomaton (automaton : Raw) (a b : Cursor) : Type 0 where
  pub is_written : IsWritten (AutomatonWithin MOST_DEPTH) open_tokens automaton_meaning (written automaton) a b
  pub ends : b.token ≡ token.End

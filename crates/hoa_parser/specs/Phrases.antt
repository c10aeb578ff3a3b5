-- How the proofs go through an automaton that is written as tokens: a phrase is one way to write a part of it. It has
-- tokens and a meaning. Each type of phrases is a rule of the grammar, which its comment gives.
use Rattle.std.specs.Prelude.{◌≡◌, ℕ, suc, ◌≤◌, Bool, List, [], ◌∷◌, ◌++◌, map, flat_map, codes, Option, Some, None}
use Rattle.std.specs.List.{AllByRecursion}
use Rattle.std.specs.Option.{option_map}
use Rattle.aut_base.specs.Formula as formula
use Rattle.aut_base.specs.Formula.{FormulaTree, trees}
use Rattle.hoa_lexer.specs.declared.token.Token.{Token}
use Rattle.hoa_lexer.specs.declared.token.Token.TheVariants as token
use Rattle.hoa_parser.specs.Grammar.{and_number, optional_text, set_tokens}
use Rattle.hoa_parser.specs.Headers.{header_of}
use Rattle.hoa_parser.specs.Raw as raw
use Rattle.hoa_parser.specs.Raw.{RawTree, Written, WrittenEdge, WrittenItem, WrittenState, raw_trees}
use Rattle.hoa_parser.specs.declared.header.Header.TheVariants as header

-- label = land ("|" land)*
-- land = lnot ("&" lnot)*
-- lnot = "!" lnot | "t" | "f" | INT | ANAME | "(" label ")"
mutual
  pub data Label : Type 0 where
    label : Lnot → Lnots → Lands → Label

  -- ("|" land)*
  pub data Lands : Type 0 where
    no_land : Lands
    or_land : Lnot → Lnots → Lands → Lands

  -- ("&" lnot)*
  pub data Lnots : Type 0 where
    no_lnot : Lnots
    and_lnot : Lnot → Lnots → Lnots

  pub data Lnot : Type 0 where
    true_label : Lnot
    false_label : Lnot
    proposition : ℕ → Lnot
    alias : List ℕ → Lnot
    negated : Lnot → Lnot
    group : Label → Lnot

abbrev mutual
  pub label_tokens : Label → List Token
  label_tokens (label f fs ls) = lnot_tokens f ++ (lnots_tokens fs ++ lands_tokens ls)

  pub lands_tokens : Lands → List Token
  lands_tokens no_land = []
  lands_tokens (or_land f fs ls) = token.Bar ∷ (lnot_tokens f ++ (lnots_tokens fs ++ lands_tokens ls))

  pub lnots_tokens : Lnots → List Token
  lnots_tokens no_lnot = []
  lnots_tokens (and_lnot f fs) = token.Amp ∷ (lnot_tokens f ++ lnots_tokens fs)

  pub lnot_tokens : Lnot → List Token
  lnot_tokens true_label = token.Identifier (codes "t") ∷ []
  lnot_tokens false_label = token.Identifier (codes "f") ∷ []
  lnot_tokens (proposition i) = token.Int i ∷ []
  lnot_tokens (alias name) = token.Alias name ∷ []
  lnot_tokens (negated f) = token.Bang ∷ lnot_tokens f
  lnot_tokens (group l) = token.LeftParen ∷ (label_tokens l ++ token.RightParen ∷ [])

-- The parts of a chain, joined. A single part stands for itself.
abbrev pub raw_conjunction : RawTree → List RawTree → RawTree
raw_conjunction t [] = t
raw_conjunction t (u ∷ us) = raw.And t u (raw_trees us)

abbrev pub disjunction : RawTree → List RawTree → RawTree
disjunction t [] = t
disjunction t (u ∷ us) = raw.Or t u (raw_trees us)

-- what a label means; parentheses make no node of their own
abbrev mutual
  pub label_meaning : Label → RawTree
  label_meaning (label f fs ls) = disjunction (raw_conjunction (lnot_meaning f) (lnots_meaning fs)) (lands_meaning ls)

  pub lands_meaning : Lands → List RawTree
  lands_meaning no_land = []
  lands_meaning (or_land f fs ls) = raw_conjunction (lnot_meaning f) (lnots_meaning fs) ∷ lands_meaning ls

  pub lnots_meaning : Lnots → List RawTree
  lnots_meaning no_lnot = []
  lnots_meaning (and_lnot f fs) = lnot_meaning f ∷ lnots_meaning fs

  pub lnot_meaning : Lnot → RawTree
  lnot_meaning true_label = raw.True
  lnot_meaning false_label = raw.False
  lnot_meaning (proposition i) = raw.Prop i
  lnot_meaning (alias name) = raw.Alias name
  lnot_meaning (negated f) = raw.Not (lnot_meaning f)
  lnot_meaning (group l) = label_meaning l

-- Never more than `most` of the `(` and `!` of the label are open, where `depth` are open around it.
abbrev mutual
  pub LabelWithin : ℕ → ℕ → Label → Type 0
  LabelWithin most depth (label f fs ls) = LnotWithin most depth f × LnotsWithin most depth fs × LandsWithin most depth ls

  pub LandsWithin : ℕ → ℕ → Lands → Type 0
  LandsWithin most depth no_land = Unit {0}
  LandsWithin most depth (or_land f fs ls) = LnotWithin most depth f × LnotsWithin most depth fs × LandsWithin most depth ls

  pub LnotsWithin : ℕ → ℕ → Lnots → Type 0
  LnotsWithin most depth no_lnot = Unit {0}
  LnotsWithin most depth (and_lnot f fs) = LnotWithin most depth f × LnotsWithin most depth fs

  pub LnotWithin : ℕ → ℕ → Lnot → Type 0
  LnotWithin most depth (negated f) = (suc depth ≤ most) × LnotWithin most (suc depth) f
  LnotWithin most depth (group l) = (suc depth ≤ most) × LabelWithin most (suc depth) l
  LnotWithin most depth _ = Unit {0}

-- formula = fand ("|" fand)*
-- fand = fatom ("&" fatom)*
-- fatom = "t" | "f" | ("Inf" | "Fin") "(" "!"? INT ")" | "(" formula ")"
mutual
  pub data Condition : Type 0 where
    condition : Fatom → Fatoms → Fands → Condition

  -- ("|" fand)*
  pub data Fands : Type 0 where
    no_fand : Fands
    or_fand : Fatom → Fatoms → Fands → Fands

  -- ("&" fatom)*
  pub data Fatoms : Type 0 where
    no_fatom : Fatoms
    and_fatom : Fatom → Fatoms → Fatoms

  pub data Fatom : Type 0 where
    true_condition : Fatom
    false_condition : Fatom
    -- the set, and whether `!` stands before it
    infinitely : ℕ → Bool → Fatom
    finitely : ℕ → Bool → Fatom
    condition_group : Condition → Fatom

abbrev mutual
  pub condition_tokens : Condition → List Token
  condition_tokens (condition f fs ls) = fatom_tokens f ++ (fatoms_tokens fs ++ fands_tokens ls)

  pub fands_tokens : Fands → List Token
  fands_tokens no_fand = []
  fands_tokens (or_fand f fs ls) = token.Bar ∷ (fatom_tokens f ++ (fatoms_tokens fs ++ fands_tokens ls))

  pub fatoms_tokens : Fatoms → List Token
  fatoms_tokens no_fatom = []
  fatoms_tokens (and_fatom f fs) = token.Amp ∷ (fatom_tokens f ++ fatoms_tokens fs)

  pub fatom_tokens : Fatom → List Token
  fatom_tokens true_condition = token.Identifier (codes "t") ∷ []
  fatom_tokens false_condition = token.Identifier (codes "f") ∷ []
  fatom_tokens (infinitely set neg) = token.Identifier (codes "Inf") ∷ set_tokens set neg
  fatom_tokens (finitely set neg) = token.Identifier (codes "Fin") ∷ set_tokens set neg
  fatom_tokens (condition_group l) = token.LeftParen ∷ (condition_tokens l ++ token.RightParen ∷ [])

abbrev pub formula_conjunction : FormulaTree → List FormulaTree → FormulaTree
formula_conjunction t [] = t
formula_conjunction t (u ∷ us) = formula.And t u (trees us)

abbrev pub formula_disjunction : FormulaTree → List FormulaTree → FormulaTree
formula_disjunction t [] = t
formula_disjunction t (u ∷ us) = formula.Or t u (trees us)

abbrev mutual
  pub condition_meaning : Condition → FormulaTree
  condition_meaning (condition f fs ls) = formula_disjunction (formula_conjunction (fatom_meaning f) (fatoms_meaning fs)) (fands_meaning ls)

  pub fands_meaning : Fands → List FormulaTree
  fands_meaning no_fand = []
  fands_meaning (or_fand f fs ls) = formula_conjunction (fatom_meaning f) (fatoms_meaning fs) ∷ fands_meaning ls

  pub fatoms_meaning : Fatoms → List FormulaTree
  fatoms_meaning no_fatom = []
  fatoms_meaning (and_fatom f fs) = fatom_meaning f ∷ fatoms_meaning fs

  pub fatom_meaning : Fatom → FormulaTree
  fatom_meaning true_condition = formula.True
  fatom_meaning false_condition = formula.False
  fatom_meaning (infinitely set neg) = formula.Inf set neg
  fatom_meaning (finitely set neg) = formula.Fin set neg
  fatom_meaning (condition_group l) = condition_meaning l

-- Never more than `most` of the `(` of the condition are open; those of `Inf(` and `Fin(` don't count.
abbrev mutual
  pub ConditionWithin : ℕ → ℕ → Condition → Type 0
  ConditionWithin most depth (condition f fs ls) = FatomWithin most depth f × FatomsWithin most depth fs × FandsWithin most depth ls

  pub FandsWithin : ℕ → ℕ → Fands → Type 0
  FandsWithin most depth no_fand = Unit {0}
  FandsWithin most depth (or_fand f fs ls) = FatomWithin most depth f × FatomsWithin most depth fs × FandsWithin most depth ls

  pub FatomsWithin : ℕ → ℕ → Fatoms → Type 0
  FatomsWithin most depth no_fatom = Unit {0}
  FatomsWithin most depth (and_fatom f fs) = FatomWithin most depth f × FatomsWithin most depth fs

  pub FatomWithin : ℕ → ℕ → Fatom → Type 0
  FatomWithin most depth (condition_group l) = (suc depth ≤ most) × ConditionWithin most (suc depth) l
  FatomWithin most depth _ = Unit {0}

-- conj = INT ("&" INT)*
pub record Conj : Type 0 where
  pub first : ℕ
  pub others : List ℕ

abbrev pub conj_tokens : Conj → List Token
conj_tokens c = token.Int c.first ∷ flat_map and_number c.others

abbrev pub conj_meaning : Conj → List ℕ
conj_meaning c = c.first ∷ c.others

-- INT | IDENTIFIER
pub data AccValue : Type 0 where
  acc_number : ℕ → AccValue
  acc_word : List ℕ → AccValue

abbrev pub acc_value_token : AccValue → Token
acc_value_token (acc_number n) = token.Int n
acc_value_token (acc_word word) = token.Identifier word

-- INT | STRING | IDENTIFIER
pub data Value : Type 0 where
  number_value : ℕ → Value
  text_value : List ℕ → Value
  word_value : List ℕ → Value

abbrev pub value_token : Value → Token
value_token (number_value n) = token.Int n
value_token (text_value text) = token.Str text
value_token (word_value word) = token.Identifier word

-- item = "States:" INT | "Start:" conj | "AP:" INT STRING* | "Alias:" ANAME label | "Acceptance:" INT formula
--      | "acc-name:" IDENTIFIER (INT | IDENTIFIER)* | "tool:" STRING STRING? | "name:" STRING
--      | "properties:" IDENTIFIER* | HEADERNAME (INT | STRING | IDENTIFIER)*
pub data ItemPhrase : Type 0 where
  states_item : ℕ → ItemPhrase
  start_item : Conj → ItemPhrase
  names_item : ℕ → List (List ℕ) → ItemPhrase
  alias_item : List ℕ → Label → ItemPhrase
  acceptance_item : ℕ → Condition → ItemPhrase
  acc_name_item : List ℕ → List AccValue → ItemPhrase
  tool_item : List ℕ → Option (List ℕ) → ItemPhrase
  name_item : List ℕ → ItemPhrase
  properties_item : List (List ℕ) → ItemPhrase
  -- any other header's name but `HOA` and `State`
  other_item : (name : List ℕ) → header_of name ≡ header.Other → List Value → ItemPhrase

abbrev pub item_tokens : ItemPhrase → List Token
item_tokens (states_item n) = token.HeaderName (codes "States") ∷ token.Int n ∷ []
item_tokens (start_item c) = token.HeaderName (codes "Start") ∷ conj_tokens c
item_tokens (names_item n names) = token.HeaderName (codes "AP") ∷ token.Int n ∷ map token.Str names
item_tokens (alias_item name l) = token.HeaderName (codes "Alias") ∷ token.Alias name ∷ label_tokens l
item_tokens (acceptance_item n c) = token.HeaderName (codes "Acceptance") ∷ token.Int n ∷ condition_tokens c
item_tokens (acc_name_item word values) = token.HeaderName (codes "acc-name") ∷ token.Identifier word ∷ map acc_value_token values
item_tokens (tool_item text other) = token.HeaderName (codes "tool") ∷ token.Str text ∷ optional_text other
item_tokens (name_item text) = token.HeaderName (codes "name") ∷ token.Str text ∷ []
item_tokens (properties_item words) = token.HeaderName (codes "properties") ∷ map token.Identifier words
item_tokens (other_item name is values) = token.HeaderName name ∷ map value_token values

abbrev pub item_meaning : ItemPhrase → WrittenItem
item_meaning (states_item n) = raw.States n
item_meaning (start_item c) = raw.Start (conj_meaning c)
item_meaning (names_item n names) = raw.Ap n names
item_meaning (alias_item name l) = raw.AliasOf name (label_meaning l)
item_meaning (acceptance_item n c) = raw.Acceptance n (condition_meaning c)
item_meaning (acc_name_item word values) = raw.AccName
item_meaning (tool_item text other) = raw.Tool
item_meaning (name_item text) = raw.Name text
item_meaning (properties_item words) = raw.Properties words
item_meaning (other_item name is values) = raw.Other name

abbrev pub ItemWithin : ℕ → ItemPhrase → Type 0
ItemWithin most (alias_item name l) = LabelWithin most 0 l
ItemWithin most (acceptance_item n c) = ConditionWithin most 0 c
ItemWithin most _ = Unit {0}

-- ("[" label "]")?
abbrev pub optional_label : Option Label → List Token
optional_label None = []
optional_label (Some l) = token.LeftBracket ∷ (label_tokens l ++ token.RightBracket ∷ [])

abbrev pub OptionalWithin : ℕ → Option Label → Type 0
OptionalWithin most None = Unit {0}
OptionalWithin most (Some l) = LabelWithin most 0 l

-- sig = "{" INT* "}", or nothing
abbrev pub optional_marks : Option (List ℕ) → List Token
optional_marks None = []
optional_marks (Some marks) = token.LeftBrace ∷ (map token.Int marks ++ token.RightBrace ∷ [])

abbrev pub marks_meaning : Option (List ℕ) → List ℕ
marks_meaning None = []
marks_meaning (Some marks) = marks

-- edge = ("[" label "]")? conj sig?
pub record EdgePhrase : Type 0 where
  pub label : Option Label
  pub to : Conj
  pub marks : Option (List ℕ)

abbrev pub edge_tokens : EdgePhrase → List Token
edge_tokens e = optional_label e.label ++ (conj_tokens e.to ++ optional_marks e.marks)

abbrev pub edge_meaning : EdgePhrase → WrittenEdge
edge_meaning e = record { label = option_map label_meaning e.label; to = conj_meaning e.to; marks = marks_meaning e.marks }

-- state = "State:" ("[" label "]")? INT STRING? sig? edge*
pub record StatePhrase : Type 0 where
  pub label : Option Label
  pub number : ℕ
  pub name : Option (List ℕ)
  pub marks : Option (List ℕ)
  pub edges : List EdgePhrase

abbrev pub state_tokens : StatePhrase → List Token
state_tokens s =
    token.HeaderName (codes "State") ∷ (optional_label s.label ++ (token.Int s.number ∷ (optional_text s.name
    ++ (optional_marks s.marks ++ flat_map edge_tokens s.edges))))

abbrev pub state_meaning : StatePhrase → WrittenState
state_meaning s = record { label = option_map label_meaning s.label; number = s.number; marks = marks_meaning s.marks; edges = map edge_meaning s.edges }

abbrev pub StateWithin : ℕ → StatePhrase → Type 0
StateWithin most s = OptionalWithin most s.label × AllByRecursion (λ e. OptionalWithin most e.label) s.edges

-- automaton = "HOA:" IDENTIFIER item* "--BODY--" state* "--END--"
pub record AutomatonPhrase : Type 0 where
  pub version : List ℕ
  pub items : List ItemPhrase
  pub states : List StatePhrase

abbrev pub body_tokens : List StatePhrase → List Token
body_tokens states = flat_map state_tokens states ++ token.End ∷ []

abbrev pub automaton_tokens : AutomatonPhrase → List Token
automaton_tokens a =
    token.HeaderName (codes "HOA") ∷ token.Identifier a.version ∷ (flat_map item_tokens a.items ++ token.Body ∷ body_tokens a.states)

abbrev pub automaton_meaning : AutomatonPhrase → Written
automaton_meaning a = record { version = a.version; items = map item_meaning a.items; states = map state_meaning a.states }

abbrev pub AutomatonWithin : ℕ → AutomatonPhrase → Type 0
AutomatonWithin most a = AllByRecursion (ItemWithin most) a.items × AllByRecursion (StateWithin most) a.states

-- The phrase spells what is written, and never more than `most` of the `(` and `!` of a label or formula are open.
pub record SpellsPhrase (most : ℕ) (tokens : List Token) (w : Written) : Type 0 where
  pub phrase : AutomatonPhrase
  pub within : AutomatonWithin most phrase
  pub spelled : tokens ≡ automaton_tokens phrase
  pub means : w ≡ automaton_meaning phrase

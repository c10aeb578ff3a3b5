-- The rules that an automaton has to keep once it is written down, in the order in which they are examined. A text that
-- breaks several of them is answered by the earliest.
use Rattle.std.specs.Prelude.{◌≡◌, ◌^◌, ℕ, Bool, true, false, not, ◌&&◌, ◌||◌, ◌==◌, nat_lt, nat_le, List, [], ◌∷◌, ◌++◌, length, map, flat_map}
use Rattle.std.specs.Prelude.{filter_map, count_by, codes, get_or, Option, Some, None, is_some, is_none, option_to_list}
use Rattle.std.specs.List.{AllByRecursion, list_any, list_all}
use Rattle.aut_base.specs.Formula as formula
use Rattle.aut_base.specs.Formula.{FormulaTree, FormulaTrees}
use Rattle.aut_base.specs.Lists.{FirstIn}
use Rattle.aut_base.specs.Text.{same_text}
use Rattle.hoa_parser.specs.Naming.{name_item}
use Rattle.hoa_parser.specs.Raw as raw
use Rattle.hoa_parser.specs.Raw.{RawTree, RawTrees, Written, WrittenEdge, WrittenItem, WrittenState, States, Start, Ap, AliasOf, Acceptance, AccName, Tool, Properties, Other}
use Rattle.hoa_reader.specs.declared.elaborate.Rule.{Rule}
use Rattle.hoa_reader.specs.declared.elaborate.Rule.TheVariants.{V1, V2, V3, V4, V5, V6, V7, V8, V9, V10, V11, V12}

-- no item is the same as a later one
abbrev pub all_differ : {X : Type 0} → (X → X → Bool) → List X → Bool
all_differ same [] = true
all_differ same (x ∷ xs) = not (list_any (same x) xs) && all_differ same xs

-- What one item of the header gives: the number of states, the starts, the names, the alias, the number of sets with
-- the condition over them.
abbrev pub states_item : WrittenItem → Option ℕ
states_item (States n) = Some n
states_item _ = None

abbrev pub start_item : WrittenItem → Option (List ℕ)
start_item (Start states) = Some states
start_item _ = None

abbrev pub names_item : WrittenItem → Option (List (List ℕ))
names_item (Ap count names) = Some names
names_item _ = None

-- an alias with its label
pub record AliasLine : Type 0 where
  pub name : List ℕ
  pub label : RawTree

abbrev pub alias_item : WrittenItem → Option AliasLine
alias_item (AliasOf name label) = Some (record { name = name; label = label })
alias_item _ = None

pub record AcceptanceLine : Type 0 where
  pub sets : ℕ
  pub formula : FormulaTree

abbrev pub acceptance_item : WrittenItem → Option AcceptanceLine
acceptance_item (Acceptance sets formula) = Some (record { sets = sets; formula = formula })
acceptance_item _ = None

abbrev pub is_acc_name : WrittenItem → Bool
is_acc_name AccName = true
is_acc_name _ = false

abbrev pub is_tool : WrittenItem → Bool
is_tool Tool = true
is_tool _ = false

-- What the whole says. Where a line that may stand once stands twice, the first counts.
abbrev pub written_names : Written → List (List ℕ)
written_names w = get_or (filter_map names_item w.items) 0 []

abbrev pub alias_lines : Written → List AliasLine
alias_lines w = filter_map alias_item w.items

abbrev pub acceptance_of : Written → AcceptanceLine
acceptance_of w = get_or (filter_map acceptance_item w.items) 0 (record { sets = 0; formula = formula.True })

-- the groups of states that `Start:` lines and edges name, each of which should be one state
abbrev pub starts_written : Written → List (List ℕ)
starts_written w = filter_map start_item w.items

abbrev pub edges_written : Written → List WrittenEdge
edges_written w = flat_map (λ s. s.edges) w.states

-- the labels of these states and of their edges
abbrev pub body_labels : List WrittenState → List RawTree
body_labels states = flat_map (λ s. option_to_list s.label ++ flat_map (λ e. option_to_list e.label) s.edges) states

-- every number of a state, wherever it stands
abbrev pub used_states : Written → List ℕ
used_states w = flat_map (λ q. q) (starts_written w) ++ (map (λ s. s.number) w.states ++ flat_map (λ e. e.to) (edges_written w))

-- every proposition of the label passes the first test, every alias the second
abbrev mutual
  pub leaves_pass : (ℕ → Bool) → (List ℕ → Bool) → RawTree → Bool
  leaves_pass prop alias raw.True = true
  leaves_pass prop alias raw.False = true
  leaves_pass prop alias (raw.Prop i) = prop i
  leaves_pass prop alias (raw.Alias name) = alias name
  leaves_pass prop alias (raw.Not t) = leaves_pass prop alias t
  leaves_pass prop alias (raw.And a b cs) = leaves_pass prop alias a && (leaves_pass prop alias b && all_leaves_pass prop alias cs)
  leaves_pass prop alias (raw.Or a b cs) = leaves_pass prop alias a && (leaves_pass prop alias b && all_leaves_pass prop alias cs)

  pub all_leaves_pass : (ℕ → Bool) → (List ℕ → Bool) → RawTrees → Bool
  all_leaves_pass prop alias raw.none = true
  all_leaves_pass prop alias (raw.more t ts) = leaves_pass prop alias t && all_leaves_pass prop alias ts

-- every proposition of the label is below n
abbrev pub props_below : ℕ → RawTree → Bool
props_below n = leaves_pass (λ i. nat_lt i n) (λ name. true)

-- the text is one of these
abbrev pub is_listed : List (List ℕ) → List ℕ → Bool
is_listed texts text = list_any (λ other. same_text other text) texts

-- every alias of the label is one of these
abbrev pub aliases_among : List (List ℕ) → RawTree → Bool
aliases_among names = leaves_pass (λ i. true) (is_listed names)

-- every number is below n
abbrev pub numbers_below : ℕ → List ℕ → Bool
numbers_below n = list_all (λ i. nat_lt i n)

-- every set that the condition names is below n
abbrev mutual
  pub sets_below : ℕ → FormulaTree → Bool
  sets_below n formula.True = true
  sets_below n formula.False = true
  sets_below n (formula.Inf set neg) = nat_lt set n
  sets_below n (formula.Fin set neg) = nat_lt set n
  sets_below n (formula.And a b cs) = sets_below n a && (sets_below n b && all_sets_below n cs)
  sets_below n (formula.Or a b cs) = sets_below n a && (sets_below n b && all_sets_below n cs)

  pub all_sets_below : ℕ → FormulaTrees → Bool
  all_sets_below n formula.none = true
  all_sets_below n (formula.more f fs) = sets_below n f && all_sets_below n fs

abbrev pub at_most_once : (WrittenItem → Bool) → Written → Bool
at_most_once is w = nat_le (count_by is w.items) 1

abbrev pub lines_stand_once : Written → Bool
lines_stand_once w =
    at_most_once (λ i. is_some (states_item i)) w && (at_most_once (λ i. is_some (names_item i)) w
    && (count_by (λ i. is_some (acceptance_item i)) w.items == 1
    && (at_most_once is_acc_name w && (at_most_once is_tool w && at_most_once (λ i. is_some (name_item i)) w))))

-- A name that begins with a capital letter changes what the automaton means, and may not be passed over.
abbrev pub begins_with_capital : List ℕ → Bool
begins_with_capital [] = false
begins_with_capital (b ∷ bs) = nat_le 65 b && nat_le b 90

abbrev pub may_be_passed_over : WrittenItem → Bool
may_be_passed_over (Properties words) = list_all (λ word. not (begins_with_capital word)) words
may_be_passed_over (Other name) = not (begins_with_capital name)
may_be_passed_over _ = true

abbrev pub names_agree : WrittenItem → Bool
names_agree (Ap count names) = (length names == count) && all_differ same_text names
names_agree _ = true

-- `earlier` holds the aliases of the lines before
abbrev pub uses_earlier : List (List ℕ) → List AliasLine → Bool
uses_earlier earlier [] = true
uses_earlier earlier (line ∷ lines) = aliases_among earlier line.label && uses_earlier (earlier ++ line.name ∷ []) lines

abbrev pub alias_names : Written → List (List ℕ)
alias_names w = map (λ line. line.name) (alias_lines w)

abbrev pub defines_its_aliases : Written → Bool
defines_its_aliases w =
    all_differ same_text (alias_names w)
    && (uses_earlier [] (alias_lines w) && list_all (aliases_among (alias_names w)) (body_labels w.states))

-- the sets of a state and of its edges are below n
abbrev pub marks_below : ℕ → WrittenState → Bool
marks_below n s = numbers_below n s.marks && list_all (λ e. numbers_below n e.marks) s.edges

abbrev pub no_edge_labelled : WrittenState → Bool
no_edge_labelled s = list_all (λ e. is_none e.label) s.edges

-- It has no edges, or one for each letter over n names, or a label on it or on an edge.
abbrev pub has_edge_per_letter : ℕ → WrittenState → Bool
has_edge_per_letter n s = (length s.edges == 0) || ((length s.edges == 2 ^ n) || not (is_none s.label && no_edge_labelled s))

abbrev pub keeps_rule : Rule → Written → Bool
-- The version is `v1`.
keeps_rule V1 w = same_text w.version (codes "v1")
-- There is one line with the acceptance condition; each other line that holds for the whole stands once or not at all.
keeps_rule V2 w = lines_stand_once w
-- Names of headers that are not known, and of properties, don't begin with a capital letter.
keeps_rule V3 w = list_all may_be_passed_over w.items
-- After `AP:` stand as many names as its number says, all different.
keeps_rule V4 w = list_all names_agree w.items
-- Each start is one state, and each edge leads to one.
keeps_rule V5 w = list_all (λ states. length states == 1) (starts_written w) && list_all (λ e. length e.to == 1) (edges_written w)
-- Where the number of states is written, every state is below it.
keeps_rule V6 w = list_all (λ n. numbers_below n (used_states w)) (filter_map states_item w.items)
-- No alias is defined twice; the label of one uses aliases of earlier lines, a label of the body uses aliases of any line.
keeps_rule V7 w = defines_its_aliases w
-- Every proposition of a label, be it an alias's or one of the body, has a name.
keeps_rule V8 w = list_all (props_below (length (written_names w))) (map (λ line. line.label) (alias_lines w) ++ body_labels w.states)
-- Every set of the condition, of a state and of an edge is below their number.
keeps_rule V9 w = sets_below (acceptance_of w).sets (acceptance_of w).formula && list_all (marks_below (acceptance_of w).sets) w.states
-- No state is defined twice.
keeps_rule V10 w = all_differ ◌==◌ (map (λ s. s.number) w.states)
-- In a state with a label no edge has one; in another all edges have one, or none has.
keeps_rule V11 w = list_all (λ s. no_edge_labelled s || (is_none s.label && list_all (λ e. is_some e.label) s.edges)) w.states
-- A state without any label has no edges, or one for each letter over the names.
keeps_rule V12 w = list_all (has_edge_per_letter (length (written_names w))) w.states

-- all of them, in the order in which they are examined
abbrev pub rules : List Rule
rules = V1 ∷ V2 ∷ V3 ∷ V4 ∷ V5 ∷ V6 ∷ V7 ∷ V8 ∷ V9 ∷ V10 ∷ V11 ∷ V12 ∷ []

-- The rule is broken, and each that is examined before it is kept.
abbrev pub IsFirstBroken : Rule → Written → Type 0
IsFirstBroken rule w = FirstIn (λ other. keeps_rule other w ≡ true) rules rule × (keeps_rule rule w ≡ false)

-- none is broken
abbrev pub IsValid : Written → Type 0
IsValid w = AllByRecursion (λ rule. keeps_rule rule w ≡ true) rules

-- What was read, piece by piece, as the rules speak of it.
use Rattle.std.specs.Prelude.{◌≡◌, ℕ, Bool, true, map, flat_map, ◌&&◌, ◌==◌, nat_le, List, [], ◌∷◌, count_by, Option, Some, None, is_some}
use Rattle.std.specs.Borrow.{Bor}
use Rattle.aut_base.specs.Formula as formula
use Rattle.aut_base.specs.Formula.{formula_tree}
use Rattle.hoa_reader.specs.inner.Places.{is_listed, place_in}
use Rattle.hoa_parser.specs.Naming.{name_item}
use Rattle.hoa_parser.specs.Raw.{RawTree, WrittenEdge, WrittenItem, WrittenState, raw_tree}
use Rattle.aut_base.specs.Text.{same_text}
use Rattle.hoa_reader.specs.Validity.{AcceptanceLine, AliasLine, acceptance_item, all_differ, is_acc_name, is_tool, names_item, states_item, uses_earlier}
use Rattle.hoa_reader.specs.declared.elaborate.parts.AcceptanceDef.{AcceptanceDef}
use Rattle.hoa_reader.specs.declared.elaborate.parts.AliasDef.{AliasDef}
use Rattle.hoa_reader.specs.declared.elaborate.places.Places.{Places}
use Rattle.hoa_reader.specs.declared.elaborate.rules.Line.{Line}
use Rattle.hoa_reader.specs.declared.elaborate.rules.Line.TheVariants as line
use Rattle.hoa_parser.specs.declared.raw.RawLabel.{RawLabel}

abbrev pub alias_def : AliasDef → AliasLine
alias_def d = record { name = d.name.now; label = raw_tree d.label.now }

abbrev pub acceptance_def : AcceptanceDef → AcceptanceLine
acceptance_def d = record { sets = d.sets; formula = formula_tree d.formula.now }

-- what counts where no line has the condition
abbrev pub no_acceptance : AcceptanceLine
no_acceptance = record { sets = 0; formula = formula.True }

-- the label that a reference leads to
abbrev pub label_refs : Bor RawLabel → RawTree
label_refs l = raw_tree l.now

-- the first of a list
abbrev pub list_of : {X : Type 0} → List X → Option X
list_of [] = None
list_of (x ∷ xs) = Some x

-- the item is this line
abbrev pub is_line : Line → WrittenItem → Bool
is_line line.States i = is_some (states_item i)
is_line line.Names i = is_some (names_item i)
is_line line.Acceptance i = is_some (acceptance_item i)
is_line line.AccName i = is_acc_name i
is_line line.Tool i = is_tool i
is_line line.Name i = is_some (name_item i)

abbrev pub stands_once : Line → List WrittenItem → Bool
stands_once which items = nat_le (count_by (is_line which) items) 1

abbrev pub lines_once : List WrittenItem → Bool
lines_once items =
    stands_once line.States items && (stands_once line.Names items
    && (count_by (is_line line.Acceptance) items == 1
    && (stands_once line.AccName items && (stands_once line.Tool items && stands_once line.Name items))))

abbrev pub line_names : List AliasLine → List (List ℕ)
line_names lines = map (λ line. line.name) lines

-- no alias is defined twice, and none is used before it is defined
abbrev pub are_defined : List AliasLine → Bool
are_defined lines = all_differ same_text (line_names lines) && uses_earlier [] lines

-- these are the names of aliases that are defined well
pub record HasDefined (lines : List AliasLine) (places : Places (Unit {0})) : Type 0 where
  pub defined : are_defined lines ≡ true
  pub names : (q : List ℕ) → is_some (place_in places q) ≡ is_listed (line_names lines) q

-- the states that starts name, the numbers of states, and the goals of their edges
abbrev pub starts_named : List (Bor (List ℕ)) → List ℕ
starts_named starts = flat_map (λ (q : List ℕ). q) (map (λ (s : Bor (List ℕ)). s.now) starts)

abbrev pub numbers : List WrittenState → List ℕ
numbers states = map (λ s. s.number) states

abbrev pub edge_targets : List WrittenState → List ℕ
edge_targets states = flat_map (λ (e : WrittenEdge). e.to) (flat_map (λ (s : WrittenState). s.edges) states)

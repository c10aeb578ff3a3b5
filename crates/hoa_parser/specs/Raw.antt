-- What a `Raw` says, apart from how it lies in memory.
use Rattle.std.specs.Prelude.{ℕ, zero, suc, ◌/◌, ◌%◌, ◌^◌, ◌==◌, Bool, true, false, List, [], ◌∷◌, ◌++◌, map, Option}
use Rattle.std.specs.Option.{option_map}
use Rattle.aut_base.specs.Formula.{FormulaTree, formula_tree}
use Rattle.hoa_parser.specs.declared.raw.Item.{Item}
use Rattle.hoa_parser.specs.declared.raw.Raw.{Raw}
use Rattle.hoa_parser.specs.declared.raw.RawEdge.{RawEdge}
use Rattle.hoa_parser.specs.declared.raw.RawLabel.{RawLabel}
use Rattle.hoa_parser.specs.declared.raw.RawLabel.TheOpen.{RawLabel-F}
use Rattle.hoa_parser.specs.declared.raw.RawLabel.TheFolds.{fold-RawLabel, fold-RawLabels}
use Rattle.hoa_parser.specs.declared.raw.RawLabels.{RawLabels}
use Rattle.hoa_parser.specs.declared.raw.RawState.{RawState}

-- a label as it is written; a conjunction or disjunction has two parts or more
mutual
  pub data RawTree : Type 0 where
    True : RawTree
    False : RawTree
    Prop : ℕ → RawTree
    Alias : List ℕ → RawTree
    Not : RawTree → RawTree
    And : RawTree → RawTree → RawTrees → RawTree
    Or : RawTree → RawTree → RawTrees → RawTree

  pub data RawTrees : Type 0 where
    none : RawTrees
    more : RawTree → RawTrees → RawTrees

-- the list, as a tree holds it
abbrev pub raw_trees : List RawTree → RawTrees
raw_trees [] = none
raw_trees (t ∷ ts) = more t (raw_trees ts)

-- bit k of a number
abbrev pub has_bit : ℕ → ℕ → Bool
has_bit number k = (number / (2 ^ k)) % 2 == 1

-- a proposition that holds, or one that doesn't
abbrev pub raw_literal : ℕ → Bool → RawTree
raw_literal k true = Prop k
raw_literal k false = Not (Prop k)

-- that literal alone, if it is asked for
abbrev pub maybe_literal : Bool → ℕ → Bool → List RawTree
maybe_literal false k holds = []
maybe_literal true k holds = raw_literal k holds ∷ []

-- of the first n propositions those whose bits are set in `names`, each as its bit of `values` says
abbrev pub cube_literals : ℕ → ℕ → ℕ → List RawTree
cube_literals names values zero = []
cube_literals names values (suc n) = cube_literals names values n ++ maybe_literal (has_bit names n) n (has_bit values n)

-- of all that have bits
unfoldable pub all_literals : ℕ → ℕ → List RawTree
all_literals names values = cube_literals names values 32

-- the conjunction of a list
abbrev pub raw_all : List RawTree → RawTree
raw_all [] = True
raw_all (t ∷ []) = t
raw_all (t ∷ u ∷ us) = And t u (raw_trees us)

-- the disjunction of a list
abbrev pub raw_any : List RawTree → RawTree
raw_any [] = False
raw_any (t ∷ []) = t
raw_any (t ∷ u ∷ us) = Or t u (raw_trees us)

-- the parts of a conjunction or disjunction
pub record RawParts : Type 0 where
  pub first : RawTree
  pub second : RawTree
  pub others : List RawTree

-- one level of a label, with trees in the place of what it holds
abbrev pub raw_step : RawLabel-F RawTree RawParts → RawTree
raw_step RawLabel-F.True = True
raw_step RawLabel-F.False = False
raw_step (RawLabel-F.Prop i) = Prop i
raw_step (RawLabel-F.Negated i) = Not (Prop i)
raw_step (RawLabel-F.Cube names values) = raw_all (all_literals names values)
raw_step (RawLabel-F.Alias name) = Alias name.value
raw_step (RawLabel-F.Not t) = Not t.value
raw_step (RawLabel-F.And p) = And p.value.first p.value.second (raw_trees p.value.others)
raw_step (RawLabel-F.Or p) = Or p.value.first p.value.second (raw_trees p.value.others)

-- the tree of a label
abbrev pub raw_tree : RawLabel → RawTree
raw_tree = fold-RawLabel RawTree RawParts raw_step (λ ls. record { first = ls.first; second = ls.second; others = ls.others.items })

-- the parts of a conjunction or disjunction
abbrev pub raw_parts : RawLabels → RawParts
raw_parts = fold-RawLabels RawTree RawParts raw_step (λ ls. record { first = ls.first; second = ls.second; others = ls.others.items })

-- the same as one list, of two parts or more
abbrev pub raw_list : RawLabels → List RawTree
raw_list ls = (raw_parts ls).first ∷ (raw_parts ls).second ∷ (raw_parts ls).others

-- an edge of the body
pub record WrittenEdge : Type 0 where
  pub label : Option RawTree
  pub to : List ℕ
  pub marks : List ℕ

-- a state of the body
pub record WrittenState : Type 0 where
  pub label : Option RawTree
  pub number : ℕ
  pub marks : List ℕ
  pub edges : List WrittenEdge

-- an item of the header
pub data WrittenItem : Type 0 where
  States : ℕ → WrittenItem
  Start : List ℕ → WrittenItem
  -- the number after `AP:`, and the names
  Ap : ℕ → List (List ℕ) → WrittenItem
  AliasOf : List ℕ → RawTree → WrittenItem
  Acceptance : ℕ → FormulaTree → WrittenItem
  AccName : WrittenItem
  Tool : WrittenItem
  Name : List ℕ → WrittenItem
  Properties : List (List ℕ) → WrittenItem
  Other : List ℕ → WrittenItem

-- an automaton as it is written
pub record Written : Type 0 where
  pub version : List ℕ
  pub items : List WrittenItem
  pub states : List WrittenState

abbrev pub written_item : Item → WrittenItem
written_item (Item.States n) = States n
written_item (Item.Start states) = Start states
written_item (Item.Ap count names) = Ap count names
written_item (Item.Alias name label) = AliasOf name (raw_tree label)
written_item (Item.Acceptance sets formula) = Acceptance sets (formula_tree formula)
written_item Item.AccName = AccName
written_item Item.Tool = Tool
written_item (Item.Name text) = Name text
written_item (Item.Properties words) = Properties words
written_item (Item.Other name) = Other name

abbrev pub written_edge : RawEdge → WrittenEdge
written_edge e = record { label = option_map raw_tree e.label; to = e.ends.to; marks = e.ends.marks }

abbrev pub written_state : RawState → WrittenState
written_state s = record { label = option_map raw_tree s.label; number = s.number; marks = s.marks; edges = map written_edge s.edges }

abbrev pub written : Raw → Written
written raw = record { version = raw.version; items = map written_item raw.items; states = map written_state raw.states }

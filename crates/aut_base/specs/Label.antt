-- Labels as trees, where they are true (HOA v1, label-expr), and the tree of a label in memory.
use Rattle.std.specs.Prelude.{◌+◌, ◌<◌, ℕ, Bool, true, false, not, ◌&&◌, ◌||◌, List, [], ◌∷◌, slice_get}
use Rattle.std.specs.FinSet.{contains}
use Rattle.std.specs.Option.{option_map_or}
use Rattle.aut_base.specs.Word.{NameSet}
use Rattle.aut_base.specs.declared.label.Label.{Label}
use Rattle.aut_base.specs.declared.label.Label.TheOpen.{Label-F}
use Rattle.aut_base.specs.declared.label.Label.TheFolds.{fold-Label, fold-Labels}
use Rattle.aut_base.specs.declared.label.Labels.{Labels}

-- a Boolean formula over numbered propositions; a conjunction or disjunction has two parts or more
mutual
  pub data LabelTree : Type 0 where
    True : LabelTree
    False : LabelTree
    Prop : ℕ → LabelTree
    Not : LabelTree → LabelTree
    And : LabelTree → LabelTree → LabelTrees → LabelTree
    Or : LabelTree → LabelTree → LabelTrees → LabelTree

  pub data LabelTrees : Type 0 where
    none : LabelTrees
    more : LabelTree → LabelTrees → LabelTrees

-- The truth of a label, where `holds` says which propositions hold.
abbrev mutual
  pub truth : (ℕ → Bool) → LabelTree → Bool
  truth holds True = true
  truth holds False = false
  truth holds (Prop i) = holds i
  truth holds (Not t) = not (truth holds t)
  truth holds (And a b cs) = truth holds a && (truth holds b && all_true holds cs)
  truth holds (Or a b cs) = truth holds a || (truth holds b || some_true holds cs)

  pub all_true : (ℕ → Bool) → LabelTrees → Bool
  all_true holds none = true
  all_true holds (more t ts) = truth holds t && all_true holds ts

  pub some_true : (ℕ → Bool) → LabelTrees → Bool
  some_true holds none = false
  some_true holds (more t ts) = truth holds t || some_true holds ts

-- Every proposition of the label is below n.
abbrev mutual
  pub AllBelow : ℕ → LabelTree → Type 0
  AllBelow n True = Unit {0}
  AllBelow n False = Unit {0}
  AllBelow n (Prop i) = i < n
  AllBelow n (Not t) = AllBelow n t
  AllBelow n (And a b cs) = AllBelow n a × AllBelow n b × EachBelow n cs
  AllBelow n (Or a b cs) = AllBelow n a × AllBelow n b × EachBelow n cs

  pub EachBelow : ℕ → LabelTrees → Type 0
  EachBelow n none = Unit {0}
  EachBelow n (more t ts) = AllBelow n t × EachBelow n ts

-- The number of nodes of a label's tree, a measure for recursion over its parts.
abbrev mutual
  pub label_size : LabelTree → ℕ
  label_size True = 1
  label_size False = 1
  label_size (Prop i) = 1
  label_size (Not t) = 1 + label_size t
  label_size (And a b cs) = 1 + (label_size a + (label_size b + labels_size cs))
  label_size (Or a b cs) = 1 + (label_size a + (label_size b + labels_size cs))

  pub labels_size : LabelTrees → ℕ
  labels_size none = 0
  labels_size (more t ts) = label_size t + labels_size ts

-- The i-th proposition holds at a letter that has the i-th name. Other names of the letter play no part.
abbrev pub holds_at : List (List ℕ) → NameSet → ℕ → Bool
holds_at names letter i = option_map_or (contains letter) (slice_get names i) false

-- the list of parts, in the type that trees have for it
abbrev pub trees : List LabelTree → LabelTrees
trees [] = none
trees (t ∷ ts) = more t (trees ts)

-- the parts of a conjunction or disjunction
pub record LabelParts : Type 0 where
  pub first : LabelTree
  pub second : LabelTree
  pub others : List LabelTree

-- one level of a label, whose parts are given as trees
abbrev pub label_step : Label-F LabelTree LabelParts → LabelTree
label_step Label-F.True = True
label_step Label-F.False = False
label_step (Label-F.Prop i) = Prop i
label_step (Label-F.Negated i) = Not (Prop i)
label_step (Label-F.Not t) = Not t.value
label_step (Label-F.And p) = And p.value.first p.value.second (trees p.value.others)
label_step (Label-F.Or p) = Or p.value.first p.value.second (trees p.value.others)

-- the tree of a label
abbrev pub label_tree : Label → LabelTree
label_tree = fold-Label LabelTree LabelParts label_step (λ ls. record { first = ls.first; second = ls.second; others = ls.others.items })

-- the parts of a conjunction or disjunction
abbrev pub label_parts : Labels → LabelParts
label_parts = fold-Labels LabelTree LabelParts label_step (λ ls. record { first = ls.first; second = ls.second; others = ls.others.items })

-- the same as one list, of two parts or more
abbrev pub label_list : Labels → List LabelTree
label_list ls = (label_parts ls).first ∷ (label_parts ls).second ∷ (label_parts ls).others

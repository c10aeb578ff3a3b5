-- The invariant of patterns that the propositions of labels are below a number, and that it has at most one proof, as an invariant of
-- a type must.
use Rattle.std.specs.Prelude.{ℕ, List, map}
use Rattle.std.specs.List.{AllByRecursion, AllByRecursion-prop}
use Rattle.std.specs.Coded.{×_prop, Unit-prop, le_prop}
use Rattle.aut_base.specs.Label.{AllBelow, EachBelow, LabelTree, LabelTrees, True, False, Prop, Not, And, Or, none, more, label_tree}
use Rattle.aut_base.specs.declared.label.Label.{Label}

-- every proposition of these labels is below n
abbrev pub AllLabelsBelow : ℕ → List Label → Type 0
AllLabelsBelow n labels = AllByRecursion (AllBelow n) (map label_tree labels)

three-prop : {A B C : Type 0} → IsProp A → IsProp B → IsProp C → IsProp (A × B × C)
three-prop p q r x y = λ i. (p x.0 y.0 i, q x.1 y.1 i, r x.2 y.2 i)

mutual
  AllBelow-prop : (n : ℕ) (t : LabelTree) → IsProp (AllBelow n t)
  AllBelow-prop n True = Unit-prop
  AllBelow-prop n False = Unit-prop
  AllBelow-prop n (Prop i) = le_prop
  AllBelow-prop n (Not t) = AllBelow-prop n t
  AllBelow-prop n (And a b cs) = three-prop (AllBelow-prop n a) (AllBelow-prop n b) (EachBelow-prop n cs)
  AllBelow-prop n (Or a b cs) = three-prop (AllBelow-prop n a) (AllBelow-prop n b) (EachBelow-prop n cs)

  EachBelow-prop : (n : ℕ) (ts : LabelTrees) → IsProp (EachBelow n ts)
  EachBelow-prop n none = Unit-prop
  EachBelow-prop n (more t ts) = ×_prop (AllBelow-prop n t) (EachBelow-prop n ts)

pub AllLabelsBelow-prop : (n : ℕ) (labels : List Label) → IsProp (AllLabelsBelow n labels)
AllLabelsBelow-prop n labels = AllByRecursion-prop (AllBelow n) (AllBelow-prop n) (map label_tree labels)

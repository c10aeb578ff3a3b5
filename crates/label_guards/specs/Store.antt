-- A store of labels over a fixed number of propositions, as contracts see it. What it holds are decision diagrams
-- (Bryant 1986), each under the place where it begins: place 0 is `f`, place 1 is `t`, and the others are nodes.
use Rattle.std.specs.Prelude.{◌≡◌, ℕ, ◌+◌, ◌<◌, Bool, true, false, if◌then◌else◌, List, [], ◌∷◌, ◌++◌, length}
use Rattle.std.specs.List.{slice_index_or}
use Rattle.aut_base.specs.CanonicalLabel.{label_of_truth}
use Rattle.aut_base.specs.Label.{LabelTree}
use Rattle.aut_base.specs.Valuation.{holds_in}
use Rattle.label_guards.specs.declared.guard.Guard.{Guard}
use Rattle.label_guards.specs.declared.nodes.Node.{Node}

-- the number of propositions, and the nodes in the order of their places
pub record Store : Type 0 where
  pub names : ℕ
  pub nodes : List Node

-- how many guards there are
abbrev pub places : Store → ℕ
places s = 2 + length s.nodes

abbrev pub HasPlace : Store → ℕ → Type 0
HasPlace s place = place < places s

-- the store has this guard
abbrev pub Has : Store → Guard → Type 0
Has s g = HasPlace s g.place

-- the truth of a node, by the truths at the places before it
abbrev pub branch : (ℕ → Bool) → List Bool → Node → Bool
branch on before n = if on n.prop then slice_index_or before n.high false else slice_index_or before n.low false

-- the truths at all places, where `on` says which propositions hold, after the first ones
abbrev pub outcomes : (ℕ → Bool) → List Bool → List Node → List Bool
outcomes on before [] = before
outcomes on before (n ∷ ns) = outcomes on (before ++ branch on before n ∷ []) ns

-- the truth at a place
abbrev pub outcome : List Node → (ℕ → Bool) → ℕ → Bool
outcome ns on place = slice_index_or (outcomes on (false ∷ true ∷ []) ns) place false

-- the label of a place, in its canonical form
unfoldable pub label_at : Store → ℕ → LabelTree
label_at s place = label_of_truth s.names (λ v. outcome s.nodes (holds_in v) place)

-- the label of a guard, in its canonical form
abbrev pub label_in : Store → Guard → LabelTree
label_in s g = label_at s g.place

-- what was in a store is in it still, under the same numbers
pub record Keeps (old new : Store) : Type 0 where
  pub names : new.names ≡ old.names
  pub has : (g : Guard) → Has old g → Has new g
  pub labels : (g : Guard) → Has old g → label_in new g ≡ label_in old g

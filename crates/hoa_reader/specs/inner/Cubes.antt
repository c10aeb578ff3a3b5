-- What conjunctions of literals tell, and their parts.
use Rattle.std.specs.Prelude.{◌≡◌, ◌≤◌, ℕ, List, [], ◌∷◌, true, map}
use Rattle.aut_base.specs.Label.{LabelTree, label_list, label_tree}
use Rattle.hoa_parser.specs.Raw.{RawTree, all_literals, raw_all, raw_trees}
use Rattle.hoa_reader.specs.Described.{Meaning, expanded}
use Rattle.hoa_reader.specs.declared.elaborate.cube.Conjunction.{Conjunction}
use Rattle.hoa_reader.specs.declared.elaborate.shape.Shape.{Shape}
use Rattle.hoa_reader.specs.inner.Growing.{capped_height, capped_heights, capped_size, capped_sizes}
use Rattle.hoa_reader.specs.inner.Sums.{all_props_after, props_after}

-- what a visit tells of a label without aliases, whatever these are
pub record Tells (s : Shape) (t : RawTree) : Type 0 where
  pub props : s.props ≡ props_after t
  pub plain : s.plain ≡ true
  pub height : (alias : List ℕ → ℕ) → s.height ≡ capped_height alias t
  pub size : (alias : List ℕ → ℕ) → s.size ≡ capped_size alias t

-- none of them has more than two signs
abbrev pub AreSmall : List RawTree → Type 0
AreSmall [] = Unit {0}
AreSmall (t ∷ ts) = ((alias : List ℕ → ℕ) → capped_size alias t ≤ 2) × AreSmall ts

-- of all of these together
pub record TellsAll (s : Shape) (ts : List RawTree) : Type 0 where
  pub props : s.props ≡ all_props_after (raw_trees ts)
  pub plain : s.plain ≡ true
  pub height : (alias : List ℕ → ℕ) → s.height ≡ capped_heights alias (raw_trees ts)
  pub size : (alias : List ℕ → ℕ) → s.size ≡ capped_sizes alias (raw_trees ts)
  pub small : AreSmall ts

-- the label of a conjunction that is given by its bits
abbrev pub cube_tree : ℕ → ℕ → LabelTree
cube_tree names values = expanded [] (raw_all (all_literals names values))

-- the labels of these
abbrev pub each_of : List Meaning → List RawTree → List LabelTree
each_of meanings ts = map (expanded meanings) ts

-- the parts of a conjunction, as one list
abbrev pub parts_of : Conjunction → List LabelTree
parts_of Conjunction.None = []
parts_of (Conjunction.One label) = label_tree label ∷ []
parts_of (Conjunction.More labels) = label_list labels

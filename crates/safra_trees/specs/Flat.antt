-- How a tree is stored: the parent of each name, the states of the root in their order, and for each of them its place,
-- the deepest node that holds it.
use Rattle.std.specs.Prelude.{◌≡◌, ◌<◌, ◌≤◌, ℕ, Bool, true, List, [], ◌∷◌, ◌++◌, All, AllPairs, cond, filter, length, map, nat_lt, not, slice_index_or}
use Rattle.std.specs.List.{range_with_len}
use Rattle.aut_base.specs.Marks.{is_in}
use Rattle.aut_base.specs.declared.limit.TheConstants.{MOST_NODES}
use Rattle.safra_trees.specs.Step.{above}
use Rattle.safra_trees.specs.Trees.{Node}

-- the number of this index, 0 past the end
abbrev pub at : List ℕ → ℕ → ℕ
at xs i = slice_index_or xs i 0

-- x is y or an ancestor of it
abbrev pub is_over : (ℕ → ℕ) → ℕ → ℕ → Bool
is_over parent x y = is_in x (y ∷ above parent y y)

-- the states whose places pass a test
abbrev pub placed : (ℕ → Bool) → List ℕ → List ℕ → List ℕ
placed p [] places = []
placed p (s ∷ states) [] = []
placed p (s ∷ states) (x ∷ places) = cond (p x) (s ∷ placed p states places) (placed p states places)

abbrev pub node_of : List ℕ → List ℕ → List ℕ → ℕ → Node
node_of parents states places x = record { parent = at parents x; states = placed (is_over (at parents) x) states places }

-- the tree that is stored so
abbrev pub nodes_of : List ℕ → List ℕ → List ℕ → List Node
nodes_of parents states places = map (node_of parents states places) (range_with_len 0 (length parents))

-- the invariant of a stored tree: there are few nodes, a parent has a lower name, the states are in rising order, and each
-- node is the place of some state
pub record IsStored (parents states places : List ℕ) : Type 0 where
  pub few : length parents ≤ MOST_NODES
  pub root : at parents 0 ≡ 0
  pub lower : (x : ℕ) → 0 < x → x < length parents → at parents x < x
  pub rising : AllPairs (λ a b. a < b) states
  pub each : length places ≡ length states
  pub below : All (λ x. x < length parents) places
  pub own : (x : ℕ) → x < length parents → is_in x places ≡ true

-- whether a state is below k, or not
abbrev pub is_low : ℕ → ℕ → Bool
is_low k s = nat_lt s k

abbrev pub is_high : ℕ → ℕ → Bool
is_high k s = not (nat_lt s k)

-- the states are in two lists, first those below k and then the others
pub record IsSplit (k : ℕ) (low rest : List ℕ) : Type 0 where
  pub low_are : low ≡ filter (is_low k) (low ++ rest)
  pub rest_are : rest ≡ filter (is_high k) (low ++ rest)

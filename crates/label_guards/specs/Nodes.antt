-- What holds of the nodes of a store: its diagrams are reduced and ordered, and no two of them are the same.
use Rattle.std.specs.Prelude.{◌≡◌, ◌≢◌, ◌⊎◌, ℕ, ◌+◌, ◌<◌, ◌≤◌, Bool, ◌&&◌, if◌then◌else◌, List, [], ◌∷◌, ◌++◌, map, Option, Some, slice_get, Contains, nat_eq}
use Rattle.std.specs.List.{slice_index_or}
use Rattle.aut_base.specs.declared.limit.TheConstants.{MOST_NAMES}
use Rattle.label_guards.specs.declared.nodes.Node.{Node}
use Rattle.label_guards.specs.Store.{Store, HasPlace, outcome}

-- the proposition that is asked for first at a place; `f` and `t` ask for none, so theirs lies behind all
abbrev pub level_among : ℕ → List Node → ℕ → ℕ
level_among names ns place = slice_index_or (names ∷ names ∷ map (λ (n : Node). n.prop) ns) place names

abbrev pub level : Store → ℕ → ℕ
level s place = level_among s.names s.nodes place

-- a node that may stand at a place
pub record IsNode (names : ℕ) (ns : List Node) (place : ℕ) (n : Node) : Type 0 where
  pub within : n.prop < names
  pub differ : n.low ≢ n.high
  pub low : n.low < place
  pub high : n.high < place
  pub low_later : n.prop < level_among names ns n.low
  pub high_later : n.prop < level_among names ns n.high

pub record IsReducedDiagram (names : ℕ) (ns : List Node) : Type 0 where
  pub few : names ≤ MOST_NAMES
  pub node : (i : ℕ) (n : Node) → slice_get ns i ≡ Some n → IsNode names ns (2 + i) n
  pub once : (i j : ℕ) (n : Node) → slice_get ns i ≡ Some n → slice_get ns j ≡ Some n → i ≡ j

-- a node is added at the end, or was there
abbrev pub AddsNode : List Node → List Node → Node → Type 0
AddsNode old new n = (new ≡ old) ⊎ ((new ≡ old ++ n ∷ []) × (Contains old n → ⊥))

abbrev pub equal_nodes : Node → Node → Bool
equal_nodes a b = nat_eq a.prop b.prop && (nat_eq a.low b.low && nat_eq a.high b.high)

-- the number of each node is its place in the list
pub record HasNumbers (ns : List Node) (number : Node → Option ℕ) : Type 0 where
  pub there : (n : Node) (i : ℕ) → number n ≡ Some i → slice_get ns i ≡ Some n
  pub known : (i : ℕ) (n : Node) → slice_get ns i ≡ Some n → number n ≡ Some i

-- earlier places keep their nodes
pub record Grows (old new : Store) : Type 0 where
  pub names : new.names ≡ old.names
  pub more : List Node
  pub nodes : new.nodes ≡ old.nodes ++ more

-- the node of a place
pub record IsNodeAt (s : Store) (place : ℕ) (n : Node) : Type 0 where
  pub node : IsNode s.names s.nodes place n
  pub level : level s place ≡ n.prop
  pub truth : (on : ℕ → Bool) → outcome s.nodes on place ≡ (if on n.prop then outcome s.nodes on n.high else outcome s.nodes on n.low)

-- the place where a proposition decides between two others
pub record IsChoice (s : Store) (prop low high place : ℕ) : Type 0 where
  pub has : HasPlace s place
  pub later : prop ≤ level s place
  pub truth : (on : ℕ → Bool) → outcome s.nodes on place ≡ (if on prop then outcome s.nodes on high else outcome s.nodes on low)

-- the two places that a proposition decides between, where no earlier one is asked for at this place
pub record AreSides (s : Store) (prop place low high : ℕ) : Type 0 where
  pub low_bound : low ≤ place
  pub high_bound : high ≤ place
  pub low_later : prop < level s low
  pub high_later : prop < level s high
  pub smaller : level s place ≡ prop → (low < place) × (high < place)
  pub truth : (on : ℕ → Bool) → outcome s.nodes on place ≡ (if on prop then outcome s.nodes on high else outcome s.nodes on low)

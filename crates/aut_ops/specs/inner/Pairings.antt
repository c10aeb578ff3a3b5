-- The state of a product under construction, and what each step adds to it.
use Rattle.std.specs.Prelude.{◌≡◌, ℕ, ◌+◌, ◌<◌, ◌^◌, List, ◌++◌, All, Contains, Some, flat_map, fold, length, map, slice_get}
use Rattle.std.specs.List.{AllZip}
use Rattle.aut_base.specs.Automaton.{LabelledEdge}
use Rattle.aut_core.specs.SymbolicAutomata.{edge_of}
use Rattle.aut_core.specs.declared.link.Link.{Link}
use Rattle.label_guards.specs.Store.{Has, Keeps, Store}
use Rattle.exploration.specs.Turns.{with_new}
use Rattle.aut_ops.specs.Products.{JointEdge, joint_edge, same_pair}

-- the pairs in the order in which they were found, and the links between their indices, with guards of the store
pub record PairingStage : Type 0 where
  pub store : Store
  pub pairs : List (ℕ × ℕ)
  pub links : List Link

-- the edge leads between the indices of the pairs between which the product edge does
pub record IsJointEdgeAt (pairs : List (ℕ × ℕ)) (e : LabelledEdge) (j : JointEdge) : Type 0 where
  pub from : slice_get pairs e.from ≡ Some j.from
  pub to : slice_get pairs e.to ≡ Some j.to
  pub label : e.label ≡ j.label
  pub marks : e.marks ≡ j.marks

-- the links are these edges
pub record AreJointEdges (s : PairingStage) (js : List JointEdge) : Type 0 where
  pub has : All (λ l. Has s.store l.guard) s.links
  pub edges : AllZip (IsJointEdgeAt s.pairs) (map (edge_of s.store) s.links) js

-- the list, and after it those of the pairs that it lacks, in order
abbrev pub with_pairs : List (ℕ × ℕ) → List (ℕ × ℕ) → List (ℕ × ℕ)
with_pairs = fold (with_new same_pair)

-- these edges were added, and the pairs to which they lead
pub record AddsJointEdges (old new : PairingStage) (js : List JointEdge) : Type 0 where
  pub keeps : Keeps old.store new.store
  pub pairs : new.pairs ≡ with_pairs old.pairs (map (λ j. j.to) js)
  pub links : (before : List JointEdge) → AreJointEdges old before → AreJointEdges new (before ++ js)

-- the list with some of the pairs added has more than `most`
pub record AreBeyond (most : ℕ) (pairs more : List (ℕ × ℕ)) : Type 0 where
  pub some : List (ℕ × ℕ)
  pub among : All (Contains more) some
  pub many : most < length (with_pairs pairs some)

-- the numbers are the indices of these pairs
abbrev pub ArePlacesOfPairs : List (ℕ × ℕ) → List ℕ → List (ℕ × ℕ) → Type 0
ArePlacesOfPairs pairs = AllZip (λ place pair. slice_get pairs place ≡ Some pair)

-- the product edge of two links, unless their labels are disjoint
abbrev pub meeting : Store → ℕ → Link → Link → List JointEdge
meeting s sets link other = joint_edge s.names sets (edge_of s link) (edge_of s other)

-- the product edges of one link with each of these
abbrev pub followed : Store → ℕ → List Link → Link → List JointEdge
followed s sets others link = flat_map (meeting s sets link) others

-- the two links leave the pair at this index, their guards are in the store, and their marks can be joined
pub record CanMeet (s : PairingStage) (at sets : ℕ) (link other : Link) : Type 0 where
  pub first : Has s.store link.guard
  pub second : Has s.store other.guard
  pub place : slice_get s.pairs at ≡ Some (link.from, other.from)
  pub marks : All (λ mark. mark < sets) link.marks
  pub others : All (λ mark. mark + sets < 2 ^ 32) other.marks

-- these pairs were listed, and their indices added after the others
pub record ArePairsListed (old new : List (ℕ × ℕ)) (starts more : List ℕ) (xs : List (ℕ × ℕ)) : Type 0 where
  pub pairs : new ≡ with_pairs old xs
  pub places : (before : List (ℕ × ℕ)) → ArePlacesOfPairs old starts before → ArePlacesOfPairs new more (before ++ xs)

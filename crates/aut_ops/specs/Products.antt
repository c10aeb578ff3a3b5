-- Products of automata, for the intersection and the union of languages.
use Rattle.std.specs.Prelude.{◌≡◌, ◌≢◌, ℕ, ◌+◌, ◌<◌, ◌==◌, Bool, ◌&&◌, if◌then◌else◌, List, [], ◌∷◌, ◌++◌, All, AllPairs, flat_map, length, map}
use Rattle.std.specs.List.{position_or_len}
use Rattle.acc_forms.specs.Shift.{shift}
use Rattle.aut_base.specs.Automaton.{Automaton, LabelledEdge}
use Rattle.aut_base.specs.Formula.{FormulaTree}
use Rattle.aut_base.specs.Label.{LabelTree}
use Rattle.aut_core.specs.OtherNames.{joined_names, over_names}
use Rattle.aut_core.specs.Surveys.{edges_from}
use Rattle.aut_ops.specs.BreadthFirst.{IsBreadthFirst, IsReachedFrom}
use Rattle.aut_ops.specs.Labels.{both_labels, is_never}

-- an edge of the product of two automata, made of an edge of each: it leads from a pair of states to a pair
pub record JointEdge : Type 0 where
  pub from : ℕ × ℕ
  pub label : LabelTree
  pub to : ℕ × ℕ
  pub marks : List ℕ

-- The product edge of two edges, unless their labels are disjoint. The marks of the second are raised by the number of the first's
-- sets.
abbrev pub joint_edge : ℕ → ℕ → LabelledEdge → LabelledEdge → List JointEdge
joint_edge names sets d e =
    if is_never names (both_labels names d.label e.label) then []
    else record { from = (d.from, e.from); label = both_labels names d.label e.label; to = (d.to, e.to); marks = d.marks ++ map (λ mark. mark + sets) e.marks } ∷ []

-- the edges that leave a pair of states: each of the first's with each of the second's, in the order of the first's
abbrev pub joint_edges : Automaton → Automaton → ℕ × ℕ → List JointEdge
joint_edges a b pair = flat_map (λ d. flat_map (joint_edge (length a.names) a.sets d) (edges_from pair.1 b.edges)) (edges_from pair.0 a.edges)

-- the pairs of starts, in the order of the first's
abbrev pub start_pairs : Automaton → Automaton → List (ℕ × ℕ)
start_pairs a b = flat_map (λ p. map (λ q. (p, q)) b.starts) a.starts

-- the pairs to which the edges of a pair lead
abbrev pub next_pairs : Automaton → Automaton → ℕ × ℕ → List (ℕ × ℕ)
next_pairs a b pair = map (λ j. j.to) (joint_edges a b pair)

abbrev pub same_pair : ℕ × ℕ → ℕ × ℕ → Bool
same_pair p q = (p.0 == q.0) && (p.1 == q.1)

-- the pairs are those reached, in breadth-first order
abbrev pub ArePairs : Automaton → Automaton → List (ℕ × ℕ) → Type 0
ArePairs a b = IsBreadthFirst same_pair (start_pairs a b) (next_pairs a b)

-- the edge between the numbers of the pairs, which are their indices
abbrev pub numbered : List (ℕ × ℕ) → JointEdge → LabelledEdge
numbered pairs j = record { from = position_or_len (same_pair j.from) pairs; label = j.label; to = position_or_len (same_pair j.to) pairs; marks = j.marks }

-- the product of two automata over the same names, whose states are these pairs
abbrev pub product_on : (FormulaTree → FormulaTree → FormulaTree) → List (ℕ × ℕ) → Automaton → Automaton → Automaton
product_on join pairs a b = record {
  names = a.names;
  starts = map (λ pair. position_or_len (same_pair pair) pairs) (start_pairs a b);
  states = length pairs;
  edges = map (numbered pairs) (flat_map (joint_edges a b) pairs);
  sets = a.sets + b.sets;
  formula = join a.formula (shift a.sets b.formula);
}

-- The product of two automata over the same names, under this join of their conditions: under `conj` both have to be met, for the
-- intersection, and under `disj` one of the two, for the union, where each automaton is complete.
pub record IsProduct (join : FormulaTree → FormulaTree → FormulaTree) (a b made : Automaton) : Type 0 where
  pub pairs : List (ℕ × ℕ)
  pub in_order : ArePairs a b pairs
  pub is : made ≡ product_on join pairs a b

-- more than `most` pairs of states are reached
pub record HasMorePairs (most : ℕ) (a b : Automaton) : Type 0 where
  pub pairs : List (ℕ × ℕ)
  pub differ : AllPairs (λ p q. p ≢ q) pairs
  pub reached : All (IsReachedFrom (start_pairs a b) (next_pairs a b)) pairs
  pub more : most < length pairs

-- the automaton over the names of both
abbrev pub over_both : Automaton → Automaton → Automaton → Automaton
over_both a b x = over_names (joined_names a.names b.names) x

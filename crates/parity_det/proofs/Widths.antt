-- No tree that is found has more nodes than its limit, and the parity condition uses only the sets of the automaton.
use Rattle.std.proofs.Common.{◌+◌, ◌-◌, ◌<◌, ◌≤◌, ℕ, suc, zero, All, Bool, true, false, cond, List, [], ◌∷◌, arith, length, slice_get, subst}
use Rattle.std.specs.List.{list_any, range_with_len}
use Rattle.acc_forms.specs.Parity.{is_odd, parity_atom, parity_from, parity_min_odd}
use Rattle.aut_base.proofs.lists.Members.{each_there, there_at}
use Rattle.aut_base.specs.Automaton.{Automaton}
use Rattle.aut_base.specs.Formula.{And, Fin, FormulaTree, Inf, Or, SetsBelow, none}
use Rattle.aut_base.specs.declared.limit.TheConstants.{MOST_NODES}
use Rattle.exploration.specs.Reached.{IsExplored, LeadsTo}
use Rattle.exploration.specs.Turns.{Transition}
use Rattle.parity_det.proofs.Explored.{step_given}
use Rattle.parity_det.proofs.TreeMoves.{start_tree, tree_classes}
use Rattle.parity_det.specs.Determinisation.{tree_moves, width}
use Rattle.safra_trees.specs.Same.{same_nodes}
use Rattle.safra_laws.proofs.invariant.FirstTree.{tree_if}
use Rattle.safra_trees.specs.Trees.{Node}
use Rattle.safra_trees.specs.inner.Names.{has}

first_few : (n : ℕ) (starts : List ℕ) (b : Bool) → length (tree_if n starts b) ≤ MOST_NODES
first_few n starts true = omega arith
first_few n starts false = omega arith

leads_few : (b : Automaton) (ks : List ℕ) (x y : List Node) → length x ≤ MOST_NODES → LeadsTo (tree_moves b) x ks y → length y ≤ MOST_NODES
leads_few b [] x y few e = subst (λ (t : List Node). length t ≤ MOST_NODES) e few
leads_few b (k ∷ ks) x y few path_edges = leads_few b ks path_edges.1 y (step_given b x (slice_get (tree_classes b x) k) path_edges.1 path_edges.2).few path_edges.3

width_few : (trees : List (List Node)) → All (λ t. length t ≤ MOST_NODES) trees → width trees ≤ MOST_NODES
width_few [] all = omega arith
width_few (t ∷ ts) all =
    let here : length t ≤ MOST_NODES = all 0 t (omega arith) in
    let rest = width_few ts (λ k d within. all (suc k) d (omega (arith, within))) in
    omega (arith, here, rest)

pub few_nodes : (b : Automaton) (trees : List (List Node)) (transitions : List Transition) → IsExplored same_nodes (tree_moves b) (start_tree b) trees transitions → width trees ≤ MOST_NODES
few_nodes b trees transitions is = width_few trees (each_there (λ (t : List Node). length t ≤ MOST_NODES) trees (λ t there.
    let at = there_at trees t there in
    let reached = is.reached at.0 t at.1 in
    leads_few b reached.word (start_tree b) t (first_few b.states b.starts (list_any (has b.starts) (range_with_len 0 b.states))) reached.leads))

pub wide : (trees : List (List Node)) → 1 ≤ width trees
wide [] = omega arith
wide (t ∷ ts) = (let rest = wide ts in omega (arith, rest))

-- ---- the condition

atom_below : (n set : ℕ) → set < n → SetsBelow n (parity_atom set)
atom_below n set less = by_cases (is_odd set)
  where
    by_cases : (b : Bool) → SetsBelow n (cond b (Inf set false) (Fin set false))
    by_cases true = less
    by_cases false = less

joined_below : (n set : ℕ) (rest : FormulaTree) → set < n → SetsBelow n rest
    → SetsBelow n (cond (is_odd set) (Or (parity_atom set) rest none) (And (parity_atom set) rest none))
joined_below n set rest less below = by_cases (is_odd set)
  where
    by_cases : (b : Bool) → SetsBelow n (cond b (Or (parity_atom set) rest none) (And (parity_atom set) rest none))
    by_cases true = (atom_below n set less, below, tt)
    by_cases false = (atom_below n set less, below, tt)

from_below : (n more set : ℕ) → set + more < n → SetsBelow n (parity_from more set)
from_below n zero set less = atom_below n set (omega (arith, less))
from_below n (suc more) set less = joined_below n set (parity_from more (set + 1)) (omega (arith, less)) (from_below n more (set + 1) (omega (arith, less)))

pub parity_below : (n : ℕ) → 0 < n → SetsBelow n (parity_min_odd n)
parity_below n some = from_below n (n - 1) 0 (omega (arith, some))

-- A step depends only on the set of moves from states of the root, in whatever order they are listed.
use Rattle.std.proofs.Common.{◌≡◌, ◌∙◌, ◌&&◌, ◌==◌, ◌-◌, ◌+◌, ◌++◌, ◌≤◌, ℕ, zero, suc, Bool, true, cond, List, Contains, ap, arith, length, map, nat_lt}
use Rattle.std.proofs.Math.Path.{fun_ext}
use Rattle.std.proofs.lemmas.Bool.{and_parts}
use Rattle.aut_base.proofs.lists.Members.{any_found, any_from}
use Rattle.aut_base.proofs.numbers.Truth.{same_truth}
use Rattle.safra_trees.specs.Step.{Forest, IsTree, goes, goes_accepting, greens, grown, pruned, reds}
use Rattle.safra_trees.specs.Trees.{Node, holds, node_at}
use Rattle.safra_trees.specs.declared.moves.Move.{Move}
use Rattle.safra_laws.proofs.TreesAfter.{holds_within}
use Rattle.safra_laws.specs.Priorities.{lowest}
use Rattle.safra_laws.specs.Trees.{RootMovesAreEnough, SameRootMoves}

root_holds : (t : List Node) → IsTree t → (k x s : ℕ) → x ≤ k → holds t x s ≡ true → holds t 0 s ≡ true
root_holds t tree k zero s room h = h
root_holds t tree zero (suc x) s room h = absurd (omega (arith, room))
root_holds t tree (suc k) (suc x) s room h =
    let within = holds_within t (suc x) s h in
    let up = tree.lower (suc x) (omega arith) within in
    root_holds t tree k (node_at t (suc x)).parent s (omega (arith, up, room)) (tree.inside (suc x) s (omega arith) within h)

-- the moves of one letter from states of the root are moves of the other
abbrev RootMovesIn : List Move → List Move → List Node → Type 0
RootMovesIn ms ns t = (m : Move) → holds t 0 m.from ≡ true → Contains ms m → Contains ns m

goes_alike : (ms ns : List Move) (t : List Node) → IsTree t → RootMovesIn ms ns t → (x s : ℕ) → goes ms t x s ≡ true → goes ns t x s ≡ true
goes_alike ms ns t tree more x s h =
    let found = any_found (λ (m : Move). holds t x m.from && (m.to == s)) ms h in
    let parts = and_parts (holds t x found.0.from) (found.0.to == s) found.2 in
    any_from (λ (m : Move). holds t x m.from && (m.to == s)) ns found.0 (more found.0 (root_holds t tree x x found.0.from (omega arith) parts.0) found.1) found.2

goes_well_alike : (ms ns : List Move) (t : List Node) → IsTree t → RootMovesIn ms ns t → (x s : ℕ) → goes_accepting ms t x s ≡ true → goes_accepting ns t x s ≡ true
goes_well_alike ms ns t tree more x s h =
    let found = any_found (λ (m : Move). m.accepting && (holds t x m.from && (m.to == s))) ms h in
    let parts = and_parts (holds t x found.0.from) (found.0.to == s) (and_parts found.0.accepting (holds t x found.0.from && (found.0.to == s)) found.2).1 in
    let there = more found.0 (root_holds t tree x x found.0.from (omega arith) parts.0) found.1 in
    any_from (λ (m : Move). m.accepting && (holds t x m.from && (m.to == s))) ns found.0 there found.2

-- the grown forest of a tree, from where moves lead and where accepting moves lead
abbrev with_goals : ℕ → List Node → (ℕ → ℕ → Bool) → (ℕ → ℕ → Bool) → Forest
with_goals n t all well = record {
  bound = n;
  size = length t + length t;
  parent = λ y. cond (nat_lt y (length t)) (node_at t y).parent (y - length t);
  holds = λ y s. cond (nat_lt y (length t)) (all y s) (well (y - length t) s);
}

grown_alike : (n : ℕ) (ms ns : List Move) (t : List Node) → IsTree t → SameRootMoves ms ns t → grown n ms t ≡ grown n ns t
grown_alike n ms ns t tree same =
    let there : RootMovesIn ms ns t = λ m h. (same m h).0 in
    let back : RootMovesIn ns ms t = λ m h. (same m h).1 in
    let all : goes ms t ≡ goes ns t =
    fun_ext (λ x. fun_ext (λ s. same_truth (goes ms t x s) (goes ns t x s) (goes_alike ms ns t tree there x s) (goes_alike ns ms t tree back x s))) in
    let well : goes_accepting ms t ≡ goes_accepting ns t =
    fun_ext (λ x. fun_ext (λ s. same_truth (goes_accepting ms t x s) (goes_accepting ns t x s) (goes_well_alike ms ns t tree there x s) (goes_well_alike ns ms t tree back x s))) in
    ap (λ (g : ℕ → ℕ → Bool). with_goals n t g (goes_accepting ms t)) all ∙ ap (with_goals n t (goes ns t)) well

pub root_moves_are_enough : RootMovesAreEnough
root_moves_are_enough n most ms ns t tree same =
    let one = grown_alike n ms ns t tree same in
    (ap pruned one, ap (λ (f : Forest). lowest (most + most) (map (λ x. x + x) (reds f (length t)) ++ map (λ g. g + g + 1) (greens f))) one)

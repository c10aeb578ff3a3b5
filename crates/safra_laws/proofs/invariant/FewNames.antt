-- A tree has no more names than there are states: each has a state of its own.
use Rattle.std.proofs.Common.{◌≡◌, ◌⊎◌, ◌+◌, ◌<◌, ◌≤◌, ℕ, zero, suc, Bool, true, false, List, [], ◌∷◌, arith, inl, inr, length, refl, subst, sym}
use Rattle.std.proofs.lemmas.Bool.{both_ways, cases_eq, cases_lt}
use Rattle.std.specs.List.{list_any, range_with_len}
use Rattle.aut_base.proofs.numbers.Pigeonhole.{pigeons}
use Rattle.safra_trees.proofs.list_step.Pruned.{has_parts}
use Rattle.safra_trees.proofs.list_step.Ranks.{rank_all, rank_rises, rank_same}
use Rattle.safra_trees.specs.Step.{IsTree, Own}
use Rattle.safra_trees.specs.inner.Names.{has, rank}
use Rattle.safra_trees.specs.Trees.{Node, first_tree, holds, node_at}
use Rattle.safra_trees.specs.declared.moves.Move.{Move}
use Rattle.safra_laws.proofs.TreesAfter.{after_is_tree, held_below, holds_within}
use Rattle.safra_laws.proofs.invariant.FirstTree.{first_is_tree, tree_if}
use Rattle.safra_laws.specs.Rounds.{next_tree, tree_after}
use Rattle.safra_laws.specs.Trees.{TreesAreFew}

-- a child of x, up to y, that holds the state
record ChildUpTo (t : List Node) (x s y : ℕ) : Type 0 where
  name : ℕ
  more : 0 < name
  low : name ≤ y
  parent : (node_at t name).parent ≡ x
  held : holds t name s ≡ true

-- of two names that hold a state, the lower one has a child that holds it too
child_up_to : (t : List Node) → IsTree t → (k x y s : ℕ) → y ≤ k → x < y → y < length t → holds t x s ≡ true → holds t y s ≡ true → ChildUpTo t x s y
child_up_to t tree zero x y s room less within first second = absurd (omega (arith, room, less))
child_up_to t tree (suc k) x y s room less within first second =
    let p = (node_at t y).parent in
    let up : p < y = tree.lower y (omega (arith, less)) within in
    let above = tree.inside y s (omega (arith, less)) within second in
    elim (cases_lt x p) [
      | inl under ↦ (let rest = child_up_to t tree k x p s (omega (arith, up, room)) under (omega (arith, up, within)) first above in
          record { name = rest.name; more = rest.more; low = omega (arith, rest.low, up); parent = rest.parent; held = rest.held })
      | inr over ↦ (elim (cases_eq p x) [
        | inl same ↦ record { name = y; more = omega (arith, less); low = omega arith; parent = same; held = second }
        | inr other ↦ (let rest = child_up_to t tree k p x s (omega (arith, less, room)) (omega (arith, over, other)) (omega (arith, less, within)) above first in
            absurd (tree.apart rest.name y s rest.more (omega (arith, rest.low, less)) within rest.parent rest.held second))
      ])
    ]

own_apart : (t : List Node) → IsTree t → (x y : ℕ) → x < y → y < length t → (a : Own t x) (c : Own t y) → a.state ≡ c.state → ⊥
own_apart t tree x y less within a c same =
    let found = child_up_to t tree y x y a.state (omega arith) less within a.here (subst (λ s. holds t y s ≡ true) (sym same) c.here) in
    both_ways (holds t found.name a.state) (a.nowhere found.name found.more (omega (arith, found.low, within)) found.parent) found.held

-- all that the tree holds are states below n that pass a test
abbrev pub HoldsOnly : (ℕ → Bool) → ℕ → List Node → Type 0
HoldsOnly p n t = (x s : ℕ) → holds t x s ≡ true → (p s ≡ true) × (s < n)

module _ (p : ℕ → Bool) (n : ℕ) (t : List Node) (tree : IsTree t) (only : HoldsOnly p n t) where
  -- the rank of a state of the name's own among the states that pass; past the end, a number greater than all ranks
  abbrev pick : (x : ℕ) → (x < length t) ⊎ (length t ≤ x) → ℕ
  pick x (inl within) = rank p (tree.own x within).state
  pick x (inr past) = rank p n + x + 1

  own_below : (x : ℕ) (within : x < length t) → rank p (tree.own x within).state < rank p n
  own_below x within =
      let own = tree.own x within in
      let passes = only x own.state own.here in
      rank_rises p own.state n passes.1 passes.0

  pick_below : (x : ℕ) (c : (x < length t) ⊎ (length t ≤ x)) → x < length t → pick x c < rank p n
  pick_below x (inl within) less = own_below x within
  pick_below x (inr past) less = absurd (omega (arith, past, less))

  pick_apart : (x y : ℕ) (c : (x < length t) ⊎ (length t ≤ x)) (e : (y < length t) ⊎ (length t ≤ y)) → x < y → pick x c ≡ pick y e → ⊥
  pick_apart x y (inl h) (inl k) less same =
      let one = tree.own x h in
      let other = tree.own y k in
      own_apart t tree x y less k one other (rank_same p one.state other.state (only x one.state one.here).0 (only y other.state other.here).0 same)
  pick_apart x y (inl h) (inr k) less same = (let low = own_below x h in omega (arith, low, same))
  pick_apart x y (inr h) (inl k) less same = omega (arith, h, k, less)
  pick_apart x y (inr h) (inr k) less same = omega (arith, less, same)

  -- it has no more names than there are such states
  pub few_passing : length t ≤ rank p n
  few_passing = elim (cases_lt (rank p n) (length t)) [
    | inl many ↦ absurd (
        let twice = pigeons (rank p n) (λ x. pick x (cases_lt x (length t))) (length t) many (λ x less. pick_below x (cases_lt x (length t)) less) in
        pick_apart twice.first twice.second (cases_lt twice.first (length t)) (cases_lt twice.second (length t)) twice.later twice.same)
    | inr most ↦ most
  ]

abbrev StatesBelow : ℕ → List Node → Type 0
StatesBelow n t = (x s : ℕ) → holds t x s ≡ true → s < n

few_names : (n : ℕ) (t : List Node) → IsTree t → StatesBelow n t → length t ≤ n
few_names n t tree small =
    let passing = few_passing (λ s. true) n t tree (λ x s h. (refl, small x s h)) in
    let all = rank_all (λ s. true) n (λ f less. refl) in
    omega (arith, passing, all)

first_below : (n : ℕ) (starts : List ℕ) (b : Bool) → StatesBelow n (tree_if n starts b)
first_below n starts false x s h = absurd (omega (arith, holds_within (tree_if n starts false) x s h))
first_below n starts true zero s h = (has_parts (has starts) n s h).1
first_below n starts true (suc x) s h = absurd (omega (arith, holds_within (tree_if n starts true) (suc x) s h))

after_below : (n : ℕ) (t : List Node) (w : List (List Move)) → StatesBelow n t → StatesBelow n (tree_after n t w)
after_below n t [] small = small
after_below n t (ms ∷ w) small = after_below n (next_tree n ms t) w (λ x s h. held_below n ms t x s (holds_within (next_tree n ms t) x s h) h)

pub trees_are_few : TreesAreFew
trees_are_few n starts w =
    let first = first_tree n starts in
    let small : StatesBelow n first = first_below n starts (list_any (has starts) (range_with_len 0 n)) in
    few_names n (tree_after n first w) (after_is_tree n first w (first_is_tree n starts)) (after_below n first w small)

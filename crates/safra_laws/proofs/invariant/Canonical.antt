-- Steps keep trees canonical: each node lists its states in rising order, and the root is its own parent.
use Rattle.std.proofs.Common.{◌≡◌, ◌∙◌, ◌+◌, ◌<◌, ℕ, Bool, true, false, List, [], ap, arith, inl, inr, length, refl, subst, sym}
use Rattle.std.proofs.lemmas.Bool.{cases_lt}
use Rattle.std.proofs.lemmas.List.{get_or_past}
use Rattle.std.specs.List.{list_any, range_with_len}
use Rattle.aut_base.proofs.numbers.Truth.{same_truth}
use Rattle.safra_trees.proofs.flat_step.Finish.{names_alike}
use Rattle.safra_trees.proofs.list_step.Forests.{stays_up}
use Rattle.safra_trees.proofs.list_step.Pruned.{grown_forest, has_from, has_parts, old_parent, pruned_at, pruned_length, pruned_parent}
use Rattle.safra_trees.proofs.list_step.Ranks.{rank_back, rank_rises}
use Rattle.safra_trees.specs.Step.{IsTree, grown, retains, pruned, survives}
use Rattle.safra_trees.specs.inner.Names.{has, names_where, rank}
use Rattle.safra_trees.specs.Trees.{Node, holds, node_at}
use Rattle.safra_trees.specs.declared.moves.Move.{Move}
use Rattle.safra_laws.proofs.invariant.FirstTree.{tree_if}
use Rattle.safra_laws.specs.Canonical.{FirstIsCanonical, IsCanonicalTree, StepsKeepCanonical}
use Rattle.safra_laws.specs.Rounds.{next_tree}

-- a test of states, and whether a state is among those that pass it
has_same : (p : ℕ → Bool) (n s : ℕ) → s < n → p s ≡ has (names_where p n) s
has_same p n s less = same_truth (p s) (has (names_where p n) s) (λ h. has_from p n s h less) (λ h. (has_parts p n s h).0)

sets_of_step : (n : ℕ) (ms : List Move) (t : List Node) (x : ℕ) → x < length (next_tree n ms t) → (node_at (next_tree n ms t) x).states ≡ names_where (holds (next_tree n ms t) x) n
sets_of_step n ms t x within =
    let f = grown n ms t in
    let at = rank_back (survives f) (length t + length t) x (omega (arith, within, pruned_length f)) in
    let y = at.name in
    let is = pruned_at f y at.below at.stays in
    let each : (s : ℕ) → s < n → retains f y s ≡ holds (pruned f) (rank (survives f) y) s = λ s less. has_same (retains f y) n s less ∙ ap (λ (d : Node). has d.states s) (sym is) in
    let P : ℕ → Type 0 = λ z. (node_at (pruned f) z).states ≡ names_where (holds (pruned f) z) n in
    subst P at.is (ap (λ (d : Node). d.states) is ∙ names_alike (retains f y) (holds (pruned f) (rank (survives f) y)) n each)

-- the root after the step is the root before it
was_root : (n : ℕ) (ms : List Move) (t : List Node) (y : ℕ) → IsTree t → y < length t + length t → survives (grown n ms t) y ≡ true → rank (survives (grown n ms t)) y ≡ 0 → y ≡ 0
was_root n ms t y tree below on is = elim (cases_lt 0 y) [
  | inl more ↦ absurd (
      let f = grown n ms t in
      let forest = grown_forest n ms t tree in
      let up = forest.lower y more below in
      omega (arith, rank_rises (survives f) (f.parent y) y up (stays_up f forest y more below on), is))
  | inr none ↦ omega (arith, none)
]

root_of_step : (n : ℕ) (ms : List Move) (t : List Node) → IsTree t → (node_at t 0).parent ≡ 0 → (node_at (next_tree n ms t) 0).parent ≡ 0
root_of_step n ms t tree root = elim (cases_lt 0 (length (next_tree n ms t))) [
  | inr none ↦ ap (λ (d : Node). d.parent) (get_or_past (next_tree n ms t) 0 (record { parent = 0; states = [] }) none)
  | inl some ↦ (
      let f = grown n ms t in
      let at = rank_back (survives f) f.size 0 (omega (arith, some, pruned_length f)) in
      let y = at.name in
      let first = was_root n ms t y tree at.below at.stays at.is in
      let zero_parent : f.parent 0 ≡ 0 = old_parent n ms t 0 (omega (arith, at.below, first)) ∙ root in
      ap (λ z. (node_at (pruned f) z).parent) (sym at.is) ∙ (pruned_parent f y at.below at.stays ∙ ap (rank (survives f)) (ap f.parent first ∙ zero_parent)))
]

pub steps_keep_canonical : StepsKeepCanonical
steps_keep_canonical n ms t tree canonical = record { sets = sets_of_step n ms t; root = root_of_step n ms t tree canonical.root }

canonical_if : (n : ℕ) (starts : List ℕ) (b : Bool) → IsCanonicalTree n (tree_if n starts b)
canonical_if n starts false = record { sets = λ x within. absurd (omega (arith, within)); root = refl }
canonical_if n starts true = record {
  sets = λ x within. (
      let is : 0 ≡ x = omega (arith, within) in
      let P : ℕ → Type 0 = λ z. (node_at (tree_if n starts true) z).states ≡ names_where (holds (tree_if n starts true) z) n in
      subst P is (names_alike (has starts) (has (names_where (has starts) n)) n (λ s less. has_same (has starts) n s less)));
  root = refl;
}

pub first_is_canonical : FirstIsCanonical
first_is_canonical n starts = canonical_if n starts (list_any (has starts) (range_with_len 0 n))

-- Each state of each tree is reached by a path from a start.
use Rattle.std.proofs.Common.{◌≡◌, ◌∙◌, ◌++◌, ◌-◌, ◌==◌, ℕ, zero, suc, Bool, true, false, List, [], ◌∷◌, Contains, append_assoc, length, refl, sym, arith, inl, inr, subst}
use Rattle.std.proofs.lemmas.Bool.{cases_lt, eqb-true}
use Rattle.std.proofs.lemmas.List.{append-nil}
use Rattle.std.specs.List.{list_any, range_with_len}
use Rattle.aut_base.proofs.lists.Members.{any_found}
use Rattle.safra_trees.proofs.list_step.Forests.{keeps_holds}
use Rattle.safra_trees.proofs.list_step.Pruned.{goes_too, has_parts, new_holds, old_holds, pruned_length, pruned_parts}
use Rattle.safra_trees.proofs.list_step.Ranks.{rank_back}
use Rattle.safra_trees.specs.Step.{grown, pruned, survives}
use Rattle.safra_trees.specs.Trees.{Node, first_tree, holds}
use Rattle.safra_trees.specs.inner.Names.{has}
use Rattle.safra_trees.specs.declared.moves.Move.{Move}
use Rattle.safra_laws.proofs.MovePaths.{path_push}
use Rattle.safra_laws.proofs.TreesAfter.{holds_within}
use Rattle.safra_laws.proofs.backward.Steps.{enters_found}
use Rattle.safra_laws.proofs.backward.Traces.{Enters}
use Rattle.safra_laws.proofs.invariant.FirstTree.{tree_if}
use Rattle.safra_laws.specs.Rounds.{IsReachedByWord, next_tree, tree_after}

abbrev pub AllReached : List ℕ → List (List Move) → List Node → Type 0
AllReached starts w t = (x q : ℕ) → holds t x q ≡ true → IsReachedByWord starts w q

-- a name that holds a state from which a move leads to q
record Source (ms : List Move) (t : List Node) (q : ℕ) : Type 0 where
  name : ℕ
  enters : Enters ms (holds t name) q

source : (n : ℕ) (ms : List Move) (t : List Node) (x q : ℕ) → holds (next_tree n ms t) x q ≡ true → Source ms t q
source n ms t x q here =
    let f = grown n ms t in
    let within = holds_within (next_tree n ms t) x q here in
    let at = rank_back (survives f) f.size x (omega (arith, within, pruned_length f)) in
    let held = keeps_holds f at.name q (pruned_parts f at.name q at.below at.stays (subst (λ y. holds (pruned f) y q ≡ true) (sym at.is) here)).0 in
    elim (cases_lt at.name (length t)) [
      | inl old ↦ record { name = at.name; enters = enters_found ms t at.name q (sym (old_holds n ms t at.name q old) ∙ held) }
      | inr new ↦ (
          let parent = at.name - length t in
          record { name = parent; enters = enters_found ms t parent q (goes_too ms t parent q (sym (new_holds n ms t at.name q new) ∙ held)) })
    ]

reached_step : (n : ℕ) (starts : List ℕ) (w : List (List Move)) (ms : List Move) (t : List Node) → AllReached starts w t → AllReached starts (w ++ ms ∷ []) (next_tree n ms t)
reached_step n starts w ms t all x q here =
    let s = source n ms t x q here in
    let b = all s.name s.enters.move.from s.enters.from in
    let move = s.enters.move in
    record { start = b.start; path = b.path ++ move ∷ []; is_start = b.is_start; leads = path_push b.start move.from q w ms b.path move b.leads s.enters.there refl s.enters.to }

pub reached_along : (n : ℕ) (starts : List ℕ) (w v : List (List Move)) (t : List Node) → AllReached starts w t → AllReached starts (w ++ v) (tree_after n t v)
reached_along n starts w [] t all = subst (λ x. AllReached starts x t) (sym (append-nil w)) all
reached_along n starts w (ms ∷ v) t all =
    subst (λ x. AllReached starts x (tree_after n (next_tree n ms t) v)) (append_assoc w (ms ∷ []) v)
    (reached_along n starts (w ++ ms ∷ []) v (next_tree n ms t) (reached_step n starts w ms t all))

is_among : (starts : List ℕ) (q : ℕ) → has starts q ≡ true → Contains starts q
is_among starts q h = let found = any_found (λ x. x == q) starts h in subst (λ z. Contains starts z) (eqb-true found.0 q found.2) found.1

reached_if : (n : ℕ) (starts : List ℕ) (b : Bool) → AllReached starts [] (tree_if n starts b)
reached_if n starts false x q here = absurd (omega (arith, holds_within (tree_if n starts false) x q here))
reached_if n starts true zero q here = record { start = q; path = []; is_start = is_among starts q (has_parts (has starts) n q here).0; leads = refl }
reached_if n starts true (suc x) q here = absurd (omega (arith, holds_within (tree_if n starts true) (suc x) q here))

pub first_reached : (n : ℕ) (starts : List ℕ) → AllReached starts [] (first_tree n starts)
first_reached n starts = reached_if n starts (list_any (has starts) (range_with_len 0 n))

-- The tree of the starts is a tree, and its root holds each start below n.
use Rattle.std.proofs.Common.{◌≡◌, ◌∙◌, ◌==◌, ℕ, ◌<◌, Bool, true, false, cond, List, [], ◌∷◌, Contains, refl, sym, arith, subst}
use Rattle.std.proofs.lemmas.Bool.{eq-eqb}
use Rattle.std.specs.List.{list_any, range_with_len}
use Rattle.aut_base.proofs.lists.Members.{any_found, any_from, from_range, there_range_zero}
use Rattle.safra_trees.proofs.list_step.Pruned.{has_from}
use Rattle.safra_trees.specs.Step.{IsTree, Own}
use Rattle.safra_trees.specs.inner.Names.{has, names_where}
use Rattle.safra_trees.specs.Trees.{Node, first_tree, holds}
use Rattle.safra_laws.specs.Trees.{FirstIsTree}

-- the tree of the starts, where it is known whether there are any
abbrev pub tree_if : ℕ → List ℕ → Bool → List Node
tree_if n starts b = cond b (record { parent = 0; states = names_where (has starts) n } ∷ []) []

is_tree_if : (n : ℕ) (starts : List ℕ) (b : Bool) → list_any (has starts) (range_with_len 0 n) ≡ b → IsTree (tree_if n starts b)
is_tree_if n starts false e = record {
  lower = λ c more less. absurd (omega (arith, less));
  inside = λ c r more less h. absurd (omega (arith, less));
  apart = λ c d r more less within same h k. absurd (omega (arith, within));
  own = λ x less. absurd (omega (arith, less));
}
is_tree_if n starts true e = record {
  lower = λ c more less. absurd (omega (arith, more, less));
  inside = λ c r more less h. absurd (omega (arith, more, less));
  apart = λ c d r more less within same h k. absurd (omega (arith, more, less, within));
  own = λ x less. (
      let first : 0 ≡ x = omega (arith, less) in
      let found = any_found (has starts) (range_with_len 0 n) e in
      let small : found.0 < n = omega (arith, (from_range 0 n found.0 found.1).1) in
      subst (Own (tree_if n starts true)) first
      (record { state = found.0; here = has_from (has starts) n found.0 found.2 small; nowhere = λ c more within parent. absurd (omega (arith, more, within)) }));
}

pub first_is_tree : FirstIsTree
first_is_tree n starts = is_tree_if n starts (list_any (has starts) (range_with_len 0 n)) refl

rooted_if : (n : ℕ) (starts : List ℕ) (b : Bool) (s : ℕ) → list_any (has starts) (range_with_len 0 n) ≡ b
    → has starts s ≡ true → s < n → holds (tree_if n starts b) 0 s ≡ true
rooted_if n starts false s e h less = sym e ∙ any_from (has starts) (range_with_len 0 n) s (there_range_zero n s less) h
rooted_if n starts true s e h less = has_from (has starts) n s h less

pub first_rooted : (n : ℕ) (starts : List ℕ) (s : ℕ) → Contains starts s → s < n → holds (first_tree n starts) 0 s ≡ true
first_rooted n starts s there less = rooted_if n starts (list_any (has starts) (range_with_len 0 n)) s refl (any_from (λ x. x == s) starts s there (eq-eqb s s refl)) less

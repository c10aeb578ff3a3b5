-- The least of some numbers, and the letter whose step has a priority.
use Rattle.std.proofs.Common.{◌≡◌, ◌+◌, ◌∙◌, ◌⊎◌, ◌≤◌, ℕ, List, [], ◌∷◌, ◌++◌, Contains, ap, arith, inl, inr, length, map, refl, subst, sym}
use Rattle.std.proofs.lemmas.Bool.{cases_lt}
use Rattle.aut_base.proofs.lists.Members.{first_there, later_there, none_there, there_cases}
use Rattle.safra_trees.specs.Step.{greens, grown, reds}
use Rattle.safra_trees.specs.Trees.{Node}
use Rattle.safra_trees.specs.declared.moves.Move.{Move}
use Rattle.safra_laws.specs.Priorities.{PrioritiesAreBelow, lowest, priorities, priority}
use Rattle.safra_laws.specs.Rounds.{next_tree, tree_after}

pub lowest_low : (d : ℕ) (xs : List ℕ) (x : ℕ) → Contains xs x → lowest d xs ≤ x
lowest_low d [] x there = absurd (none_there x there)
lowest_low d (y ∷ ys) x there = elim (there_cases y ys x there) [
  | inl same ↦ omega (arith, same)
  | inr later ↦ omega (arith, lowest_low d ys x later)
]

pub lowest_is : (d : ℕ) (xs : List ℕ) → (lowest d xs ≡ d) ⊎ Contains xs (lowest d xs)
lowest_is d [] = inl refl
lowest_is d (y ∷ ys) = elim (cases_lt (lowest d ys) y) [
  | inl low ↦ (
      let is : lowest d (y ∷ ys) ≡ lowest d ys = omega (arith, low) in
      elim (lowest_is d ys) [
        | inl last ↦ inl (is ∙ last)
        | inr later ↦ inr (subst (Contains (y ∷ ys)) (sym is) (later_there y ys (lowest d ys) later))
      ])
  | inr high ↦ (
      let is : lowest d (y ∷ ys) ≡ y = omega (arith, high) in
      inr (subst (Contains (y ∷ ys)) (sym is) (first_there y ys)))
]

-- a letter of the round whose step has the priority
pub record Place (n most : ℕ) (t : List Node) (round : List (List Move)) (k : ℕ) : Type 0 where
  pub before : List (List Move)
  pub letter : List Move
  pub behind : List (List Move)
  pub parts : round ≡ before ++ letter ∷ behind
  pub is : priority n most letter (tree_after n t before) ≡ k

pub place : (n most k : ℕ) (t : List Node) (round : List (List Move)) → Contains (priorities n most t round) k → Place n most t round k
place n most k t [] there = absurd (none_there k there)
place n most k t (ms ∷ w) there = elim (there_cases (priority n most ms t) (priorities n most (next_tree n ms t) w) k there) [
  | inl now ↦ record { before = []; letter = ms; behind = w; parts = refl; is = now }
  | inr later ↦ (let rest = place n most k (next_tree n ms t) w later in
      record { before = ms ∷ rest.before; letter = rest.letter; behind = rest.behind; parts = ap (λ (x : List (List Move)). ms ∷ x) rest.parts; is = rest.is })
]

-- and the priority of each letter's step is among them
pub there_place : (n most : ℕ) (t : List Node) (u : List (List Move)) (ms : List Move) (v : List (List Move)) → Contains (priorities n most t (u ++ ms ∷ v)) (priority n most ms (tree_after n t u))
there_place n most t [] ms v = first_there (priority n most ms t) (priorities n most (next_tree n ms t) v)
there_place n most t (ns ∷ u) ms v =
    let next = next_tree n ns t in
    later_there (priority n most ns t) (priorities n most next (u ++ ms ∷ v)) (priority n most ms (tree_after n next u)) (there_place n most next u ms v)

pub lowest_most : (d : ℕ) (xs : List ℕ) → lowest d xs ≤ d
lowest_most d [] = omega arith
lowest_most d (x ∷ xs) = omega (arith, lowest_most d xs)

pub priorities_are_below : PrioritiesAreBelow
priorities_are_below n most ms t =
    omega (arith, lowest_most (most + most) (map (λ f. f + f) (reds (grown n ms t) (length t)) ++ map (λ g. g + g + 1) (greens (grown n ms t))))

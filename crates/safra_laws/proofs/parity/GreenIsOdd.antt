-- Where a name is green and neither it nor a lower one is red, the least priority of the round is odd.
use Rattle.std.proofs.Common.{◌≡◌, ◌∙◌, ◌⊎◌, ◌+◌, ◌<◌, ◌≤◌, ℕ, List, [], ◌∷◌, ◌++◌, Contains, arith, inl, inr, length, map, subst, sym}
use Rattle.std.proofs.lemmas.List.Elements.{Contains-append_cases, Contains-append_right}
use Rattle.aut_base.proofs.lists.Members.{from_map, there_map}
use Rattle.safra_trees.specs.Step.{greens, grown, reds}
use Rattle.safra_trees.specs.Trees.{Node}
use Rattle.safra_trees.specs.declared.moves.Move.{Move}
use Rattle.safra_laws.proofs.TreesAfter.{after_is_tree}
use Rattle.safra_laws.proofs.backward.Steps.{green_facts, never_red_second}
use Rattle.safra_laws.proofs.parity.Least.{lowest_is, lowest_low, place, there_place}
use Rattle.safra_laws.specs.Language.{GreenIsOdd}
use Rattle.safra_laws.specs.Priorities.{IsOdd, lowest, priorities, priority}
use Rattle.safra_laws.specs.Rounds.{NamesAtMost, NeverRed, next_tree, tree_after}

-- a red name whose priority is x
record RedAt (n : ℕ) (ms : List Move) (t : List Node) (x : ℕ) : Type 0 where
  name : ℕ
  red : Contains (reds (grown n ms t) (length t)) name
  is : name + name ≡ x

-- a priority is the greatest, that of a red name, or odd
priority_cases : (n most : ℕ) (ms : List Move) (t : List Node) (x : ℕ) → priority n most ms t ≡ x → (x ≡ most + most) ⊎ (RedAt n ms t x ⊎ IsOdd x)
priority_cases n most ms t x is =
    let evens = map (λ (f : ℕ). f + f) (reds (grown n ms t) (length t)) in
    let odds = map (λ (g : ℕ). g + g + 1) (greens (grown n ms t)) in
    elim (lowest_is (most + most) (evens ++ odds)) [
      | inl last ↦ inl (sym is ∙ last)
      | inr there ↦ (elim (Contains-append_cases evens odds (priority n most ms t) there) [
        | inl red ↦ (let found = from_map (λ (f : ℕ). f + f) (reds (grown n ms t) (length t)) (priority n most ms t) red in
            inr (inl (record { name = found.0; red = found.1; is = found.2 ∙ is })))
        | inr green ↦ (let found = from_map (λ (g : ℕ). g + g + 1) (greens (grown n ms t)) (priority n most ms t) green in
            inr (inr (record { half = found.0; is = sym is ∙ sym found.2 })))
      ])
    ]

-- no priority is above that of a green name
green_high : (n most g : ℕ) (ms : List Move) (t : List Node) → Contains (greens (grown n ms t)) g → priority n most ms t ≤ g + g + 1
green_high n most g ms t green =
    let evens = map (λ (f : ℕ). f + f) (reds (grown n ms t) (length t)) in
    let odds = map (λ (h : ℕ). h + h + 1) (greens (grown n ms t)) in
    lowest_low (most + most) (evens ++ odds) (g + g + 1) (Contains-append_right evens odds (g + g + 1) (there_map (λ (h : ℕ). h + h + 1) (greens (grown n ms t)) g green))

-- the tree before a letter has at most `most` names
names_at : (n most : ℕ) (t : List Node) (u : List (List Move)) (ms : List Move) (v : List (List Move)) → NamesAtMost n most t (u ++ ms ∷ v) → length (tree_after n t u) ≤ most
names_at n most t [] ms v few = few.0
names_at n most t (ns ∷ u) ms v few = names_at n most (next_tree n ns t) u ms v few.1

pub green_is_odd : GreenIsOdd
green_is_odd n most t round tree few green =
    let g = green.name in
    let all = priorities n most t round in
    let least = lowest (most + most) all in
    let at = tree_after n t green.before in
    let facts = green_facts n green.letter at g (after_is_tree n t green.before tree) green.green in
    let room = names_at n most t green.before green.letter green.behind (subst (NamesAtMost n most t) green.parts few) in
    let below : g < most = omega (arith, facts.below, room) in
    let there = subst (λ w. Contains (priorities n most t w) (priority n most green.letter at)) (sym green.parts) (there_place n most t green.before green.letter green.behind) in
    let low : least ≤ g + g + 1 = omega (arith, green_high n most g green.letter at green.green, lowest_low (most + most) all (priority n most green.letter at) there) in
    elim (lowest_is (most + most) all) [
      | inl last ↦ absurd (omega (arith, last, low, below))
      | inr inside ↦ (
          let p = place n most least t round inside in
          let none_red = never_red_second n g t p.before (p.letter ∷ p.behind) (subst (NeverRed n g t) p.parts green.never_red) in
          elim (priority_cases n most p.letter (tree_after n t p.before) least p.is) [
            | inl last ↦ absurd (omega (arith, last, low, below))
            | inr other ↦ (elim other [
              | inl red ↦ absurd (none_red.0 red.name (omega (arith, red.is, low)) red.red)
              | inr odd ↦ odd
            ])
          ])
    ]

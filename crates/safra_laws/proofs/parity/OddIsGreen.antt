-- Where the least priority of a round is odd, it is that of a green name, and neither that name nor a lower one is red.
use Rattle.std.proofs.Common.{◌≡◌, ◌∙◌, ◌+◌, ◌≤◌, ℕ, List, [], ◌∷◌, ◌++◌, Contains, arith, inl, inr, length, map, subst}
use Rattle.std.proofs.lemmas.List.Elements.{Contains-append_cases, Contains-append_left}
use Rattle.aut_base.proofs.lists.Members.{first_there, from_map, later_there, there_map}
use Rattle.safra_trees.specs.Step.{greens, grown, reds}
use Rattle.safra_trees.specs.Trees.{Node}
use Rattle.safra_trees.specs.declared.moves.Move.{Move}
use Rattle.safra_laws.proofs.parity.Least.{lowest_is, lowest_low, place}
use Rattle.safra_laws.specs.Language.{OddIsGreen}
use Rattle.safra_laws.specs.Priorities.{lowest, priorities, priority}
use Rattle.safra_laws.specs.Rounds.{NeverRed, next_tree, tree_after}

-- an odd priority is that of a green name
green_of : (n most g : ℕ) (ms : List Move) (t : List Node) → priority n most ms t ≡ g + g + 1 → Contains (greens (grown n ms t)) g
green_of n most g ms t is =
    let evens = map (λ (f : ℕ). f + f) (reds (grown n ms t) (length t)) in
    let odds = map (λ (h : ℕ). h + h + 1) (greens (grown n ms t)) in
    elim (lowest_is (most + most) (evens ++ odds)) [
      | inl last ↦ absurd (omega (arith, last, is))
      | inr there ↦ (elim (Contains-append_cases evens odds (priority n most ms t) there) [
        | inl red ↦ absurd (let e = (from_map (λ (f : ℕ). f + f) (reds (grown n ms t) (length t)) (priority n most ms t) red).2 in omega (arith, e, is))
        | inr green ↦ (let found = from_map (λ (h : ℕ). h + h + 1) (greens (grown n ms t)) (priority n most ms t) green in
            let same : found.0 ≡ g = omega (arith, found.2, is) in
            subst (λ z. Contains (greens (grown n ms t)) z) same found.1)
      ])
    ]

-- no priority is above that of a red name
red_high : (n most f : ℕ) (ms : List Move) (t : List Node) → Contains (reds (grown n ms t) (length t)) f → priority n most ms t ≤ f + f
red_high n most f ms t red =
    let evens = map (λ (x : ℕ). x + x) (reds (grown n ms t) (length t)) in
    let odds = map (λ (h : ℕ). h + h + 1) (greens (grown n ms t)) in
    lowest_low (most + most) (evens ++ odds) (f + f) (Contains-append_left evens odds (f + f) (there_map (λ (x : ℕ). x + x) (reds (grown n ms t) (length t)) f red))

never_red : (n most g : ℕ) (t : List Node) (round : List (List Move)) → ((k : ℕ) → Contains (priorities n most t round) k → g + g + 1 ≤ k) → NeverRed n g t round
never_red n most g t [] least = tt
never_red n most g t (ms ∷ w) least =
    let here = priority n most ms t in
    let rest = priorities n most (next_tree n ms t) w in (
      (λ f upto red. (let low = least here (first_there here rest) in omega (arith, low, red_high n most f ms t red, upto))),
      never_red n most g (next_tree n ms t) w (λ k there. least k (later_there here rest k there)),
    )

pub odd_is_green : OddIsGreen
odd_is_green n most t round odd =
    let all = priorities n most t round in
    elim (lowest_is (most + most) all) [
      | inl last ↦ absurd (let e = odd.is in omega (arith, last, e))
      | inr there ↦ (
          let g = odd.half in
          let p = place n most (lowest (most + most) all) t round there in
          record {
            name = g;
            before = p.before;
            letter = p.letter;
            behind = p.behind;
            parts = p.parts;
            green = green_of n most g p.letter (tree_after n t p.before) (p.is ∙ odd.is);
            never_red = never_red n most g t round (λ k inside. omega (arith, lowest_low (most + most) all k inside, odd.is));
          })
    ]

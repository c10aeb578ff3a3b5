-- A name that is green once in a round, while neither it nor a lower name is red there, holds a state with an accepting
-- cycle: after the letter at which it is green, each of its states is reached from one of them, a round earlier, by a path
-- with an accepting move.
use Rattle.std.proofs.Common.{◌≡◌, ◌∙◌, ◌++◌, ℕ, ◌<◌, Bool, true, List, [], ◌∷◌, Contains, append_assoc, length, sym, ap, subst}
use Rattle.safra_trees.specs.Step.{IsTree, greens, grown}
use Rattle.safra_trees.specs.Trees.{Node, holds}
use Rattle.safra_trees.specs.declared.moves.Move.{Move}
use Rattle.safra_laws.proofs.TreesAfter.{after_is_tree, after_join, held_below, steps_keep_trees}
use Rattle.safra_laws.proofs.backward.Steps.{green_facts, never_red_below, never_red_first, never_red_keeps, never_red_second, not_red_stays, stays_below, step_turns_green}
use Rattle.safra_laws.proofs.backward.Traces.{AcceptingPathFrom, Traced, find_cycle, traced_along, traced_green, traced_leaf}
use Rattle.safra_laws.specs.Language.{GreenHasCycle, HasCycle}
use Rattle.safra_laws.specs.Rounds.{NeverRed, next_tree, tree_after}

cycle_behind : (n : ℕ) (t : List Node) (u : List (List Move)) (ms : List Move) (v : List (List Move)) (g : ℕ) → IsTree t → tree_after n t (u ++ ms ∷ v) ≡ t
    → Contains (greens (grown n ms (tree_after n t u))) g → NeverRed n g t (u ++ ms ∷ v) → HasCycle g (tree_after n t (u ++ ms ∷ [])) (v ++ (u ++ ms ∷ []))
cycle_behind n t u ms v g tree returns green never_red =
    let d = tree_after n t u in
    let last = next_tree n ms d in
    let e : tree_after n t (u ++ ms ∷ []) ≡ last = after_join n t u (ms ∷ []) in
    let tree_d = after_is_tree n t u tree in
    let facts = green_facts n ms d g tree_d green in
    let never_red_u = never_red_first n g t u (ms ∷ v) never_red in
    let never_red_d = never_red_second n g t u (ms ∷ v) never_red in
    let on = not_red_stays n ms d g facts.below never_red_d.0 in
    let turned = step_turns_green n ms d g tree_d facts.below on facts.bare in
    let tree_last = steps_keep_trees n ms d tree_d in
    let below_last = stays_below n ms d g facts.below on in
    let home : tree_after n last v ≡ t = sym (after_join n t u (ms ∷ v)) ∙ returns in
    let below_t = subst (λ (x : List Node). g < length x) home (never_red_below n g last v below_last never_red_d.1) in
    let set : ℕ → Bool = holds last g in
    let kept = never_red_keeps n g last v tree_last below_last never_red_d.1 in
    let first : Traced set v (tree_after n last v) g = traced_along set n g [] v last (traced_leaf last g turned.leaf) kept in
    let at_home = subst (λ (x : List Node). Traced set v x g) home first in
    let second : Traced set (v ++ u) d g = traced_along set n g v u t at_home (never_red_keeps n g t u tree below_t never_red_u) in
    let own = tree_last.own g below_last in
    let round : (v ++ u) ++ ms ∷ [] ≡ v ++ (u ++ ms ∷ []) = append_assoc v u (ms ∷ []) in
    let back : (q : ℕ) → set q ≡ true → AcceptingPathFrom set (v ++ (u ++ ms ∷ [])) q = λ q here.
    subst (λ w. AcceptingPathFrom set w q) round (traced_green set (v ++ u) ms d g q second (turned.covered q here)) in
    let same = ap (λ (x : List Node). holds x g) (sym e) in
    find_cycle set (v ++ (u ++ ms ∷ [])) back g (tree_after n t (u ++ ms ∷ [])) n same (λ q here. held_below n ms d g q below_last here) (record { state = own.state; here = own.here })

pub green_has_cycle : GreenHasCycle
green_has_cycle n t round tree returns green =
    let parts = green.parts in
    let home = ap (tree_after n t) (sym parts) ∙ returns in
    cycle_behind n t green.before green.letter green.behind green.name tree home green.green (subst (λ w. NeverRed n green.name t w) parts green.never_red)

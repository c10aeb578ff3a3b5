-- The lists of a stored tree can be read off its nodes.
use Rattle.std.proofs.Common.{◌≡◌, ◌∙◌, ◌+◌, ◌<◌, ◌==◌, ℕ, true, List, [], ◌∷◌, AllPairs, ap, arith, length, map, refl, subst, sym}
use Rattle.std.proofs.Props.{props}
use Rattle.std.proofs.lemmas.Bool.{eq-eqb, or_left, or_right}
use Rattle.std.specs.List.{range_with_len}
use Rattle.aut_base.proofs.order.AllPairsOf.{pairs_rest}
use Rattle.safra_trees.proofs.flat_step.Placed.{stored_found, stored_root, stored_there}
use Rattle.safra_trees.proofs.flat_step.Survey.{listed_by}
use Rattle.safra_trees.proofs.laws.StoredTrees.{head_place, tail_place}
use Rattle.safra_trees.proofs.list_step.Over.{over_low, over_self}
use Rattle.safra_trees.specs.Flat.{IsStored, at, node_of, nodes_of}
use Rattle.safra_trees.specs.Trees.{Node, holds, root_states}
use Rattle.safra_trees.specs.inner.Names.{has}
use Rattle.safra_trees.specs.View.{tree_of}
use Rattle.safra_trees.specs.declared.tree.SafraTree.{SafraTree}
use Rattle.safra_trees.specs.inner.Claims.{owner_in}

mapped : (f : Node → ℕ) (g : ℕ → Node) (xs : List ℕ) → map f (map g xs) ≡ map (λ x. f (g x)) xs
mapped f g [] = refl
mapped f g (x ∷ xs) = ap (λ ys. f (g x) ∷ ys) (mapped f g xs)

pub parents_read : (parents states places : List ℕ) → map (λ (d : Node). d.parent) (nodes_of parents states places) ≡ parents
parents_read parents states places =
    mapped (λ (d : Node). d.parent) (node_of parents states places) (range_with_len 0 (length parents))
    ∙ sym (listed_by parents (at parents) 0 (λ i less. (let e : i ≡ 0 + i = omega arith in ap (at parents) e)))

-- a state has the same place in two stored trees with the same nodes
place_low : (parents states places others : List ℕ) → IsStored parents states places → IsStored parents states others → nodes_of parents states places ≡ nodes_of parents states others
    → (p : ℕ) → has states p ≡ true → owner_in (length parents) states places p ≡ owner_in (length parents) states others p
place_low parents states places others is also same p there =
    let m = length parents in
    let x = owner_in m states places p in
    let y = owner_in m states others p in
    let root : has (root_states (nodes_of parents states places)) p ≡ true = ap (λ xs. has xs p) (stored_root parents states places is) ∙ there in
    let root_too : has (root_states (nodes_of parents states others)) p ≡ true = ap (λ xs. has xs p) (stored_root parents states others also) ∙ there in
    let x_in = (stored_found parents states places is 0 p root).below in
    let y_in = (stored_found parents states others also 0 p root_too).below in
    let x_held : holds (nodes_of parents states others) x p ≡ true =
    subst (λ t. holds t x p ≡ true) same (stored_there parents states places is x p x_in (record { below = x_in; passes = over_self (at parents) x })) in
    let y_held : holds (nodes_of parents states places) y p ≡ true =
    subst (λ t. holds t y p ≡ true) (sym same) (stored_there parents states others also y p y_in (record { below = y_in; passes = over_self (at parents) y })) in
    let one = stored_found parents states others also x p x_held in
    let other = stored_found parents states places is y p y_held in
    omega (arith, over_low (at parents) m is.lower x y y_in one.passes, over_low (at parents) m is.lower y x x_in other.passes)

pub places_same : (none : ℕ) (states places others : List ℕ) → AllPairs (λ a b. a < b) states → length places ≡ length states → length others ≡ length states
    → ((p : ℕ) → has states p ≡ true → owner_in none states places p ≡ owner_in none states others p) → places ≡ others
places_same none [] [] [] rising each too same = refl
places_same none [] [] (y ∷ others) rising each too same = absurd (omega (arith, too))
places_same none [] (x ∷ places) others rising each too same = absurd (omega (arith, each))
places_same none (s ∷ states) [] others rising each too same = absurd (omega (arith, each))
places_same none (s ∷ states) (x ∷ places) [] rising each too same = absurd (omega (arith, too))
places_same none (s ∷ states) (x ∷ places) (y ∷ others) rising each too same =
    let here : x ≡ y = sym (head_place none s x states places rising) ∙ (same s (or_left (s == s) (has states s) (eq-eqb s s refl)) ∙ head_place none s y states others rising) in
    ap (λ v. v ∷ places) here
    ∙ ap (λ vs. y ∷ vs) (places_same none states places others (pairs_rest (λ a b. a < b) s states rising) (omega (arith, each)) (omega (arith, too))
    (λ p there. sym (tail_place none s x p states places rising there) ∙ (same p (or_right (s == p) (has states p) there) ∙ tail_place none s y p states others rising there)))

-- The lists of two trees with the same nodes are the same.
pub record AreSame (p s o q t u : List ℕ) : Type 0 where
  pub parents : p ≡ q
  pub states : s ≡ t
  pub places : o ≡ u

pub same_lists : (p s o q t u : List ℕ) → IsStored p s o → IsStored q t u → nodes_of p s o ≡ nodes_of q t u → AreSame p s o q t u
same_lists p s o q t u is also same =
    let parents : p ≡ q = sym (parents_read p s o) ∙ (ap (map (λ (d : Node). d.parent)) same ∙ parents_read q t u) in
    let states : s ≡ t = sym (stored_root p s o is) ∙ (ap root_states same ∙ stored_root q t u also) in
    let moved : IsStored p s u = subst (λ xs. IsStored xs s u) (sym parents) (subst (λ xs. IsStored q xs u) (sym states) also) in
    let nodes : nodes_of p s o ≡ nodes_of p s u = same ∙ (ap (λ xs. nodes_of xs t u) (sym parents) ∙ ap (λ xs. nodes_of p xs u) (sym states)) in
    record { parents = parents; states = states; places = places_same (length p) s o u is.rising is.each moved.each (place_low p s o u is moved nodes) }

abbrev made : (parents states places : List ℕ) → IsStored parents states places → SafraTree
made parents states places stored = record { parents = parents; states = states; places = places; stored = stored }

one_proof : (parents states places : List ℕ) (one other : IsStored parents states places) → one ≡ other
one_proof parents states places = let prop : IsProp (IsStored parents states places) = hlevel props in prop

same_made : (p s o q t u : List ℕ) (one : IsStored p s o) → p ≡ q → s ≡ t → o ≡ u → (other : IsStored q t u) → made p s o one ≡ made q t u other
same_made p s o q t u one first second third =
    let begin : (other : IsStored p s o) → made p s o one ≡ made p s o other = λ other. ap (made p s o) (one_proof p s o one other) in
    let by_places : (other : IsStored p s u) → made p s o one ≡ made p s u other = subst (λ xs. (other : IsStored p s xs) → made p s o one ≡ made p s xs other) third begin in
    let by_states : (other : IsStored p t u) → made p s o one ≡ made p t u other = subst (λ xs. (other : IsStored p xs u) → made p s o one ≡ made p xs u other) second by_places in
    subst (λ xs. (other : IsStored xs t u) → made p s o one ≡ made xs t u other) first by_states

pub same_tree : (one other : SafraTree) → tree_of one ≡ tree_of other → one ≡ other
same_tree one other same =
    let are = same_lists one.parents one.states one.places other.parents other.states other.places one.stored other.stored same in
    same_made one.parents one.states one.places other.parents other.states other.places one.stored are.parents are.states are.places other.stored

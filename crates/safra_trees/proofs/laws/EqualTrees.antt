-- What is compared and hashed of a stored tree is determined by its list of nodes.
use Rattle.std.proofs.Common.{◌≡◌, ◌∙◌, ◌<◌, ◌≤◌, ◌==◌, ◌&&◌, ◌++◌, ℕ, zero, suc, Bool, true, false, List, [], ◌∷◌, AllPairs, ap, arith, inl, inr, length, map, nat_eq, refl, subst, sym}
use Rattle.std.proofs.lemmas.Bool.{and_from, and_parts, both_ways, cases_Bool, cases_lt, cond-false, cond-true, eqb-true, or_cases, true≢false}
use Rattle.std.proofs.lemmas.List.{length-map}
use Rattle.std.proofs.lemmas.List.Sums.{fold-append}
use Rattle.std.specs.Cmp.Lexicographic.{pointwise}
use Rattle.std.specs.Hash as fed
use Rattle.std.specs.List.{fold}
use Rattle.aut_base.proofs.order.AllPairsOf.{pairs_rest}
use Rattle.aut_base.proofs.words.Texts.{other_text, same_text}
use Rattle.safra_trees.proofs.flat_step.Placed.{nodes_length, stored_found, stored_root, stored_there}
use Rattle.safra_trees.proofs.laws.SameTrees.{parents_read, places_same, same_tree}
use Rattle.safra_trees.proofs.laws.StoredTrees.{head_place, tail_place}
use Rattle.safra_trees.proofs.list_step.Over.{over_low, over_self}
use Rattle.safra_trees.specs.Flat.{IsStored, at, nodes_of}
use Rattle.safra_trees.specs.Same.{deepest, hashed, last_of, same_nodes, same_tells}
use Rattle.safra_trees.specs.Trees.{holds, root_states}
use Rattle.safra_trees.specs.inner.Names.{has}
use Rattle.safra_trees.specs.View.{tree_of}
use Rattle.safra_trees.specs.declared.tree.SafraTree.{SafraTree}
use Rattle.safra_trees.specs.inner.Claims.{owner_in}

-- ---- what is compared

pub same_bools : (a b : Bool) → (a ≡ true → b ≡ true) → (b ≡ true → a ≡ true) → a ≡ b
same_bools true b there back = sym (there refl)
same_bools false true there back = back refl
same_bools false false there back = refl

pub list_text : (xs ys : List ℕ) → xs ≡ ys → pointwise nat_eq xs ys ≡ true
list_text xs ys same = elim (cases_Bool (pointwise nat_eq xs ys)) [ inl is ↦ is | inr isnt ↦ absurd (other_text xs ys isnt same) ]

-- the lists of two trees are the same
abbrev pub fields_same : SafraTree → SafraTree → Bool
fields_same one other = pointwise nat_eq one.parents other.parents && (pointwise nat_eq one.states other.states && pointwise nat_eq one.places other.places)

fields_told : (one other : SafraTree) → fields_same one other ≡ true → tree_of one ≡ tree_of other
fields_told one other is =
    let first = and_parts (pointwise nat_eq one.parents other.parents) (pointwise nat_eq one.states other.states && pointwise nat_eq one.places other.places) is in
    let second = and_parts (pointwise nat_eq one.states other.states) (pointwise nat_eq one.places other.places) first.1 in
    ap (λ xs. nodes_of xs one.states one.places) (same_text one.parents other.parents first.0)
    ∙ (ap (λ xs. nodes_of other.parents xs one.places) (same_text one.states other.states second.0) ∙ ap (nodes_of other.parents other.states) (same_text one.places other.places second.1))

fields_tell : (one other : SafraTree) → tree_of one ≡ tree_of other → fields_same one other ≡ true
fields_tell one other same =
    let e : one ≡ other = same_tree one other same in
    let lists : (f : SafraTree → List ℕ) → pointwise nat_eq (f one) (f other) ≡ true = λ f. list_text (f one) (f other) (ap f e) in
    and_from (pointwise nat_eq one.parents other.parents) (pointwise nat_eq one.states other.states && pointwise nat_eq one.places other.places) (lists (λ (t : SafraTree). t.parents))
    (and_from (pointwise nat_eq one.states other.states) (pointwise nat_eq one.places other.places) (lists (λ (t : SafraTree). t.states)) (lists (λ (t : SafraTree). t.places)))

-- the lists are the same where the nodes are
pub fields_say : (one other : SafraTree) → fields_same one other ≡ same_nodes (tree_of one) (tree_of other)
fields_say one other =
    let tells = same_tells (tree_of one) (tree_of other) in
    same_bools (fields_same one other) (same_nodes (tree_of one) (tree_of other)) (λ is. tells.1 (fields_told one other is)) (λ is. fields_tell one other (tells.0 is))

-- ---- what is hashed

last_is : (p : ℕ → Bool) (y n : ℕ) → y < n → p y ≡ true → ((x : ℕ) → x < n → p x ≡ true → x ≤ y) → last_of p n ≡ y
last_is p y zero less here above = absurd (omega (arith, less))
last_is p y (suc n) less here above = elim (cases_Bool (p n)) [
  | inl is ↦ (let low = above n (omega arith) is in cond-true (p n) n (last_of p n) is ∙ omega (arith, low, less))
  | inr isnt ↦ elim (cases_lt y n) [
    | inl before ↦ cond-false (p n) n (last_of p n) isnt ∙ last_is p y n before here (λ x small. above x (omega (arith, small)))
    | inr past ↦ (let e : y ≡ n = omega (arith, past, less) in absurd (both_ways (p n) isnt (ap p (sym e) ∙ here)))
  ]
]

mapped_place : (none : ℕ) (f : ℕ → ℕ) (states : List ℕ) (p : ℕ) → AllPairs (λ a b. a < b) states → has states p ≡ true → owner_in none states (map f states) p ≡ f p
mapped_place none f [] p rising there = absurd (true≢false (sym there))
mapped_place none f (s ∷ states) p rising there = elim (or_cases (s == p) (has states p) there) [
  | inl here ↦ subst (λ q. owner_in none (s ∷ states) (f s ∷ map f states) q ≡ f q) (eqb-true s p here) (head_place none s (f s) states (map f states) rising)
  | inr later ↦ tail_place none s (f s) p states (map f states) rising later ∙ mapped_place none f states p (pairs_rest (λ a b. a < b) s states rising) later
]

-- the place of a state is the last node that holds it
last_place : (parents states places : List ℕ) → IsStored parents states places → (p : ℕ) → has states p ≡ true
    → last_of (λ x. holds (nodes_of parents states places) x p) (length (nodes_of parents states places)) ≡ owner_in (length parents) states places p
last_place parents states places is p there =
    let t = nodes_of parents states places in
    let m = length parents in
    let many : length t ≡ m = nodes_length parents states places in
    let y = owner_in m states places p in
    let root : has (root_states t) p ≡ true = ap (λ xs. has xs p) (stored_root parents states places is) ∙ there in
    let y_in : y < m = (stored_found parents states places is 0 p root).below in
    last_is (λ x. holds t x p) y (length t) (omega (arith, y_in, many)) (stored_there parents states places is y p y_in (record { below = y_in; passes = over_self (at parents) y }))
    (λ x less held. over_low (at parents) m is.lower x y y_in (stored_found parents states places is x p held).passes)

pub places_read : (parents states places : List ℕ) → IsStored parents states places → deepest (nodes_of parents states places) ≡ places
places_read parents states places is =
    let t = nodes_of parents states places in
    let f : ℕ → ℕ = λ s. last_of (λ x. holds t x s) (length t) in
    ap (map f) (stored_root parents states places is)
    ∙ places_same (length parents) states (map f states) places is.rising (length-map states f) is.each
    (λ p there. mapped_place (length parents) f states p is.rising there ∙ last_place parents states places is p there)

fields_hashed : (tree : SafraTree) → hashed (tree_of tree) ≡ fed.slice fed.u8 tree.parents ++ (fed.slice fed.u32 tree.states ++ fed.slice fed.u8 tree.places)
fields_hashed tree = λ i. fed.slice fed.u8 (parents_read tree.parents tree.states tree.places i)
    ++ (fed.slice fed.u32 (stored_root tree.parents tree.states tree.places tree.stored i) ++ fed.slice fed.u8 (places_read tree.parents tree.states tree.places tree.stored i))

-- three lists are hashed one after the other
pub hashed_in_turn : {S : Type 0} (write : S → List ℕ → S) (tree : SafraTree) (s t u v : S) → t ≡ fold write s (fed.slice fed.u8 tree.parents)
    → u ≡ fold write t (fed.slice fed.u32 tree.states) → v ≡ fold write u (fed.slice fed.u8 tree.places) → v ≡ fold write s (hashed (tree_of tree))
hashed_in_turn write tree s t u v first second third =
    let p = fed.slice fed.u8 tree.parents in
    let q = fed.slice fed.u32 tree.states in
    let r = fed.slice fed.u8 tree.places in
    third ∙ (ap (λ x. fold write x r) (second ∙ ap (λ x. fold write x q) first)
    ∙ (sym (fold-append write (fold write s p) q r) ∙ (sym (fold-append write s p (q ++ r)) ∙ ap (fold write s) (sym (fields_hashed tree)))))

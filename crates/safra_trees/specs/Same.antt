-- Equality of trees as lists of nodes, and what is hashed of a tree.
use Rattle.std.proofs.Common.{◌≡◌, ◌↔◌, ◌∙◌, ◌==◌, ◌&&◌, ◌++◌, ◌^◌, ℕ, zero, suc, Bool, IsTrue, true, List, [], ◌∷◌, ap, cond, filter, inl, inr, length, map, nat_eq, refl, sym}
use Rattle.std.proofs.lemmas.Bool.{and_from, and_parts, cases_Bool, eq-eqb, eqb-true, true≢false}
use Rattle.std.proofs.lemmas.Cmp.{and_equiv, lists_equiv, nat_eq_equiv, nat_list_eq_equiv, on_equiv}
use Rattle.std.specs.Cmp.{IsEquivalence}
use Rattle.std.specs.Cmp.Lexicographic.{pointwise}
use Rattle.std.specs.Hash as fed
use Rattle.aut_base.proofs.words.Texts.{other_text, same_text}
use Rattle.safra_trees.specs.Flat.{is_high, is_low}
use Rattle.safra_trees.specs.Trees.{Node, holds, root_states}

-- the trees have the same nodes, in the same order
abbrev pub same_nodes : List Node → List Node → Bool
same_nodes = pointwise (λ m n. (m.parent == n.parent) && pointwise nat_eq m.states n.states)

abbrev same_node : Node → Node → Bool
same_node m n = (m.parent == n.parent) && pointwise nat_eq m.states n.states

numbers_same : (xs : List ℕ) → pointwise nat_eq xs xs ≡ true
numbers_same xs = elim (cases_Bool (pointwise nat_eq xs xs)) [ inl is ↦ is | inr isnt ↦ absurd (other_text xs xs isnt refl) ]

node_told : (m n : Node) → same_node m n ≡ true → m ≡ n
node_told m n is =
    let parts = and_parts (m.parent == n.parent) (pointwise nat_eq m.states n.states) is in
    let parent = eqb-true m.parent n.parent parts.0 in
    let states = same_text m.states n.states parts.1 in
    λ i. record { parent = parent i; states = states i }

node_itself : (m : Node) → same_node m m ≡ true
node_itself m = and_from (m.parent == m.parent) (pointwise nat_eq m.states m.states) (eq-eqb m.parent m.parent refl) (numbers_same m.states)

told : (x y : List Node) → same_nodes x y ≡ true → x ≡ y
told [] [] is = refl
told [] (n ∷ y) is = absurd (true≢false (sym is))
told (m ∷ x) [] is = absurd (true≢false (sym is))
told (m ∷ x) (n ∷ y) is =
    let parts = and_parts (same_node m n) (same_nodes x y) is in
    let first = node_told m n parts.0 in
    let rest = told x y parts.1 in
    λ i. first i ∷ rest i

itself : (x : List Node) → same_nodes x x ≡ true
itself [] = refl
itself (m ∷ x) = and_from (same_node m m) (same_nodes x x) (node_itself m) (itself x)

-- the test is true exactly where the lists are equal
pub same_tells : (x y : List Node) → (same_nodes x y ≡ true) ↔ (x ≡ y)
same_tells x y = (told x y, λ same. ap (same_nodes x) (sym same) ∙ itself x)

pub same_laws : IsEquivalence same_nodes
same_laws = lists_equiv (and_equiv (on_equiv (λ (m : Node). m.parent) nat_eq_equiv) (on_equiv (λ (m : Node). m.states) nat_list_eq_equiv))

-- the last number below n of which the test holds
abbrev pub last_of : (ℕ → Bool) → ℕ → ℕ
last_of p zero = zero
last_of p (suc n) = cond (p n) n (last_of p n)

-- for each state of the root the deepest node that holds it, which is the last
abbrev pub deepest : List Node → List ℕ
deepest t = map (λ s. last_of (λ x. holds t x s) (length t)) (root_states t)

-- what is hashed: the parents, the states of the root and their deepest nodes
abbrev pub hashed : List Node → List (List ℕ)
hashed t = fed.slice fed.u8 (map (λ (m : Node). m.parent) t) ++ (fed.slice fed.u32 (root_states t) ++ fed.slice fed.u8 (deepest t))

pub same_hashed : (x y : List Node) → IsTrue (same_nodes x y) → hashed x ≡ hashed y
same_hashed x y is = ap hashed (told x y is)

-- the same of a tree whose states below 2^16 stand in a list of their own
abbrev pub packed_hashed : List Node → List (List ℕ)
packed_hashed t = (map (λ (m : Node). m.parent) t ∷ []) ++ (fed.slice fed.u16 (filter (is_low (2 ^ 16)) (root_states t))
    ++ (fed.slice fed.u32 (filter (is_high (2 ^ 16)) (root_states t)) ++ (deepest t ∷ [])))

pub same_packed_hashed : (x y : List Node) → IsTrue (same_nodes x y) → packed_hashed x ≡ packed_hashed y
same_packed_hashed x y is = ap packed_hashed (told x y is)

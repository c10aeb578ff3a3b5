-- What the nodes of a stored tree hold.
use Rattle.std.proofs.Common.{◌≡◌, ◌∙◌, ◌+◌, ◌<◌, ◌≤◌, ◌==◌, ◌||◌, ℕ, zero, suc, Bool, true, false, cond, List}
use Rattle.std.proofs.Common.{[], ◌∷◌, All, AllPairs, Contains, Some, ap, arith, inl, inr, length, refl, slice_get, slice_index_or, subst, sym}
use Rattle.std.proofs.lemmas.Bool.{both_ways, cases_Bool, cases_lt, cond-false, cond-true, eq-eqb, eqb-true, ne_eqb, or_left, or_parts, or_right, true≢false}
use Rattle.std.proofs.lemmas.List.Elements.{All-head, All-tail}
use Rattle.std.proofs.lemmas.List.{length-map}
use Rattle.std.proofs.lemmas.List.FromFn.{length-range_with_len}
use Rattle.std.specs.List.{range_with_len}
use Rattle.aut_base.proofs.order.AllPairsOf.{pairs_first, pairs_rest}
use Rattle.aut_base.proofs.lists.Members.{any_found}
use Rattle.safra_trees.proofs.list_step.Ranks.{index_map}
use Rattle.safra_trees.specs.Flat.{IsStored, at, is_over, node_of, nodes_of, placed}
use Rattle.safra_trees.proofs.list_step.Over.{over_top}
use Rattle.safra_trees.specs.Trees.{Node, holds, node_at, root_states}
use Rattle.safra_trees.specs.inner.Names.{has}
use Rattle.safra_trees.specs.inner.Claims.{owner_in}

-- numbers after a smaller one
pub absent : (p : ℕ) (states : List ℕ) → All (λ x. p < x) states → has states p ≡ false
absent p [] all = refl
absent p (s ∷ states) all =
    let more : p < s = All-head (λ x. p < x) s states all in
    ap (λ b. b || has states p) (ne_eqb s p (λ e. omega (arith, e, more))) ∙ absent p states (All-tail (λ x. p < x) s states all)

pub place_absent : (none : ℕ) (states places : List ℕ) (p : ℕ) → has states p ≡ false → owner_in none states places p ≡ none
place_absent none [] places p not_there = refl
place_absent none (s ∷ states) [] p not_there = refl
place_absent none (s ∷ states) (x ∷ places) p not_there =
    let parts = or_parts (s == p) (has states p) not_there in
    ap (λ d. owner_in d states places p) (cond-false (s == p) x none parts.0) ∙ place_absent none states places p parts.1

has_if : (b : Bool) (s p : ℕ) (rest : List ℕ) → (s == p) ≡ false → has (cond b (s ∷ rest) rest) p ≡ has rest p
has_if true s p rest other = ap (λ b. b || has rest p) other
has_if false s p rest other = refl

-- the states whose places pass are some of the states
pub placed_absent : (test : ℕ → Bool) (states places : List ℕ) (p : ℕ) → has states p ≡ false → has (placed test states places) p ≡ false
placed_absent test [] places p not_there = refl
placed_absent test (s ∷ states) [] p not_there = refl
placed_absent test (s ∷ states) (x ∷ places) p not_there =
    let parts = or_parts (s == p) (has states p) not_there in
    has_if (test x) s p (placed test states places) parts.0 ∙ placed_absent test states places p parts.1

pub record IsPlaced (none : ℕ) (test : ℕ → Bool) (x : ℕ) : Type 0 where
  pub below : x < none
  pub passes : test x ≡ true

pub placed_found : (none : ℕ) (test : ℕ → Bool) (states places : List ℕ) (p : ℕ) → AllPairs (λ a b. a < b) states → length places ≡ length states → All (λ x. x < none) places → has
    (placed test states places) p ≡ true → IsPlaced none test (owner_in none states places p)
placed_found none test [] places p rising each below found = absurd (true≢false (sym found))
placed_found none test (s ∷ states) [] p rising each below found = absurd (true≢false (sym found))
placed_found none test (s ∷ states) (x ∷ places) p rising each below found = elim (cases_Bool (s == p)) [
  | inl here ↦ (
      let same : s ≡ p = eqb-true s p here in
      let not_later : has states p ≡ false = subst (λ q. has states q ≡ false) same (absent s states (pairs_first (λ a b. a < b) s states rising)) in
      let is : owner_in none (s ∷ states) (x ∷ places) p ≡ x = ap (λ d. owner_in d states places p) (cond-true (s == p) x none here) ∙ place_absent x states places p not_later in
      elim (cases_Bool (test x)) [
        | inl passes ↦ subst (IsPlaced none test) (sym is) (record { below = All-head (λ y. y < none) x places below; passes = passes })
        | inr fails ↦ absurd (both_ways (has (placed test (s ∷ states) (x ∷ places)) p)
            (ap (λ b. has (cond b (s ∷ placed test states places) (placed test states places)) p) fails ∙ placed_absent test states places p not_later) found)
      ])
  | inr other ↦ (
      let is : owner_in none (s ∷ states) (x ∷ places) p ≡ owner_in none states places p = ap (λ d. owner_in d states places p) (cond-false (s == p) x none other) in
      subst (IsPlaced none test) (sym is)
      (placed_found none test states places p (pairs_rest (λ a b. a < b) s states rising) (omega (arith, each)) (All-tail (λ y. y < none) x places below)
      (sym (has_if (test x) s p (placed test states places) other) ∙ found)))
]

pub placed_there : (none : ℕ) (test : ℕ → Bool) (states places : List ℕ) (p : ℕ) → AllPairs (λ a b. a < b) states → IsPlaced none test (owner_in none states places p) → has
    (placed test states places) p ≡ true
placed_there none test [] places p rising is = absurd (omega (arith, is.below))
placed_there none test (s ∷ states) [] p rising is = absurd (omega (arith, is.below))
placed_there none test (s ∷ states) (x ∷ places) p rising is = elim (cases_Bool (s == p)) [
  | inl here ↦ (
      let same : s ≡ p = eqb-true s p here in
      let not_later : has states p ≡ false = subst (λ q. has states q ≡ false) same (absent s states (pairs_first (λ a b. a < b) s states rising)) in
      let one : owner_in none (s ∷ states) (x ∷ places) p ≡ x = ap (λ d. owner_in d states places p) (cond-true (s == p) x none here) ∙ place_absent x states places p not_later in
      ap (λ b. has (cond b (s ∷ placed test states places) (placed test states places)) p) (subst (λ y. test y ≡ true) one is.passes) ∙ or_left (s == p) (has (placed test states places) p) here)
  | inr other ↦ (
      let one : owner_in none (s ∷ states) (x ∷ places) p ≡ owner_in none states places p = ap (λ d. owner_in d states places p) (cond-false (s == p) x none other) in
      has_if (test x) s p (placed test states places) other ∙ placed_there none test states places p (pairs_rest (λ a b. a < b) s states rising) (subst (IsPlaced none test) one is))
]

-- the node of a name
pub range_at : (a n i : ℕ) → i < n → slice_get (range_with_len a n) i ≡ Some (a + i)
range_at a zero i less = absurd (omega (arith, less))
range_at a (suc n) zero less = let e : a ≡ a + 0 = omega arith in ap Some e
range_at a (suc n) (suc i) less = let e : a + 1 + i ≡ a + suc i = omega arith in range_at (a + 1) n i (omega (arith, less)) ∙ ap Some e

pub nodes_length : (parents states places : List ℕ) → length (nodes_of parents states places) ≡ length parents
nodes_length parents states places = length-map (range_with_len 0 (length parents)) (node_of parents states places) ∙ length-range_with_len 0 (length parents)

pub stored_node : (parents states places : List ℕ) (x : ℕ) → x < length parents → node_at (nodes_of parents states places) x ≡ node_of parents states places x
stored_node parents states places x less =
    let e : 0 + x ≡ x = omega arith in
    index_map (node_of parents states places) (range_with_len 0 (length parents)) x x (record { parent = 0; states = [] }) (range_at 0 (length parents) x less ∙ ap Some e)

pub past_end : {X : Type 0} (xs : List X) (i : ℕ) (d : X) → length xs ≤ i → slice_index_or xs i d ≡ d
past_end [] i d past = refl
past_end (x ∷ xs) zero d past = absurd (omega (arith, past))
past_end (x ∷ xs) (suc i) d past = past_end xs i d (omega (arith, past))

-- a node holds a state where it is the state's place or above it
pub stored_found : (parents states places : List ℕ) → IsStored parents states places → (x p : ℕ) → holds (nodes_of parents states places) x p ≡ true → IsPlaced (length parents)
    (is_over (at parents) x) (owner_in (length parents) states places p)
stored_found parents states places is x p held = elim (cases_lt x (length parents)) [
  | inl less ↦ placed_found (length parents) (is_over (at parents) x) states places p is.rising is.each is.below
      (sym (ap (λ (d : Node). has d.states p) (stored_node parents states places x less)) ∙ held)
  | inr past ↦ absurd (true≢false (sym held ∙ ap (λ (d : Node). has d.states p)
      (past_end (nodes_of parents states places) x (record { parent = 0; states = [] }) (omega (arith, past, nodes_length parents states places)))))
]

pub stored_there : (parents states places : List ℕ) → IsStored parents states places → (x p : ℕ) → x < length parents → IsPlaced (length parents) (is_over (at parents) x)
    (owner_in (length parents) states places p) → holds (nodes_of parents states places) x p ≡ true
stored_there parents states places is x p less found =
    ap (λ (d : Node). has d.states p) (stored_node parents states places x less) ∙ placed_there (length parents) (is_over (at parents) x) states places p is.rising found

-- all states are the root's
pub placed_all : (test : ℕ → Bool) (states places : List ℕ) → length places ≡ length states → ((x : ℕ) → has places x ≡ true → test x ≡ true) → placed test states places ≡ states
placed_all test [] places each all = refl
placed_all test (s ∷ states) [] each all = absurd (omega (arith, each))
placed_all test (s ∷ states) (x ∷ places) each all =
    cond-true (test x) (s ∷ placed test states places) (placed test states places) (all x (or_left (x == x) (has places x) (eq-eqb x x refl)))
    ∙ ap (λ rest. s ∷ rest) (placed_all test states places (omega (arith, each)) (λ y there. all y (or_right (x == y) (has places y) there)))

-- The states of the root are all that are stored.
pub stored_root : (parents states places : List ℕ) → IsStored parents states places → root_states (nodes_of parents states places) ≡ states
stored_root [] [] places is = refl
stored_root [] (s ∷ states) [] is = absurd (omega (arith, is.each))
stored_root [] (s ∷ states) (x ∷ places) is = absurd (omega (arith, All-head (λ y. y < 0) x places is.below))
stored_root (p ∷ parents) states places is =
    ap (λ (d : Node). d.states) (stored_node (p ∷ parents) states places 0 (omega arith))
    ∙ placed_all (is_over (at (p ∷ parents)) 0) states places is.each (λ x there. (
    let found = any_found (λ y. y == x) places there in
    let same : found.0 ≡ x = eqb-true found.0 x found.2 in
    let less : found.0 < length (p ∷ parents) = contained (λ y. y < length (p ∷ parents)) places is.below found.0 found.1 in
    over_top (at (p ∷ parents)) (length (p ∷ parents)) is.lower x (omega (arith, same, less))))
  where
    contained : (P : ℕ → Type 0) (xs : List ℕ) → All P xs → (x : ℕ) → Contains xs x → P x
    contained P xs all x there = subst P there.2 (all there.0 x there.1)

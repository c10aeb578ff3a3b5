-- A stored tree is a tree.
use Rattle.std.proofs.Common.{◌≡◌, ◌∙◌, ◌<◌, ◌==◌, ℕ, true, false, List, [], ◌∷◌, AllPairs, ap, arith, inl, inr, length, refl, subst, sym}
use Rattle.std.proofs.lemmas.Bool.{both_ways, cases_Bool, cond-false, cond-true, eqb-true, eq-eqb, ne_eqb, or_cases, or_left, or_right, true≢false}
use Rattle.aut_base.proofs.order.AllPairsOf.{pairs_first, pairs_rest}
use Rattle.safra_trees.proofs.flat_step.Grown.{stored_inside, stored_parent}
use Rattle.safra_trees.proofs.flat_step.Placed.{absent, nodes_length, place_absent, stored_found, stored_there}
use Rattle.safra_trees.proofs.list_step.Over.{over_cases, over_chain, over_low, over_self}
use Rattle.safra_trees.specs.Flat.{IsStored, at, is_over, nodes_of}
use Rattle.safra_trees.specs.Step.{IsTree, Own}
use Rattle.safra_trees.specs.Trees.{holds}
use Rattle.safra_trees.specs.inner.Names.{has}
use Rattle.safra_trees.specs.inner.Claims.{owner_in}

-- the head of the states and its place
pub head_place : (none s x : ℕ) (states places : List ℕ) → AllPairs (λ a b. a < b) (s ∷ states) → owner_in none (s ∷ states) (x ∷ places) s ≡ x
head_place none s x states places rising =
    ap (λ d. owner_in d states places s) (cond-true (s == s) x none (eq-eqb s s refl)) ∙ place_absent x states places s (absent s states (pairs_first (λ a b. a < b) s states rising))

pub tail_place : (none s x p : ℕ) (states places : List ℕ) → AllPairs (λ a b. a < b) (s ∷ states) → has states p ≡ true → owner_in none (s ∷ states) (x ∷ places) p ≡ owner_in none states places p
tail_place none s x p states places rising there =
    let other : (s == p) ≡ false = ne_eqb s p (λ same. both_ways (has states p) (subst (λ q. has states q ≡ false) same (absent s states (pairs_first (λ a b. a < b) s states rising))) there) in
    ap (λ d. owner_in d states places p) (cond-false (s == p) x none other)

pub record Resides (none : ℕ) (states places : List ℕ) (x : ℕ) : Type 0 where
  pub state : ℕ
  pub there : has states state ≡ true
  pub is : owner_in none states places state ≡ x

-- each place is that of some state
pub resident : (none : ℕ) (states places : List ℕ) (x : ℕ) → AllPairs (λ a b. a < b) states → length places ≡ length states → has places x ≡ true → Resides none states places x
resident none [] [] x rising each some = absurd (true≢false (sym some))
resident none [] (y ∷ places) x rising each some = absurd (omega (arith, each))
resident none (s ∷ states) [] x rising each some = absurd (omega (arith, each))
resident none (s ∷ states) (y ∷ places) x rising each some = elim (or_cases (y == x) (has places x) some) [
  | inl here ↦ record { state = s; there = or_left (s == s) (has states s) (eq-eqb s s refl); is = head_place none s y states places rising ∙ eqb-true y x here }
  | inr later ↦ (
      let rest = resident none states places x (pairs_rest (λ a b. a < b) s states rising) (omega (arith, each)) later in
      record {
        state = rest.state;
        there = or_right (s == rest.state) (has states rest.state) rest.there;
        is = tail_place none s y rest.state states places rising rest.there ∙ rest.is;
      })
]

own_state : (parents states places : List ℕ) → IsStored parents states places → (x : ℕ) → x < length (nodes_of parents states places) → Own (nodes_of parents states places) x
own_state parents states places is x less =
    let t = nodes_of parents states places in
    let m = length parents in
    let small : x < m = omega (arith, less, nodes_length parents states places) in
    let lives = resident m states places x is.rising is.each (is.own x small) in
    record {
      state = lives.state;
      here = stored_there parents states places is x lives.state small
          (record { below = omega (arith, lives.is, small); passes = subst (λ y. is_over (at parents) x y ≡ true) (sym lives.is) (over_self (at parents) x) });
      nowhere = λ c more within parent. elim (cases_Bool (holds t c lives.state)) [
        | inr misses ↦ misses
        | inl held ↦ (
            let found = stored_found parents states places is c lives.state held in
            let low = over_low (at parents) m is.lower c (owner_in m states places lives.state) found.below found.passes in
            let inner : c < m = omega (arith, within, nodes_length parents states places) in
            absurd (omega (arith, low, lives.is, is.lower c more inner, stored_parent parents states places c inner, parent)))
      ];
    }

pub stored_tree : (parents states places : List ℕ) → IsStored parents states places → IsTree (nodes_of parents states places)
stored_tree parents states places is =
    let t = nodes_of parents states places in
    let many : length t ≡ length parents = nodes_length parents states places in
    record {
      lower = λ c more less. omega (arith, is.lower c more (omega (arith, less, many)), stored_parent parents states places c (omega (arith, less, many)));
      inside = λ c s more less held. (
          let small : c < length parents = omega (arith, less, many) in
          ap (λ x. holds t x s) (stored_parent parents states places c small) ∙ stored_inside parents states places is c s more small held);
      apart = λ c d s more before less same one other. (
          let m = length parents in
          let d_in : d < m = omega (arith, less, many) in
          let c_in : c < m = omega (arith, before, d_in) in
          let first = stored_found parents states places is c s one in
          let second = stored_found parents states places is d s other in
          let parent : at parents c ≡ at parents d = sym (stored_parent parents states places c c_in) ∙ (same ∙ stored_parent parents states places d d_in) in
          let over = over_chain (at parents) m is.lower c d (owner_in m states places s) first.below first.passes second.passes (omega (arith, before)) in
          elim (over_cases (at parents) m is.lower c d (omega (arith, before)) d_in over) [
            | inl here ↦ omega (arith, here, before)
            | inr up ↦ (
                let up_in : at parents d < m = omega (arith, is.lower d (omega (arith, before)) d_in, d_in) in
                omega (arith, over_low (at parents) m is.lower c (at parents d) up_in up, parent, is.lower c more c_in))
          ]);
      own = own_state parents states places is;
    }

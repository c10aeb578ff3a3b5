-- The results of the passes of a step, put together.
use Rattle.std.proofs.Common.{◌≡◌, ◌∙◌, ◌+◌, ◌<◌, ◌≤◌, ◌==◌, ◌&&◌, ◌||◌, ℕ, zero, suc, Bool, List, [], ◌∷◌, All, ap, arith, cond, get_or, inl, inr, length, map, nat_lt, refl, subst, sym}
use Rattle.std.proofs.lemmas.Bool.{cases_lt}
use Rattle.std.proofs.lemmas.List.Elements.{All-head, All-tail}
use Rattle.std.specs.List.{list_any, range_with_len}
use Rattle.safra_trees.proofs.flat_step.Grown.{claim_place, grown_by, grown_forest_of, grown_same}
use Rattle.safra_trees.proofs.flat_step.Owners.{IsPassed, stays_flag}
use Rattle.safra_trees.proofs.flat_step.Placed.{nodes_length}
use Rattle.safra_trees.specs.Events.{IsMoveInRange}
use Rattle.safra_trees.specs.Flat.{IsStored, at, nodes_of}
use Rattle.safra_trees.specs.Step.{grown}
use Rattle.safra_trees.specs.inner.Names.{has}
use Rattle.safra_trees.specs.declared.moves.Move.{Move}
use Rattle.safra_trees.specs.inner.Claims.{claim, claimant, first_of, grown_parent, owner_in}
use Rattle.safra_trees.specs.inner.Free.{owner_below}
use Rattle.safra_trees.specs.inner.Order.{IsOrder}
use Rattle.safra_trees.specs.inner.Passes.{ArePasses, AreOwners, ends_at, flag}

-- claims depend on the places of the states that moves leave
claim_same : (order : List ℕ) (one other : ℕ → ℕ) (n s : ℕ) → ((p : ℕ) → p < n → one p ≡ other p) → (moves : List Move) → All (IsMoveInRange n) moves → (c : ℕ)
    → claim order one s moves c ≡ claim order other s moves c
claim_same order one other n s same [] within c = refl
claim_same order one other n s same (e ∷ moves) within c =
    let here : one e.from ≡ other e.from = same e.from (All-head (IsMoveInRange n) e moves within).from in
    claim_same order one other n s same moves (All-tail (IsMoveInRange n) e moves within)
    (cond (nat_lt (one e.from) (length order) && (e.to == s)) (first_of order c (claimant (length order) (one e.from) e)) c)
    ∙ ap (λ x. claim order other s moves (cond (nat_lt x (length order) && (e.to == s)) (first_of order c (claimant (length order) x e)) c)) here

pub listed_by : (xs : List ℕ) (g : ℕ → ℕ) (a : ℕ) → ((i : ℕ) → i < length xs → at xs i ≡ g (a + i)) → xs ≡ map g (range_with_len a (length xs))
listed_by [] g a each = refl
listed_by (x ∷ xs) g a each =
    let here : a + 0 ≡ a = omega arith in
    ap (λ y. y ∷ xs) (each 0 (omega arith) ∙ ap g here)
    ∙ ap (λ ys. g a ∷ ys) (listed_by xs g (a + 1) (λ i less. (let e : a + suc i ≡ a + 1 + i = omega arith in each (suc i) (omega (arith, less)) ∙ ap g e)))

pub record IsSurvey (n : ℕ) (ms : List Move) (parents states places : List ℕ) (order found claims : List ℕ) (own : List Bool) (owners : List ℕ) (stay : List Bool) : Type 0 where
  pub order_size : length order ≡ length parents
  pub ordered : IsOrder (length parents) (at parents) (at order)
  pub found_size : length found ≡ n
  pub found_places : (s : ℕ) → s < n → at found s ≡ owner_in (length parents) states places s
  pub claims_size : length claims ≡ length found
  pub claimed : (s : ℕ) → s < length found → at claims s ≡ claim order (at found) s ms (length order + length order)
  pub own_size : length own ≡ length parents + length parents
  pub own_claims : (y : ℕ) → y < length parents + length parents → flag own y ≡ has claims y
  pub homes_size : length owners ≡ length own
  pub low : (x : ℕ) → x < length own → at owners x ≤ x
  pub are_homes : AreOwners own (grown_parent parents) (length own) owners
  pub stay_size : length stay ≡ length owners
  pub stays : (y : ℕ) → y < length owners → flag stay y ≡ list_any (ends_at owners y) claims

pub surveyed_passed : (n : ℕ) (ms : List Move) (parents states places order found claims : List ℕ) (own : List Bool) (owners : List ℕ) (stay : List Bool) → IsStored parents states places
    → All (IsMoveInRange n) ms
    → IsSurvey n ms parents states places order found claims own owners stay → IsPassed (grown n ms (nodes_of parents states places)) claims own owners
surveyed_passed n ms parents states places order found claims own owners stay is within survey =
    let f = grown n ms (nodes_of parents states places) in
    let m = length parents in
    let many : f.size ≡ m + m = omega (arith, nodes_length parents states places) in
    let same : (y : ℕ) → y < m + m → grown_parent parents y ≡ f.parent y = λ y less. elim (cases_lt y m) [
      | inl old ↦ (grown_by parents).old y old ∙ sym ((grown_same n ms parents states places).old y old)
      | inr fresh ↦ (grown_by parents).fresh y fresh ∙ sym ((grown_same n ms parents states places).fresh y fresh)
    ] in
    let each : (s : ℕ) → s < length claims → at claims s ≡ owner_below f f.size s = λ s less. (
    let small : s < length found = omega (arith, less, survey.claims_size) in
    let top : length order + length order ≡ f.size = omega (arith, many, survey.order_size) in
    survey.claimed s small
    ∙ (claim_same order (at found) (owner_in m states places) n s survey.found_places ms within (length order + length order)
    ∙ (claim_place n ms parents states places order is survey.order_size survey.ordered s
    ∙ ap (λ k. owner_below f k s) top))) in
    let bound : length claims ≡ n = survey.claims_size ∙ survey.found_size in
    record {
      forest = grown_forest_of n ms parents states places is;
      claimed = listed_by claims (owner_below f f.size) 0 (λ i less. (let e : i ≡ 0 + i = omega arith in each i less ∙ ap (owner_below f f.size) e))
          ∙ ap (λ k. map (owner_below f f.size) (range_with_len 0 k)) bound;
      own_claims = λ y less. survey.own_claims y (omega (arith, less, many));
      size = survey.homes_size ∙ (survey.own_size ∙ sym many);
      low = λ x less. survey.low x (omega (arith, less, many, survey.own_size));
      are_homes = λ x less. (
          let small : x < m + m = omega (arith, less, many) in
          subst (λ p. at owners x ≡ cond ((x == 0) || ((at owners p == p) && flag own p)) x (at owners p)) (same x small) (survey.are_homes x (omega (arith, small, survey.own_size))));
    }

pub surveyed : (n : ℕ) (ms : List Move) (parents states places order found claims : List ℕ) (own : List Bool) (owners : List ℕ) (stay : List Bool) → IsStored parents states places → All
    (IsMoveInRange n) ms
    → IsSurvey n ms parents states places order found claims own owners stay → ArePasses (grown n ms (nodes_of parents states places)) claims own owners stay
surveyed n ms parents states places order found claims own owners stay is within survey =
    let f = grown n ms (nodes_of parents states places) in
    let many : f.size ≡ length parents + length parents = omega (arith, nodes_length parents states places) in
    let passed = surveyed_passed n ms parents states places order found claims own owners stay is within survey in
    record {
      claimed = passed.claimed;
      own_size = survey.own_size ∙ sym many;
      own_claims = passed.own_claims;
      size = passed.size;
      low = passed.low;
      are_homes = passed.are_homes;
      stay_size = survey.stay_size ∙ passed.size;
      stays = λ y less. survey.stays y (omega (arith, less, passed.size)) ∙ stays_flag f claims own owners passed y less;
    }

-- the item of an index within the list, whatever the default past the end
get_any : (xs : List ℕ) (k d : ℕ) → k < length xs → get_or xs k d ≡ at xs k
get_any [] k d less = absurd (omega (arith, less))
get_any (x ∷ xs) zero d less = refl
get_any (x ∷ xs) (suc k) d less = get_any xs k d (omega (arith, less))

pub all_below : (xs : List ℕ) (most : ℕ) → ((k : ℕ) → k < length xs → at xs k < most) → All (λ x. x < most) xs
all_below xs most each k d within = omega (arith, get_any xs k d within, each k within)

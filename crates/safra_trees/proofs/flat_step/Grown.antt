-- The claims that the moves of a letter make are the places in the grown forest.
use Rattle.std.proofs.Common.{◌≡◌, ◌∙◌, ◌+◌, ◌-◌, ◌<◌, ◌≤◌, ◌==◌, ◌&&◌, ℕ, suc, true, false, List, ap, arith, inl, inr, length, nat_lt, subst, sym}
use Rattle.std.proofs.lemmas.Bool.{and_from, and_parts, cases_Bool, cases_lt, cond-false, cond-true, lt-ltb, le-ltb, ltb-true}
use Rattle.aut_base.proofs.lists.Members.{any_found, any_from}
use Rattle.safra_trees.proofs.flat_step.Claimed.{IsClaim, claim_is}
use Rattle.safra_trees.proofs.flat_step.Orders.{IsFirst, IsGrown, first_alike, key_end, key_fresh, key_old, key_order, order_over, place_first}
use Rattle.safra_trees.proofs.flat_step.Placed.{nodes_length, stored_found, stored_node, stored_there}
use Rattle.safra_trees.proofs.list_step.Forests.{IsForest}
use Rattle.safra_trees.specs.inner.Free.{owner_below}
use Rattle.safra_trees.proofs.list_step.Over.{IsLower, over_self, over_parent}
use Rattle.safra_trees.proofs.list_step.Pruned.{goes_more, goes_too, new_holds, new_parent, old_holds, old_parent}
use Rattle.safra_trees.specs.Flat.{IsStored, at, nodes_of}
use Rattle.safra_trees.specs.Step.{goes, goes_accepting, grown}
use Rattle.safra_trees.specs.Trees.{Node, holds, node_at}
use Rattle.safra_trees.specs.declared.moves.Move.{Move}
use Rattle.safra_trees.specs.inner.Claims.{claim, claimant, grown_parent, key, leads, owner_in}
use Rattle.safra_trees.specs.inner.Order.{IsOrder}

-- in a stored tree each node holds what its children hold
pub stored_inside : (parents states places : List ℕ) → IsStored parents states places → (y s : ℕ) → 0 < y → y < length parents → holds (nodes_of parents states places) y s ≡ true → holds
    (nodes_of parents states places) (at parents y) s ≡ true
stored_inside parents states places is y s more less held =
    let found = stored_found parents states places is y s held in
    stored_there parents states places is (at parents y) s (omega (arith, is.lower y more less, less))
    (record { below = found.below; passes = over_parent (at parents) (length parents) is.lower y (owner_in (length parents) states places s) more less found.below found.passes })

pub stored_parent : (parents states places : List ℕ) (y : ℕ) → y < length parents → (node_at (nodes_of parents states places) y).parent ≡ at parents y
stored_parent parents states places y less = ap (λ (d : Node). d.parent) (stored_node parents states places y less)

-- the parents of the grown forest by the stored ones
pub grown_by : (parents : List ℕ) → IsGrown (length parents) (at parents) (grown_parent parents)
grown_by parents = record {
  old = λ y less. cond-true (nat_lt y (length parents)) (at parents y) (y - length parents) (lt-ltb y (length parents) less);
  fresh = λ y more. cond-false (nat_lt y (length parents)) (at parents y) (y - length parents) (le-ltb y (length parents) more);
}

pub grown_forest_of : (n : ℕ) (ms : List Move) (parents states places : List ℕ) → IsStored parents states places → IsForest (grown n ms (nodes_of parents states places))
grown_forest_of n ms parents states places is =
    let t = nodes_of parents states places in
    let many : length t ≡ length parents = nodes_length parents states places in
    record {
      lower = λ y more less. elim (cases_lt y (length t)) [
        | inl old ↦ omega (arith, is.lower y more (omega (arith, many, old)), stored_parent parents states places y (omega (arith, many, old)), old_parent n ms t y old)
        | inr fresh ↦ omega (arith, new_parent n ms t y fresh, fresh, less)
      ];
      inside = λ y s more less held. elim (cases_lt y (length t)) [
        | inl old ↦ (
            let small : y < length parents = omega (arith, many, old) in
            let up : at parents y < length t = omega (arith, is.lower y more small, old) in
            let name : (grown n ms t).parent y ≡ at parents y = old_parent n ms t y old ∙ stored_parent parents states places y small in
            let before : goes ms t (at parents y) s ≡ true = goes_more ms t y (at parents y) s (λ r. stored_inside parents states places is y r more small) (sym (old_holds n ms t y s old) ∙ held) in
            ap (λ x. (grown n ms t).holds x s) name ∙ (old_holds n ms t (at parents y) s up ∙ before))
        | inr fresh ↦ (
            let up : y - length t < length t = omega (arith, fresh, less) in
            let before : goes ms t (y - length t) s ≡ true = goes_too ms t (y - length t) s (sym (new_holds n ms t y s fresh) ∙ held) in
            ap (λ x. (grown n ms t).holds x s) (new_parent n ms t y fresh) ∙ (old_holds n ms t (y - length t) s up ∙ before))
      ];
    }

pub grown_same : (n : ℕ) (ms : List Move) (parents states places : List ℕ) → IsGrown (length parents) (at parents) (grown n ms (nodes_of parents states places)).parent
grown_same n ms parents states places =
    let t = nodes_of parents states places in
    let many : length t ≡ length parents = nodes_length parents states places in
    record {
      old = λ y less. old_parent n ms t y (omega (arith, many, less)) ∙ stored_parent parents states places y less;
      fresh = λ y more. new_parent n ms t y (omega (arith, many, more)) ∙ ap (λ m. y - m) many;
    }

-- when a move claims its goal, and for which name
leads_from : (m : ℕ) (owner_below : ℕ → ℕ) (s : ℕ) (e : Move) → owner_below e.from < m → (e.to == s) ≡ true → leads m owner_below s e ≡ true
leads_from m owner_below s e less to = and_from (nat_lt (owner_below e.from) m) (e.to == s) (lt-ltb (owner_below e.from) m less) to

claimant_well : (m x : ℕ) (e : Move) → e.accepting ≡ true → claimant m x e ≡ m + x
claimant_well m x e well = cond-true e.accepting (m + x) x well

claimant_else : (m x : ℕ) (e : Move) → e.accepting ≡ false → claimant m x e ≡ x
claimant_else m x e other = cond-false e.accepting (m + x) x other

-- in the order a claimant comes no later than the place of the move's source
claimant_key : (order : List ℕ) (x : ℕ) (e : Move) → x < length order → key order (claimant (length order) x e) ≤ suc (at order x + at order x)
claimant_key order x e less = elim (cases_Bool e.accepting) [
  | inl well ↦ (
      let c : key order (claimant (length order) x e) ≡ key order (length order + x) = ap (key order) (claimant_well (length order) x e well) in
      let back : length order + x - length order ≡ x = omega arith in
      let v : at order (length order + x - length order) ≡ at order x = ap (at order) back in
      omega (arith, c, v, key_fresh order (length order + x) (omega arith) (omega (arith, less))))
  | inr other ↦ (
      let c : key order (claimant (length order) x e) ≡ key order x = ap (key order) (claimant_else (length order) x e other) in
      omega (arith, c, key_old order x less))
]

claimant_fresh : (order : List ℕ) (x : ℕ) (e : Move) → x < length order → e.accepting ≡ true → key order (claimant (length order) x e) ≡ at order x + at order x
claimant_fresh order x e less well =
    let back : length order + x - length order ≡ x = omega arith in
    let v : at order (length order + x - length order) ≡ at order x = ap (at order) back in
    ap (key order) (claimant_well (length order) x e well) ∙ omega (arith, v, key_fresh order (length order + x) (omega arith) (omega (arith, less)))

-- The claim on a state is the first of the nodes that hold it.
pub claim_first : (n : ℕ) (ms : List Move) (parents states places order : List ℕ) → IsStored parents states places → length order ≡ length parents → IsOrder (length parents) (at parents) (at order)
    → (s c : ℕ) → IsClaim order (owner_in (length parents) states places) s ms (length order + length order) c
    → IsFirst (grown n ms (nodes_of parents states places)) (key order) (length order + length order) s c
claim_first n ms parents states places order is size ordered s c claimed =
    let t = nodes_of parents states places in
    let owner_below : ℕ → ℕ = owner_in (length parents) states places in
    let many : length t ≡ length order = nodes_length parents states places ∙ sym size in
    record {
      from = elim claimed.from [
        | inl none ↦ inl (omega (arith, none, many))
        | inr lets ↦ (
            let e = lets.move in
            let parts = and_parts (nat_lt (owner_below e.from) (length order)) (e.to == s) lets.leads_on in
            let less : owner_below e.from < length order = ltb-true (owner_below e.from) (length order) parts.0 in
            let small : owner_below e.from < length parents = omega (arith, less, size) in
            let held : holds t (owner_below e.from) e.from ≡ true = stored_there parents states places is (owner_below e.from) e.from small
            (record { below = small; passes = over_self (at parents) (owner_below e.from) }) in
            let both : (holds t (owner_below e.from) e.from && (e.to == s)) ≡ true = and_from (holds t (owner_below e.from) e.from) (e.to == s) held parts.1 in
            elim (cases_Bool e.accepting) [
              | inl well ↦ (
                  let is_fresh : c ≡ length order + owner_below e.from = lets.is ∙ claimant_well (length order) (owner_below e.from) e well in
                  let back : c - length t ≡ owner_below e.from = omega (arith, is_fresh, many) in
                  let goes_on : goes_accepting ms t (owner_below e.from) s ≡ true = any_from (λ (v : Move). v.accepting && (holds t (owner_below e.from) v.from && (v.to == s))) ms e lets.there
                  (and_from e.accepting (holds t (owner_below e.from) e.from && (e.to == s)) well both) in
                  inr (omega (arith, is_fresh, less), new_holds n ms t c s (omega (arith, is_fresh, many)) ∙ (ap (λ x. goes_accepting ms t x s) back ∙ goes_on)))
              | inr other ↦ (
                  let is_old : c ≡ owner_below e.from = lets.is ∙ claimant_else (length order) (owner_below e.from) e other in
                  let goes_on : goes ms t (owner_below e.from) s ≡ true = any_from (λ (v : Move). holds t (owner_below e.from) v.from && (v.to == s)) ms e lets.there both in
                  inr (omega (arith, is_old, less), old_holds n ms t c s (omega (arith, is_old, less, many)) ∙ (ap (λ x. goes ms t x s) is_old ∙ goes_on)))
            ])
      ];
      first = λ y less held. elim (cases_lt y (length t)) [
        | inl old ↦ (
            let found = any_found (λ (v : Move). holds t y v.from && (v.to == s)) ms (sym (old_holds n ms t y s old) ∙ held) in
            let e = found.0 in
            let parts = and_parts (holds t y e.from) (e.to == s) found.2 in
            let under = stored_found parents states places is y e.from parts.0 in
            let small : owner_below e.from < length order = omega (arith, under.below, size) in
            let ahead = claimed.first e found.1 (leads_from (length order) owner_below s e small parts.1) in
            let climbs = order_over (length parents) (at parents) (at order) is.lower ordered y (owner_below e.from) under.below under.passes in
            omega (arith, ahead, climbs, claimant_key order (owner_below e.from) e small, key_old order y (omega (arith, old, many))))
        | inr fresh ↦ (
            let found = any_found (λ (v : Move). v.accepting && (holds t (y - length t) v.from && (v.to == s))) ms (sym (new_holds n ms t y s fresh) ∙ held) in
            let e = found.0 in
            let outer = and_parts e.accepting (holds t (y - length t) e.from && (e.to == s)) found.2 in
            let parts = and_parts (holds t (y - length t) e.from) (e.to == s) outer.1 in
            let under = stored_found parents states places is (y - length t) e.from parts.0 in
            let small : owner_below e.from < length order = omega (arith, under.below, size) in
            let ahead = claimed.first e found.1 (leads_from (length order) owner_below s e small parts.1) in
            let climbs = order_over (length parents) (at parents) (at order) is.lower ordered (y - length t) (owner_below e.from) under.below under.passes in
            let back : at order (y - length order) ≡ at order (y - length t) = ap (λ m. at order (y - m)) (sym many) in
            omega (arith, ahead, climbs, back, claimant_fresh order (owner_below e.from) e small outer.0, key_fresh order y (omega (arith, fresh, many)) less))
      ];
    }

-- and so its place in the grown forest
pub claim_place : (n : ℕ) (ms : List Move) (parents states places order : List ℕ) → IsStored parents states places → length order ≡ length parents → IsOrder (length parents) (at parents)
    (at order) → (s : ℕ)
    → claim order (owner_in (length parents) states places) s ms (length order + length order) ≡ owner_below (grown n ms (nodes_of parents states places)) (length order + length order) s
claim_place n ms parents states places order is size ordered s =
    let g = grown n ms (nodes_of parents states places) in
    let many : g.size ≡ length order + length order = omega (arith, nodes_length parents states places, size) in
    let grows : IsGrown (length order) (at parents) g.parent = subst (λ m. IsGrown m (at parents) g.parent) (sym size) (grown_same n ms parents states places) in
    let lower : IsLower (at parents) (length order) = subst (IsLower (at parents)) (sym size) is.lower in
    let by : IsOrder (length order) (at parents) (at order) = subst (λ m. IsOrder m (at parents) (at order)) (sym size) ordered in
    let keyed : IsOrder g.size g.parent (key order) = subst (λ m. IsOrder m g.parent (key order)) (sym many) (key_order order (at parents) g.parent lower by grows) in
    let last : key order g.size ≡ g.size = ap (key order) many ∙ (key_end order ∙ sym many) in
    let one : IsFirst g (key order) g.size s (claim order (owner_in (length parents) states places) s ms (length order + length order)) =
    subst (λ k. IsFirst g (key order) k s (claim order (owner_in (length parents) states places) s ms (length order + length order))) (sym many)
    (claim_first n ms parents states places order is size ordered s _ (claim_is order (owner_in (length parents) states places) s ms (length order + length order))) in
    let other : IsFirst g (key order) g.size s (owner_below g g.size s) = place_first g (grown_forest_of n ms parents states places is) (key order) keyed last s g.size (omega arith) in
    first_alike g (key order) keyed last s _ _ one other ∙ ap (λ k. owner_below g k s) many

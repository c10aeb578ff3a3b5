-- Which names survive, and which nodes own the states of the others.
use Rattle.std.proofs.Common.{◌≡◌, ◌≢◌, ◌∙◌, ◌<◌, ◌≤◌, ◌==◌, ◌&&◌, ◌||◌, ℕ, zero, suc, Bool, true, false, not, List, ap, arith, inl, inr, length, map, nat_lt, refl, subst, sym}
use Rattle.std.proofs.lemmas.Bool.{and_from, and_parts, both_ways, cases_Bool, cases_eq, cond-false, cond-true, eq-eqb}
use Rattle.std.proofs.lemmas.Bool.{eqb-true, lt-ltb, ltb-true, ne_eqb, not-true, not_from_false, or_from, or_parts, or_right}
use Rattle.std.specs.List.{list_any, range_with_len}
use Rattle.aut_base.proofs.lists.Lists.{list_any-map}
use Rattle.aut_base.proofs.lists.Members.{any_found, any_from, from_range, there_range_zero}
use Rattle.aut_base.proofs.numbers.Truth.{same_truth}
use Rattle.safra_trees.proofs.list_step.Forests.{IsForest, ancestors_of, stays_free, stays_from, stays_some}
use Rattle.safra_trees.specs.inner.Free.{owner_below}
use Rattle.safra_trees.proofs.list_step.KeptPlaces.{kept_under, place_keeps, over_kept}
use Rattle.safra_trees.proofs.list_step.Over.{over_cases, over_chain, over_from, over_low, over_root, over_self}
use Rattle.safra_trees.proofs.list_step.Places.{covered_placed}
use Rattle.safra_trees.specs.Flat.{at, is_over}
use Rattle.safra_trees.specs.Step.{Forest, ancestors, covered, retains, survives}
use Rattle.safra_trees.specs.inner.Names.{has}
use Rattle.safra_trees.specs.inner.Passes.{AreOwners, ends_at, flag, is_owner}

-- a name is open where no proper ancestor of it is covered
abbrev pub is_open : Forest → ℕ → Bool
is_open f y = not (list_any (covered f) (ancestors f y))

-- the results of the passes in a forest
pub record IsPassed (f : Forest) (claims : List ℕ) (own : List Bool) (owners : List ℕ) : Type 0 where
  pub forest : IsForest f
  pub claimed : claims ≡ map (owner_below f f.size) (range_with_len 0 f.bound)
  pub own_claims : (y : ℕ) → y < f.size → flag own y ≡ has claims y
  pub size : length owners ≡ f.size
  pub low : (x : ℕ) → x < f.size → at owners x ≤ x
  pub are_homes : AreOwners own f.parent f.size owners

own_covered : (f : Forest) (claims : List ℕ) (own : List Bool) (owners : List ℕ) → IsPassed f claims own owners → (y : ℕ) → y < f.size → covered f y ≡ not (flag own y)
own_covered f claims own owners is y less =
    covered_placed f is.forest y less
    ∙ ap not (sym (list_any-map (λ x. x == y) (owner_below f f.size) (range_with_len 0 f.bound)) ∙ (ap (λ xs. has xs y) (sym is.claimed) ∙ sym (is.own_claims y less)))

open_up : (f : Forest) → IsForest f → (y : ℕ) → 0 < y → y < f.size → list_any (covered f) (ancestors f y) ≡ (covered f (f.parent y) || list_any (covered f) (ancestors f (f.parent y)))
open_up f is y more less = ap (list_any (covered f)) (ancestors_of f is y more less)

-- the owner of a name: the deepest of it and its ancestors that is open
pub record IsHome (f : Forest) (y h : ℕ) : Type 0 where
  pub over : is_over f.parent h y ≡ true
  pub opens : is_open f h ≡ true
  pub lowest : (w : ℕ) → is_over f.parent w y ≡ true → is_open f w ≡ true → w ≤ h

home_to : (k : ℕ) (f : Forest) (claims : List ℕ) (own : List Bool) (owners : List ℕ) → IsPassed f claims own owners → (y : ℕ) → y ≤ k → y < f.size → IsHome f y (at owners y)
home_to k f claims own owners is zero low less = record {
  over = subst (λ h. is_over f.parent h 0 ≡ true) (sym (is.are_homes 0 less)) (over_self f.parent 0);
  opens = subst (λ h. is_open f h ≡ true) (sym (is.are_homes 0 less)) refl;
  lowest = λ w over opens. omega (arith, over_root f.parent w over);
}
home_to zero f claims own owners is (suc y) low less = absurd (omega (arith, low))
home_to (suc k) f claims own owners is (suc y) low less =
    let more : 0 < suc y = omega arith in
    let p = f.parent (suc y) in
    let up : p < suc y = is.forest.lower (suc y) more less in
    let above = home_to k f claims own owners is p (omega (arith, up, low)) (omega (arith, up, less)) in
    let bare : covered f p ≡ not (flag own p) = own_covered f claims own owners is p (omega (arith, up, less)) in
    elim (cases_Bool ((at owners p == p) && flag own p)) [
      | inl here ↦ (
          let parts = and_parts (at owners p == p) (flag own p) here in
          let owner : at owners (suc y) ≡ suc y = is.are_homes (suc y) less ∙ cond-true (is_owner own f.parent owners (suc y)) (suc y) (at owners p)
          (or_right (suc y == 0) ((at owners p == p) && flag own p) here) in
          let open_p : is_open f p ≡ true = subst (λ h. is_open f h ≡ true) (eqb-true (at owners p) p parts.0) above.opens in
          let free : list_any (covered f) (ancestors f (suc y)) ≡ false = open_up f is.forest (suc y) more less ∙ or_from (covered f p) (list_any (covered f) (ancestors f p))
          (bare ∙ ap not parts.1) (not-true (list_any (covered f) (ancestors f p)) open_p) in
          record {
            over = subst (λ h. is_over f.parent h (suc y) ≡ true) (sym owner) (over_self f.parent (suc y));
            opens = subst (λ h. is_open f h ≡ true) (sym owner) (not_from_false (list_any (covered f) (ancestors f (suc y))) free);
            lowest = λ w over opens. omega (arith, owner, over_low f.parent f.size is.forest.lower w (suc y) less over);
          })
      | inr other ↦ (
          let first : (suc y == 0) ≡ false = ne_eqb (suc y) 0 (λ e. omega (arith, e)) in
          let owner : at owners (suc y) ≡ at owners p = is.are_homes (suc y) less ∙ cond-false (is_owner own f.parent owners (suc y)) (suc y) (at owners p)
          (or_from (suc y == 0) ((at owners p == p) && flag own p) first other) in
          record {
            over = subst (λ h. is_over f.parent h (suc y) ≡ true) (sym owner) (over_from f.parent f.size is.forest.lower (at owners p) (suc y) more less above.over);
            opens = subst (λ h. is_open f h ≡ true) (sym owner) above.opens;
            lowest = λ w over opens. elim (over_cases f.parent f.size is.forest.lower w (suc y) more less over) [
              | inl same ↦ (
                  let open_y : is_open f (suc y) ≡ true = subst (λ v. is_open f v ≡ true) (sym same) opens in
                  let parts = or_parts (covered f p) (list_any (covered f) (ancestors f p))
                  (sym (open_up f is.forest (suc y) more less) ∙ not-true (list_any (covered f) (ancestors f (suc y))) open_y) in
                  let own_p : flag own p ≡ true = not_false (flag own p) (sym bare ∙ parts.0) in
                  let at_p : p ≤ at owners p = above.lowest p (over_self f.parent p) (not_from_false (list_any (covered f) (ancestors f p)) parts.1) in
                  let same_p : at owners p ≡ p = omega (arith, at_p, is.low p (omega (arith, up, less))) in
                  absurd (both_ways ((at owners p == p) && flag own p) other (and_from (at owners p == p) (flag own p) (eq-eqb (at owners p) p same_p) own_p)))
              | inr over' ↦ omega (arith, owner, above.lowest w over' opens)
            ];
          })
    ]
  where
    not_false : (b : Bool) → not b ≡ false → b ≡ true
    not_false true e = refl
    not_false false e = absurd (both_ways true e refl)

pub owner_of : (f : Forest) (claims : List ℕ) (own : List Bool) (owners : List ℕ) → IsPassed f claims own owners → (y : ℕ) → y < f.size → IsHome f y (at owners y)
owner_of f claims own owners is y = home_to y f claims own owners is y (omega arith)

-- no proper ancestor of an open name is covered
open_above_to : (k : ℕ) (f : Forest) → IsForest f → (x z : ℕ) → z ≤ k → z < f.size → is_over f.parent x z ≡ true → x ≢ z → is_open f z ≡ true → covered f x ≡ false
open_above_to k f is x zero low less over other opens = absurd (other (sym (over_root f.parent x over)))
open_above_to zero f is x (suc z) low less over other opens = absurd (omega (arith, low))
open_above_to (suc k) f is x (suc z) low less over other opens =
    let more : 0 < suc z = omega arith in
    let p = f.parent (suc z) in
    let up : p < suc z = is.lower (suc z) more less in
    let parts = or_parts (covered f p) (list_any (covered f) (ancestors f p)) (sym (open_up f is (suc z) more less) ∙ not-true (list_any (covered f) (ancestors f (suc z))) opens) in
    elim (over_cases f.parent f.size is.lower x (suc z) more less over) [
      | inl same ↦ absurd (other (sym same))
      | inr over' ↦ (elim (cases_eq x p) [
        | inl here ↦ ap (covered f) here ∙ parts.0
        | inr away ↦ open_above_to k f is x p (omega (arith, up, low)) (omega (arith, up, less)) over' away (not_from_false (list_any (covered f) (ancestors f p)) parts.1)
      ])
    ]

pub open_above : (f : Forest) → IsForest f → (x z : ℕ) → z < f.size → is_over f.parent x z ≡ true → x ≢ z → is_open f z ≡ true → covered f x ≡ false
open_above f is x z = open_above_to z f is x z (omega arith)

pub stays_open : (f : Forest) (y : ℕ) → survives f y ≡ true → is_open f y ≡ true
stays_open f y stay = not_from_false (list_any (covered f) (ancestors f y)) (stays_free f y stay)

-- the owner of a place survives
pub home_stays : (f : Forest) (claims : List ℕ) (own : List Bool) (owners : List ℕ) → IsPassed f claims own owners → (s : ℕ) → s < f.bound → owner_below f f.size s < f.size → survives f
    (at owners (owner_below f f.size s)) ≡ true
home_stays f claims own owners is s small less =
    let owner = owner_of f claims own owners is (owner_below f f.size s) less in
    stays_from f (at owners (owner_below f f.size s)) s
    (over_kept f is.forest (at owners (owner_below f f.size s)) (owner_below f f.size s) s less owner.over (place_keeps f is.forest s f.size (omega arith) less)) small
    (not-true (list_any (covered f) (ancestors f (at owners (owner_below f f.size s)))) owner.opens)

-- each surviving name is the owner of a place
pub record Inhabits (f : Forest) (owners : List ℕ) (y : ℕ) : Type 0 where
  pub state : ℕ
  pub small : state < f.bound
  pub placed : owner_below f f.size state < f.size
  pub ends : at owners (owner_below f f.size state) ≡ y

pub inhabited : (f : Forest) (claims : List ℕ) (own : List Bool) (owners : List ℕ) → IsPassed f claims own owners → (y : ℕ) → y < f.size → survives f y ≡ true → Inhabits f owners y
inhabited f claims own owners is y less stay =
    let opens = stays_open f y stay in
    elim (cases_Bool (list_any (λ s. owner_below f f.size s == y) (range_with_len 0 f.bound))) [
      | inl some ↦ (
          let found = any_found (λ s. owner_below f f.size s == y) (range_with_len 0 f.bound) some in
          let here : owner_below f f.size found.0 ≡ y = eqb-true (owner_below f f.size found.0) y found.2 in
          let owner = owner_of f claims own owners is y less in
          let same : at owners y ≡ y = omega (arith, owner.lowest y (over_self f.parent y) opens, is.low y less) in
          record { state = found.0; small = omega (arith, (from_range 0 f.bound found.0 found.1).1); placed = omega (arith, here, less); ends = ap (at owners) here ∙ same })
      | inr none ↦ (
          let bare : covered f y ≡ true = covered_placed f is.forest y less ∙ ap not none in
          let found = any_found (retains f y) (range_with_len 0 f.bound) (stays_some f y stay) in
          let under = kept_under f is.forest y found.0 less found.2 in
          let z = owner_below f f.size found.0 in
          let owner = owner_of f claims own owners is z under.low in
          let h = at owners z in
          let within : h < f.size = omega (arith, is.low z under.low, under.low) in
          let over : is_over f.parent y h ≡ true = over_chain f.parent f.size is.forest.lower y h z under.low under.over owner.over (owner.lowest y under.over opens) in
          record {
            state = found.0;
            small = omega (arith, (from_range 0 f.bound found.0 found.1).1);
            placed = under.low;
            ends = elim (cases_eq y h) [
              | inl same ↦ sym same
              | inr other ↦ absurd (both_ways (covered f y) (open_above f is.forest y h within over other owner.opens) bare)
            ];
          })
    ]

-- the flags of the surviving names
pub stays_flag : (f : Forest) (claims : List ℕ) (own : List Bool) (owners : List ℕ) → IsPassed f claims own owners → (y : ℕ) → y < f.size → list_any (ends_at owners y) claims ≡ survives f y
stays_flag f claims own owners is y less =
    let mapped : list_any (ends_at owners y) claims ≡ list_any (λ s. ends_at owners y (owner_below f f.size s)) (range_with_len 0 f.bound) = ap (list_any (ends_at owners y)) is.claimed
    ∙ list_any-map (ends_at owners y) (owner_below f f.size) (range_with_len 0 f.bound) in
    same_truth (list_any (ends_at owners y) claims) (survives f y)
    (λ some. (
    let found = any_found (λ s. ends_at owners y (owner_below f f.size s)) (range_with_len 0 f.bound) (sym mapped ∙ some) in
    let parts = and_parts (nat_lt (owner_below f f.size found.0) (length owners)) (at owners (owner_below f f.size found.0) == y) found.2 in
    let within : owner_below f f.size found.0 < f.size = omega (arith, ltb-true (owner_below f f.size found.0) (length owners) parts.0, is.size) in
    subst (λ h. survives f h ≡ true) (eqb-true (at owners (owner_below f f.size found.0)) y parts.1)
    (home_stays f claims own owners is found.0 (omega (arith, (from_range 0 f.bound found.0 found.1).1)) within)))
    (λ stay. (
    let lives = inhabited f claims own owners is y less stay in
    mapped ∙ any_from (λ s. ends_at owners y (owner_below f f.size s)) (range_with_len 0 f.bound) lives.state (there_range_zero f.bound lives.state lives.small)
    (and_from (nat_lt (owner_below f f.size lives.state) (length owners)) (at owners (owner_below f f.size lives.state) == y)
    (lt-ltb (owner_below f f.size lives.state) (length owners) (omega (arith, lives.placed, is.size))) (eq-eqb (at owners (owner_below f f.size lives.state)) y lives.ends))))

-- a surviving name that claims nothing is green
pub green_flag : (f : Forest) (claims : List ℕ) (own : List Bool) (owners : List ℕ) → IsPassed f claims own owners → (y : ℕ) → y < f.size → not (flag own y) ≡ covered f y
green_flag f claims own owners is y less = sym (own_covered f claims own owners is y less)

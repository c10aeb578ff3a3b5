-- The nodes of the tree that a step gives, and that it has the invariant again.
use Rattle.std.proofs.Common.{◌≡◌, ◌∙◌, ◌-◌, ◌<◌, ◌≤◌, ◌==◌, ◌&&◌, ℕ, zero, suc, Bool, true, false, List, [], ◌∷◌, Contains, ap, arith, filter, inl, inr, length, nat_lt, refl, subst, sym}
use Rattle.std.proofs.lemmas.Bool.{and_cases, and_from, and_parts, both_ways, cases_Bool, cases_lt, cond-true, cond-false, eq-eqb, eqb-true, le-ltb, lt-ltb, or_parts, true≢false}
use Rattle.std.proofs.lemmas.List.{length-map}
use Rattle.std.specs.List.{list_all, list_any, range_with_len}
use Rattle.safra_trees.proofs.list_step.Forests.{IsForest, ancestors_of, keeps_free, keeps_holds, keeps_up, stays_free, stays_some, stays_up}
use Rattle.aut_base.proofs.lists.Members.{any_found, any_from, first_there, from_filter, from_range, later_there, none_at, there_filter, there_range_zero}
use Rattle.safra_trees.proofs.list_step.Ranks.{index_map, rank_at, rank_back, rank_order, rank_rises, rank_same}
use Rattle.safra_trees.specs.Step.{Forest, IsTree, Own, ancestors, covered, goes, goes_accepting, grown, is_child, retains, pruned, renamed, survives}
use Rattle.safra_trees.specs.inner.Names.{has, names_where, rank}
use Rattle.safra_trees.specs.Trees.{Node, holds, node_at}
use Rattle.safra_trees.specs.declared.moves.Move.{Move}

pub pruned_at : (f : Forest) (y : ℕ) → y < f.size → survives f y ≡ true → node_at (pruned f) (rank (survives f) y) ≡ renamed f y
pruned_at f y less is = index_map (renamed f) (names_where (survives f) f.size) (rank (survives f) y) y (record { parent = 0; states = [] }) (rank_at (survives f) y f.size less is)

pub pruned_length : (f : Forest) → length (pruned f) ≡ rank (survives f) f.size
pruned_length f = length-map (names_where (survives f) f.size) (renamed f)

pub pruned_within : (f : Forest) (y : ℕ) → y < f.size → survives f y ≡ true → rank (survives f) y < length (pruned f)
pruned_within f y less is = omega (arith, rank_rises (survives f) y f.size less is, pruned_length f)

pub has_from : (p : ℕ → Bool) (n s : ℕ) → p s ≡ true → s < n → has (names_where p n) s ≡ true
has_from p n s is less = any_from (λ x. x == s) (names_where p n) s (there_filter p (range_with_len 0 n) s (there_range_zero n s less) is) (eq-eqb s s refl)

pub has_parts : (p : ℕ → Bool) (n s : ℕ) → has (names_where p n) s ≡ true → (p s ≡ true) × (s < n)
has_parts p n s h =
    let found = any_found (λ x. x == s) (names_where p n) h in
    let same : found.0 ≡ s = eqb-true found.0 s found.2 in
    let parts = from_filter p (range_with_len 0 n) found.0 found.1 in
    let within = from_range 0 n found.0 parts.0 in
    (subst (λ x. p x ≡ true) same parts.1, omega (arith, within.1, same))

pub pruned_holds : (f : Forest) (y s : ℕ) → y < f.size → survives f y ≡ true → retains f y s ≡ true → s < f.bound → holds (pruned f) (rank (survives f) y) s ≡ true
pruned_holds f y s less is h small = ap (λ (d : Node). has d.states s) (pruned_at f y less is) ∙ has_from (retains f y) f.bound s h small

pub pruned_parts : (f : Forest) (y s : ℕ) → y < f.size → survives f y ≡ true → holds (pruned f) (rank (survives f) y) s ≡ true → (retains f y s ≡ true) × (s < f.bound)
pruned_parts f y s less is h = has_parts (retains f y) f.bound s (sym (ap (λ (d : Node). has d.states s) (pruned_at f y less is)) ∙ h)

pub pruned_parent : (f : Forest) (y : ℕ) → y < f.size → survives f y ≡ true → (node_at (pruned f) (rank (survives f) y)).parent ≡ rank (survives f) (f.parent y)
pruned_parent f y less is = ap (λ (d : Node). d.parent) (pruned_at f y less is)

pub rank_zero : (p : ℕ → Bool) (y : ℕ) → 0 < rank p y → 0 < y
rank_zero p zero h = absurd (omega (arith, h))
rank_zero p (suc y) h = omega arith

abbrev Lower : List Node → ℕ → Type 0
Lower t c = (node_at t c).parent < c

lower : (f : Forest) → IsForest f → (c : ℕ) → 0 < c → c < length (pruned f) → Lower (pruned f) c
lower f is c more less =
    let at = rank_back (survives f) f.size c (omega (arith, less, pruned_length f)) in
    let y = at.name in
    let over : 0 < y = rank_zero (survives f) y (omega (arith, more, at.is)) in
    let up = rank_rises (survives f) (f.parent y) y (is.lower y over at.below) (stays_up f is y over at.below at.stays) in
    subst (Lower (pruned f)) at.is (omega (arith, up, pruned_parent f y at.below at.stays))

inside : (f : Forest) → IsForest f → (c s : ℕ) → 0 < c → c < length (pruned f) → holds (pruned f) c s ≡ true → holds (pruned f) (node_at (pruned f) c).parent s ≡ true
inside f is c s more less h =
    let at = rank_back (survives f) f.size c (omega (arith, less, pruned_length f)) in
    let y = at.name in
    let over : 0 < y = rank_zero (survives f) y (omega (arith, more, at.is)) in
    let low : f.parent y < y = is.lower y over at.below in
    let parts = pruned_parts f y s at.below at.stays (subst (λ d. holds (pruned f) d s ≡ true) (sym at.is) h) in
    let held = pruned_holds f (f.parent y) s (omega (arith, low, at.below)) (stays_up f is y over at.below at.stays) (keeps_up f is y s over at.below parts.0) parts.1 in
    let parent : rank (survives f) (f.parent y) ≡ (node_at (pruned f) c).parent = sym (pruned_parent f y at.below at.stays) ∙ ap (λ d. (node_at (pruned f) d).parent) at.is in
    subst (λ d. holds (pruned f) d s ≡ true) parent held

apart : (f : Forest) → IsForest f → (c d s : ℕ) → 0 < c → c < d → d < length (pruned f) → (node_at (pruned f) c).parent ≡ (node_at (pruned f) d).parent → holds (pruned f) c s ≡ true
    → holds (pruned f) d s ≡ true → ⊥
apart f is c d s more less within same h k =
    let at = rank_back (survives f) f.size c (omega (arith, less, within, pruned_length f)) in
    let by = rank_back (survives f) f.size d (omega (arith, within, pruned_length f)) in
    let y = at.name in
    let z = by.name in
    let over : 0 < y = rank_zero (survives f) y (omega (arith, more, at.is)) in
    let far : 0 < z = rank_zero (survives f) z (omega (arith, more, less, by.is)) in
    let before : y < z = rank_order (survives f) y z by.stays (omega (arith, at.is, by.is, less)) in
    let kept = pruned_parts f y s at.below at.stays (subst (λ e. holds (pruned f) e s ≡ true) (sym at.is) h) in
    let also = pruned_parts f z s by.below by.stays (subst (λ e. holds (pruned f) e s ≡ true) (sym by.is) k) in
    let ranks : rank (survives f) (f.parent y) ≡ rank (survives f) (f.parent z) =
    sym (pruned_parent f y at.below at.stays) ∙ (ap (λ e. (node_at (pruned f) e).parent) at.is ∙
    (same ∙ (ap (λ e. (node_at (pruned f) e).parent) (sym by.is) ∙ pruned_parent f z by.below by.stays))) in
    let one : f.parent y ≡ f.parent z = rank_same (survives f) (f.parent y) (f.parent z) (stays_up f is y over at.below at.stays) (stays_up f is z far by.below by.stays) ranks in
    let free : (is_child f (f.parent z) y && f.holds y s) ≡ false = none_at (λ w. is_child f (f.parent z) w && f.holds w s) (range_with_len 0 z) y (keeps_free f z s also.0).0
    (there_range_zero z y before) in
    let there : (is_child f (f.parent z) y && f.holds y s) ≡ true = and_from (is_child f (f.parent z) y) (f.holds y s)
    (and_from (nat_lt 0 y) (f.parent y == f.parent z) (lt-ltb 0 y over) (eq-eqb (f.parent y) (f.parent z) one)) (keeps_holds f y s kept.0) in
    both_ways (is_child f (f.parent z) y && f.holds y s) free there

not_all : {X : Type 0} (p : X → Bool) (xs : List X) → list_all p xs ≡ false → (x : X) × Contains xs x × (p x ≡ false)
not_all p [] h = absurd (true≢false h)
not_all p (x ∷ xs) h = elim (and_cases (p x) (list_all p xs) h) [
  | inl here ↦ (x, first_there x xs, here)
  | inr rest ↦ (let found = not_all p xs rest in (found.0, later_there x xs found.0 found.1, found.2))
]

-- a surviving name keeps some state that no surviving child of it keeps
own_of : (f : Forest) → IsForest f → (y s : ℕ) → y < f.size → survives f y ≡ true → retains f y s ≡ true → s < f.bound →
    ((z : ℕ) → 0 < z → z < f.size → survives f z ≡ true → f.parent z ≡ y → retains f z s ≡ true → ⊥) → Own (pruned f) (rank (survives f) y)
own_of f is y s less on kept small none = record {
  state = s;
  here = pruned_holds f y s less on kept small;
  nowhere = λ c more within parent. (
      let by = rank_back (survives f) f.size c (omega (arith, within, pruned_length f)) in
      let z = by.name in
      let over : 0 < z = rank_zero (survives f) z (omega (arith, more, by.is)) in
      let ranks : rank (survives f) (f.parent z) ≡ rank (survives f) y = sym (pruned_parent f z by.below by.stays) ∙ (ap (λ e. (node_at (pruned f) e).parent) by.is ∙ parent) in
      let one : f.parent z ≡ y = rank_same (survives f) (f.parent z) y (stays_up f is z over by.below by.stays) on ranks in
      elim (cases_Bool (holds (pruned f) c s)) [
        | inr misses ↦ misses
        | inl held ↦ absurd (none z over by.below by.stays one (pruned_parts f z s by.below by.stays (subst (λ e. holds (pruned f) e s ≡ true) (sym by.is) held)).0)
      ]);
}

own : (f : Forest) → IsForest f → (x : ℕ) → x < length (pruned f) → Own (pruned f) x
own f is x less =
    let at = rank_back (survives f) f.size x (omega (arith, less, pruned_length f)) in
    let y = at.name in
    subst (Own (pruned f)) at.is (elim (cases_Bool (covered f y)) [
      | inl bare ↦ (
          let some = any_found (retains f y) (range_with_len 0 f.bound) (stays_some f y at.stays) in
          own_of f is y some.0 at.below at.stays some.2 (omega (arith, (from_range 0 f.bound some.0 some.1).1)) (λ z over within on parent kept. (
          let free : list_any (covered f) (f.parent z ∷ ancestors f (f.parent z)) ≡ false = subst (λ ys. list_any (covered f) ys ≡ false) (ancestors_of f is z over within) (stays_free f z on) in
          both_ways (covered f y) (subst (λ v. covered f v ≡ false) parent (or_parts (covered f (f.parent z)) (list_any (covered f) (ancestors f (f.parent z))) free).0) bare)))
      | inr gap ↦ (
          let found = not_all (λ s. list_any (λ z. is_child f y z && retains f z s) (range_with_len 0 f.size)) (filter (retains f y) (range_with_len 0 f.bound)) gap in
          let s = found.0 in
          let held = from_filter (retains f y) (range_with_len 0 f.bound) s found.1 in
          own_of f is y s at.below at.stays held.1 (omega (arith, (from_range 0 f.bound s held.0).1)) (λ z over within on parent kept.
          both_ways (list_any (λ w. is_child f y w && retains f w s) (range_with_len 0 f.size)) found.2
          (any_from (λ w. is_child f y w && retains f w s) (range_with_len 0 f.size) z (there_range_zero f.size z within)
          (and_from (is_child f y z) (retains f z s) (and_from (nat_lt 0 z) (f.parent z == y) (lt-ltb 0 z over) (eq-eqb (f.parent z) y parent)) kept))))
    ])

pub pruned_tree : (f : Forest) → IsForest f → IsTree (pruned f)
pruned_tree f is = record { lower = lower f is; inside = inside f is; apart = apart f is; own = own f is }

-- moves from more states lead to more
pub goes_more : (ms : List Move) (t : List Node) (x y s : ℕ) → ((r : ℕ) → holds t x r ≡ true → holds t y r ≡ true) → goes ms t x s ≡ true → goes ms t y s ≡ true
goes_more ms t x y s more h =
    let found = any_found (λ (m : Move). holds t x m.from && (m.to == s)) ms h in
    let parts = and_parts (holds t x found.0.from) (found.0.to == s) found.2 in
    any_from (λ (m : Move). holds t y m.from && (m.to == s)) ms found.0 found.1 (and_from (holds t y found.0.from) (found.0.to == s) (more found.0.from parts.0) parts.1)

pub goes_too : (ms : List Move) (t : List Node) (x s : ℕ) → goes_accepting ms t x s ≡ true → goes ms t x s ≡ true
goes_too ms t x s h =
    let found = any_found (λ (m : Move). m.accepting && (holds t x m.from && (m.to == s))) ms h in
    any_from (λ (m : Move). holds t x m.from && (m.to == s)) ms found.0 found.1 (and_parts found.0.accepting (holds t x found.0.from && (found.0.to == s)) found.2).1

-- old names and fresh ones
pub old_parent : (n : ℕ) (ms : List Move) (t : List Node) (y : ℕ) → y < length t → (grown n ms t).parent y ≡ (node_at t y).parent
old_parent n ms t y less = cond-true (nat_lt y (length t)) (node_at t y).parent (y - length t) (lt-ltb y (length t) less)

pub new_parent : (n : ℕ) (ms : List Move) (t : List Node) (y : ℕ) → length t ≤ y → (grown n ms t).parent y ≡ y - length t
new_parent n ms t y more = cond-false (nat_lt y (length t)) (node_at t y).parent (y - length t) (le-ltb y (length t) more)

pub old_holds : (n : ℕ) (ms : List Move) (t : List Node) (y s : ℕ) → y < length t → (grown n ms t).holds y s ≡ goes ms t y s
old_holds n ms t y s less = cond-true (nat_lt y (length t)) (goes ms t y s) (goes_accepting ms t (y - length t) s) (lt-ltb y (length t) less)

pub new_holds : (n : ℕ) (ms : List Move) (t : List Node) (y s : ℕ) → length t ≤ y → (grown n ms t).holds y s ≡ goes_accepting ms t (y - length t) s
new_holds n ms t y s more = cond-false (nat_lt y (length t)) (goes ms t y s) (goes_accepting ms t (y - length t) s) (le-ltb y (length t) more)

pub grown_forest : (n : ℕ) (ms : List Move) (t : List Node) → IsTree t → IsForest (grown n ms t)
grown_forest n ms t is = record {
  lower = λ y more less. elim (cases_lt y (length t)) [
    | inl old ↦ omega (arith, is.lower y more old, old_parent n ms t y old)
    | inr new ↦ omega (arith, new_parent n ms t y new, new, less)
  ];
  inside = λ y s more less h. elim (cases_lt y (length t)) [
    | inl old ↦ (
        let up : (node_at t y).parent < length t = omega (arith, is.lower y more old, old) in
        let before = goes_more ms t y (node_at t y).parent s (λ r held. is.inside y r more old held) (sym (old_holds n ms t y s old) ∙ h) in
        ap (λ x. (grown n ms t).holds x s) (old_parent n ms t y old) ∙ (old_holds n ms t (node_at t y).parent s up ∙ before))
    | inr new ↦ (
        let up : y - length t < length t = omega (arith, new, less) in
        let before = goes_too ms t (y - length t) s (sym (new_holds n ms t y s new) ∙ h) in
        ap (λ x. (grown n ms t).holds x s) (new_parent n ms t y new) ∙ (old_holds n ms t (y - length t) s up ∙ before))
  ];
}

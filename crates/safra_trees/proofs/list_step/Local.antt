-- What a node keeps, by its parent and its older siblings alone, and what is still free after all its children took theirs.
use Rattle.std.proofs.Common.{◌≡◌, ◌∙◌, ◌+◌, ◌<◌, ◌==◌, ◌&&◌, ◌||◌, ℕ, Bool, true, false, not, [], ◌∷◌, ap, arith, filter, nat_lt, refl, subst, sym}
use Rattle.std.proofs.lemmas.Bool.{and_from, and_parts, both_ways, eqb-true, false_from_ne_true, ltb-true, not-true, not_from_false}
use Rattle.std.proofs.lemmas.List.Folds.{list_any-append}
use Rattle.std.specs.List.{list_any, range_with_len}
use Rattle.safra_trees.proofs.list_step.Forests.{IsForest, keeps_child, keeps_free, keeps_holds, keeps_up, least, none_any}
use Rattle.aut_base.proofs.lists.Lists.{range_more}
use Rattle.aut_base.proofs.lists.Members.{each_from, each_is, from_filter, from_range, none_at, there_filter, there_range_zero}
use Rattle.aut_base.proofs.numbers.Truth.{or-false, same_truth}
use Rattle.safra_trees.specs.inner.Free.{free, given}
use Rattle.safra_trees.specs.Step.{Forest, covered, is_child, retains, held_by_older}

-- a child takes what is free when its turn comes
pub keeps_local : (f : Forest) → IsForest f → (y s : ℕ) → 0 < y → y < f.size → retains f y s ≡ (f.holds y s && free f (f.parent y) y s)
keeps_local f is y s more less = same_truth (retains f y s) (f.holds y s && free f (f.parent y) y s)
    (λ kept. and_from (f.holds y s) (free f (f.parent y) y s) (keeps_holds f y s kept)
    (and_from (retains f (f.parent y) s) (not (given f (f.parent y) y s)) (keeps_up f is y s more less kept)
    (not_from_false (given f (f.parent y) y s) (none_any (λ z. is_child f (f.parent y) z && retains f z s) (range_with_len 0 y)
    (λ z there. false_from_ne_true (is_child f (f.parent y) z && retains f z s) (λ both. (
    let parts = and_parts (is_child f (f.parent y) z) (retains f z s) both in
    both_ways (is_child f (f.parent y) z && f.holds z s)
    (none_at (λ w. is_child f (f.parent y) w && f.holds w s) (range_with_len 0 y) z (keeps_free f y s kept).0 there)
    (and_from (is_child f (f.parent y) z) (f.holds z s) parts.0 (keeps_holds f z s parts.1)))))))))
    (λ both. (
    let parts = and_parts (f.holds y s) (free f (f.parent y) y s) both in
    let up = and_parts (retains f (f.parent y) s) (not (given f (f.parent y) y s)) parts.1 in
    keeps_child f is y s more less parts.0 (none_any (λ z. is_child f (f.parent y) z && f.holds z s) (range_with_len 0 y)
    (λ z there. false_from_ne_true (is_child f (f.parent y) z && f.holds z s) (λ hit. (
    let first = least (λ w. is_child f (f.parent y) w && f.holds w s) z hit in
    let w = first.at in
    let child = and_parts (is_child f (f.parent y) w) (f.holds w s) first.is in
    let ones = and_parts (nat_lt 0 w) (f.parent w == f.parent y) child.0 in
    let parent : f.parent w ≡ f.parent y = eqb-true (f.parent w) (f.parent y) ones.1 in
    let below : w < y = omega (arith, first.low, (from_range 0 y z there).1) in
    let none : held_by_older f s w ≡ false = none_any (λ v. is_child f (f.parent w) v && f.holds v s) (range_with_len 0 w)
    (λ v inside. subst (λ u. (is_child f u v && f.holds v s) ≡ false) (sym parent) (first.none v (omega (arith, (from_range 0 w v inside).1)))) in
    let kept : retains f w s ≡ true = keeps_child f is w s (ltb-true 0 w ones.0) (omega (arith, below, less)) child.1 none (subst (λ u. retains f u s ≡ true) (sym parent) up.0) in
    both_ways (is_child f (f.parent y) w && retains f w s)
    (none_at (λ v. is_child f (f.parent y) v && retains f v s) (range_with_len 0 y) w (not-true (given f (f.parent y) y s) up.1) (there_range_zero y w below))
    (and_from (is_child f (f.parent y) w) (retains f w s) child.0 kept))))) up.0))

-- the root keeps all that it holds
pub keeps_root : (f : Forest) (s : ℕ) → retains f 0 s ≡ f.holds 0 s
keeps_root f s = and_true (f.holds 0 s)
  where
    and_true : (b : Bool) → (b && true) ≡ b
    and_true true = refl
    and_true false = refl

-- which states are given to children, and which are still free, after one more name
given_more : (f : Forest) (x y s : ℕ) → given f x (y + 1) s ≡ (given f x y s || (is_child f x y && retains f y s))
given_more f x y s =
    let e : 0 + y ≡ y = omega arith in
    ap (list_any (λ z. is_child f x z && retains f z s)) (range_more 0 y)
    ∙ (list_any-append (λ z. is_child f x z && retains f z s) (range_with_len 0 y) ((0 + y) ∷ [])
    ∙ (ap (λ (w : ℕ). given f x y s || ((is_child f x w && retains f w s) || false)) e
    ∙ ap (λ b. given f x y s || b) (or-false (is_child f x y && retains f y s))))

pub free_more : (f : Forest) (x y s : ℕ) → free f x (y + 1) s ≡ (free f x y s && not (is_child f x y && retains f y s))
free_more f x y s = ap (λ b. retains f x s && not b) (given_more f x y s) ∙ split (retains f x s) (given f x y s) (is_child f x y && retains f y s)
  where
    split : (k g c : Bool) → (k && not (g || c)) ≡ ((k && not g) && not c)
    split true true c = refl
    split true false c = refl
    split false g c = refl

-- a node is covered where none of its states is still free
pub covered_left : (f : Forest) (x : ℕ) → covered f x ≡ not (list_any (free f x f.size) (range_with_len 0 f.bound))
covered_left f x = same_truth (covered f x) (not (list_any (free f x f.size) (range_with_len 0 f.bound)))
    (λ all. not_from_false (list_any (free f x f.size) (range_with_len 0 f.bound))
    (none_any (free f x f.size) (range_with_len 0 f.bound) (λ s there. false_from_ne_true (free f x f.size s) (λ left. (
    let parts = and_parts (retains f x s) (not (given f x f.size s)) left in
    both_ways (given f x f.size s) (not-true (given f x f.size s) parts.1)
    (each_is (given f x f.size) (filter (retains f x) (range_with_len 0 f.bound)) s all (there_filter (retains f x) (range_with_len 0 f.bound) s there parts.0)))))))
    (λ none. each_from (given f x f.size) (filter (retains f x) (range_with_len 0 f.bound)) (λ s there. (
    let held = from_filter (retains f x) (range_with_len 0 f.bound) s there in
    let gone : free f x f.size s ≡ false = none_at (free f x f.size) (range_with_len 0 f.bound) s (not-true (list_any (free f x f.size) (range_with_len 0 f.bound)) none) held.0 in
    used (retains f x s) (given f x f.size s) held.1 gone)))
  where
    used : (k g : Bool) → k ≡ true → (k && not g) ≡ false → g ≡ true
    used true true e h = refl
    used true false e h = sym h
    used false g e h = absurd (both_ways false refl e)

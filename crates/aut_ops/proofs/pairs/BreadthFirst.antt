-- Lists in breadth-first order are unique, and have exactly what is reached.
use Rattle.std.proofs.Common.{◌≡◌, ◌≢◌, ◌∙◌, ◌↔◌, ◌⊎◌, ◌<◌, ◌≤◌, ℕ, zero, suc, Bool, List, [], ◌∷◌, ◌++◌, All, AllPairs, Contains}
use Rattle.std.proofs.Common.{ap, append_assoc, arith, drop, fold, get_or, inl, inr, length, length-append, refl, subst, sym, take}
use Rattle.std.proofs.lemmas.Bool.{cases_lt}
use Rattle.std.proofs.lemmas.List.{append-nil, get_or-take, length-take-le, take-append-drop, take-append-le, take_all}
use Rattle.std.proofs.lemmas.List.Elements.{All-contains, Contains-append_left, Contains-append_right, Contains-get_or, Contains-push}
use Rattle.std.proofs.lemmas.List.Quantifiers.{all_pairs_push}
use Rattle.std.proofs.lemmas.List.Sums.{fold-append}
use Rattle.std.proofs.lemmas.Grind.{flat_map-append}
use Rattle.std.specs.Prelude.{flat_map}
use Rattle.aut_base.proofs.lists.Members.{Tells, found_there, item_at, none_there, there_cases, there_flat_map, there_found}
use Rattle.aut_ops.specs.BreadthFirst.{IsBreadthFirst, IsReachedFrom, LeadsBy}
use Rattle.aut_ops.specs.inner.Parts.{once}
use Rattle.exploration.proofs.Lists.{new_all, new_cases, new_longer}
use Rattle.exploration.specs.Turns.{with_new}

-- what is reached

pub reached_start : {X : Type 0} (starts : List X) (next : X → List X) (x : X) → Contains starts x → IsReachedFrom starts next x
reached_start starts next x there = record { start = x; is_start = there; path = []; leads = refl }

leads_on : {X : Type 0} (next : X → List X) (x y z : X) (path : List X) → LeadsBy next x path y → Contains (next y) z → LeadsBy next x (path ++ z ∷ []) z
leads_on next x y z [] leads there = (subst (λ w. Contains (next w) z) (sym leads) there, refl)
leads_on next x y z (w ∷ path) leads there = (leads.0, leads_on next w y z path leads.1 there)

pub reached_next : {X : Type 0} (starts : List X) (next : X → List X) (y z : X) → IsReachedFrom starts next y → Contains (next y) z → IsReachedFrom starts next z
reached_next starts next y z r there = record { start = r.start; is_start = r.is_start; path = r.path ++ z ∷ []; leads = leads_on next r.start y z r.path r.leads there }

-- a property of the starts that steps preserve holds of all that is reached
leads_keeps : {X : Type 0} (P : X → Type 0) (next : X → List X) → ((x y : X) → P x → Contains (next x) y → P y) → (x y : X) (path : List X) → P x → LeadsBy next x path y → P y
leads_keeps P next step x y [] here leads = subst P leads here
leads_keeps P next step x y (z ∷ path) here leads = leads_keeps P next step z y path (step x z here leads.0) leads.1

pub reached_keeps : {X : Type 0} (P : X → Type 0) (starts : List X) (next : X → List X) → ((x : X) → Contains starts x → P x) → ((x y : X) → P x → Contains (next x) y → P y) → (y : X)
    → IsReachedFrom starts next y → P y
reached_keeps P starts next first step y r = leads_keeps P next step r.start y r.path (first r.start r.is_start) r.leads

-- lists with each item once

module _ {X : Type 0} (same : X → X → Bool) (tells : Tells same) where
  -- adding an item that is there, and one that isn't
  pub with_new_cases : (seen : List X) (x : X) → (Contains seen x × (with_new same seen x ≡ seen)) ⊎ ((Contains seen x → ⊥) × (with_new same seen x ≡ seen ++ x ∷ []))
  with_new_cases seen x = elim (new_cases same seen x) [
    | inl old ↦ inl (found_there same tells x seen old.0, old.1)
    | inr new ↦ inr (λ there. let f = there_found same tells x seen there in let none = new.0 in cc, new.1)
  ]

  pub with_new_there : (seen : List X) (x : X) → Contains (with_new same seen x) x
  with_new_there seen x = elim (with_new_cases seen x) [
    | inl old ↦ subst (λ ys. Contains ys x) (sym old.1) old.0
    | inr new ↦ subst (λ ys. Contains ys x) (sym new.1) (Contains-push seen x)
  ]

  -- items are added at the end
  pub added : (seen xs : List X) → (rest : List X) × (fold (with_new same) seen xs ≡ seen ++ rest)
  added seen [] = ([], sym (append-nil seen))
  added seen (x ∷ xs) =
      let here = new_longer same seen x in
      let later = added (with_new same seen x) xs in
      (here.0 ++ later.0, later.1 ∙ (ap (λ ys. ys ++ later.0) here.1 ∙ append_assoc seen here.0 later.0))

  pub added_kept : (seen xs : List X) (y : X) → Contains seen y → Contains (fold (with_new same) seen xs) y
  added_kept seen xs y there = let more = added seen xs in subst (λ ys. Contains ys y) (sym more.1) (Contains-append_left seen more.0 y there)

  pub added_there : (seen xs : List X) (y : X) → Contains xs y → Contains (fold (with_new same) seen xs) y
  added_there seen [] y there = absurd (none_there y there)
  added_there seen (x ∷ xs) y there = elim (there_cases x xs y there) [
    | inl here ↦ added_kept (with_new same seen x) xs y (subst (λ z. Contains (with_new same seen x) z) here (with_new_there seen x))
    | inr later ↦ added_there (with_new same seen x) xs y later
  ]

  pub added_differ : (seen xs : List X) → AllPairs (λ x y. x ≢ y) seen → AllPairs (λ x y. x ≢ y) (fold (with_new same) seen xs)
  added_differ seen [] differ = differ
  added_differ seen (x ∷ xs) differ = added_differ (with_new same seen x) xs (elim (with_new_cases seen x) [
    | inl old ↦ subst (AllPairs (λ x y. x ≢ y)) (sym old.1) differ
    | inr new ↦ subst (AllPairs (λ x y. x ≢ y)) (sym new.1) (all_pairs_push (λ x y. x ≢ y) seen x differ (λ k d within e. new.0 (subst (λ z. Contains seen z) e (Contains-get_or seen k d within))))
  ])

  pub added_each : (P : X → Type 0) (seen xs : List X) → All P seen → All P xs → All P (fold (with_new same) seen xs)
  added_each P seen [] old new = old
  added_each P seen (x ∷ xs) old new = added_each P (with_new same seen x) xs (new_all P same seen x old (new 0 x (omega arith))) (λ k d within. new (suc k) d (omega (arith, within)))

  pub once_differ : (xs : List X) → AllPairs (λ x y. x ≢ y) (once same xs)
  once_differ xs = added_differ [] xs (λ i j d l m. absurd (omega (arith, m)))

  pub once_append : (xs ys : List X) → (rest : List X) × (once same (xs ++ ys) ≡ once same xs ++ rest)
  once_append xs ys =
      let more = added (once same xs) ys in
      (more.0, fold-append (with_new same) [] xs ys ∙ more.1)

  module _ (starts : List X) (next : X → List X) where
    abbrev Listed : List X → Type 0
    Listed = IsBreadthFirst same starts next

    pub listed_differ : (list : List X) → Listed list → AllPairs (λ x y. x ≢ y) list
    listed_differ list is = subst (AllPairs (λ x y. x ≢ y)) (sym is.in_turn) (once_differ (starts ++ flat_map next list))

    pub start_listed : (list : List X) → Listed list → (x : X) → Contains starts x → Contains list x
    start_listed list is x there = subst (λ ys. Contains ys x) (sym is.in_turn) (added_there [] (starts ++ flat_map next list) x (Contains-append_left starts (flat_map next list) x there))

    pub next_listed : (list : List X) → Listed list → (x y : X) → Contains list x → Contains (next x) y → Contains list y
    next_listed list is x y outer inner = subst (λ ys. Contains ys y) (sym is.in_turn)
        (added_there [] (starts ++ flat_map next list) y (Contains-append_right starts (flat_map next list) y (there_flat_map next list x y outer inner)))

    -- the list has exactly what is reached
    pub listed_exactly : (list : List X) → Listed list → (y : X) → Contains list y ↔ IsReachedFrom starts next y
    listed_exactly list is y = (
      All-contains (IsReachedFrom starts next) list y is.reached,
      reached_keeps (λ x. Contains list x) starts next (start_listed list is) (next_listed list is) y,
    )

    -- the starts and the successors of the first items of the list, each once
    abbrev front : ℕ → List X → List X
    front k list = once same (starts ++ flat_map next (take k list))

    front_begins : (list : List X) → Listed list → (k : ℕ) → (rest : List X) × (list ≡ front k list ++ rest)
    front_begins list is k =
        let whole : starts ++ flat_map next list ≡ (starts ++ flat_map next (take k list)) ++ flat_map next (drop k list) =
        ap (λ ys. starts ++ flat_map next ys) (sym (take-append-drop k list))
        ∙ (ap (λ ys. starts ++ ys) (flat_map-append next (take k list) (drop k list)) ∙ sym (append_assoc starts (flat_map next (take k list)) (flat_map next (drop k list)))) in
        let more = once_append (starts ++ flat_map next (take k list)) (flat_map next (drop k list)) in
        (more.0, is.in_turn ∙ (ap (once same) whole ∙ more.1))

    -- for fewer items than all of the list, these are more than the items
    front_longer : (list : List X) → Listed list → (k : ℕ) → k < length list → k < length (front k list)
    front_longer list is k more = elim (cases_lt k (length (front k list))) [
      | inl less ↦ less
      | inr short ↦ absurd (stuck short)
    ]
      where
        inside : (short : length (front k list) ≤ k) (x : X) → Contains (front k list) x → Contains (take k list) x
        inside short x there =
            let begins = front_begins list is k in
            let same_front : take (length (front k list)) list ≡ front k list = ap (take (length (front k list))) begins.1
            ∙ (take-append-le (length (front k list)) (front k list) begins.0 (omega arith) ∙ take_all (length (front k list)) (front k list) (omega arith)) in
            let at : get_or (take k list) there.0 x ≡ x = get_or-take k list there.0 x (omega (arith, there.1, short))
            ∙ (sym (get_or-take (length (front k list)) list there.0 x there.1) ∙ (ap (λ ys. get_or ys there.0 x) same_front ∙ there.2)) in
            (there.0, omega (arith, there.1, short, more, length-take-le k list (omega arith)), at)

        closed : (short : length (front k list) ≤ k) (y : X) → IsReachedFrom starts next y → Contains (take k list) y
        closed short = reached_keeps (λ x. Contains (take k list) x) starts next
            (λ x there. inside short x (added_there [] (starts ++ flat_map next (take k list)) x (Contains-append_left starts (flat_map next (take k list)) x there)))
            (λ x y outer inner. inside short y (added_there [] (starts ++ flat_map next (take k list)) y
            (Contains-append_right starts (flat_map next (take k list)) y (there_flat_map next (take k list) x y outer inner))))

        stuck : length (front k list) ≤ k → ⊥
        stuck short =
            let item = item_at list k more in
            let again = closed short item.0 (subst (IsReachedFrom starts next) item.1 (is.reached k item.0 more)) in
            let early : again.0 < k = omega (arith, again.1, length-take-le k list (omega arith)) in
            listed_differ list is again.0 k item.0 early more (sym (get_or-take k list again.0 item.0 early) ∙ (again.2 ∙ sym item.1))

    agree : (list other : List X) → Listed list → Listed other → (k : ℕ) → k ≤ length list → (k ≤ length other) × (take k list ≡ take k other)
    agree list other is also zero within = (omega arith, refl)
    agree list other is also (suc k) within =
        let before = agree list other is also k (omega (arith, within)) in
        let same_front : front k list ≡ front k other = ap (λ ys. once same (starts ++ flat_map next ys)) before.1 in
        let long = front_longer list is k within in
        let long_too : k < length (front k other) = omega (arith, long, ap length same_front) in
        let one = front_begins list is k in
        let two = front_begins other also k in (
          omega (arith, long_too, ap length two.1, length-append (front k other) two.0),
          ap (take (suc k)) one.1 ∙ (take-append-le (suc k) (front k list) one.0 long
              ∙ (ap (take (suc k)) same_front ∙ (sym (take-append-le (suc k) (front k other) two.0 long_too) ∙ sym (ap (take (suc k)) two.1)))),
        )

    -- the list is unique
    pub listed_once : (list other : List X) → Listed list → Listed other → list ≡ other
    listed_once list other is also =
        let there = agree list other is also (length list) (omega arith) in
        let back = agree other list also is (length other) (omega arith) in
        sym (take_all (length list) list (omega arith)) ∙ (there.1 ∙ take_all (length list) other back.0)

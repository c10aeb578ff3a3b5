-- What has been found is the classes.
use Rattle.std.proofs.Common.{◌≡◌, ℕ, zero, suc, ◌≤◌, ◌∙◌, Bool, true, false, not, ◌&&◌, List, [], ◌∷◌, length, map, All, Some, slice_get, sym, refl, ap}
use Rattle.std.proofs.lemmas.Bool.{false≢true}
use Rattle.std.proofs.lemmas.List.Elements.{All-from_recursion}
use Rattle.std.proofs.lemmas.Option.{none-some, same_Some}
use Rattle.std.specs.List.{AllByRecursion, list_all}
use Rattle.aut_base.proofs.order.Ordered.{Pairs}
use Rattle.aut_base.specs.Valuation.{IsLeast, holds_in, truth_on}
use Rattle.label_guards.specs.declared.guard.Guard.{Guard}
use Rattle.label_guards.specs.ClassParts.{IsAlikeness, IsFirst, Test}
use Rattle.label_guards.specs.Classes.{AreClasses, IsBefore, IsSatisfiable, agree}
use Rattle.label_guards.specs.Guards.{truth_in}
use Rattle.label_guards.specs.Nodes.{Grows, IsReducedDiagram}
use Rattle.label_guards.specs.Store.{Store, Has, label_in}
use Rattle.label_guards.proofs.alike.ClassParts.{joined, turned}
use Rattle.label_guards.proofs.alike.Firsts.{IsEarlier}
use Rattle.label_guards.proofs.alike.FoundClasses.{AreAllFound, AreFound, agree_alike, agree_is, alike_agree, all_pairs}
use Rattle.label_guards.proofs.labelled.LabelTruth.{keeps, truth_is}

-- where a test holds of an item of a list
pub met_at : {X : Type 0} (f : X → Bool) (xs : List X) (i : ℕ) → slice_get (map f xs) i ≡ Some true → (x : X) × (slice_get xs i ≡ Some x) × (f x ≡ true)
met_at f [] i h = absurd (none-some true h)
met_at f (x ∷ xs) zero h = (x, refl, same_Some (f x) true h)
met_at f (x ∷ xs) (suc i) h = met_at f xs i h

some_met : {X : Type 0} (f : X → Bool) (xs : List X) → list_all (λ x. not (f x)) xs ≡ false → (i : ℕ) × (slice_get (map f xs) i ≡ Some true)
some_met f [] h = absurd (false≢true (sym h))
some_met f (x ∷ xs) h = this (f x) refl (some_met f xs)
  where
    this : (b : Bool) → f x ≡ b → (list_all (λ y. not (f y)) xs ≡ false → (i : ℕ) × (slice_get (map f xs) i ≡ Some true)) → (i : ℕ) × (slice_get (map f (x ∷ xs)) i ≡ Some true)
    this true e more = (zero, ap Some e)
    this false e more = let found = more (ap (λ b. not b && list_all (λ y. not (f y)) xs) (sym e) ∙ h) in (suc found.0, found.1)

module _ (alike : Test) (is : IsAlikeness alike) where
  -- those that are alike to two that are alike
  across : (v w on also : ℕ → Bool) → alike v on ≡ true → alike w also ≡ true → alike on also ≡ true → alike v w ≡ true
  across v w on also h k e = is.same w also k v ∙ (sym (is.same on also e v) ∙ h)

  not_later : (v w : List Bool) (vs : List (List Bool)) (i : ℕ) → AllByRecursion (IsEarlier alike v) vs → slice_get vs i ≡ Some w → alike (holds_in v) (holds_in w) ≡ true → ⊥
  not_later v w [] i all h e = none-some w h
  not_later v w (x ∷ vs) zero all h e = false≢true (sym all.0.0 ∙ (ap (λ y. alike (holds_in v) (holds_in y)) (same_Some x w h) ∙ e))
  not_later v w (x ∷ vs) (suc i) all h e = not_later v w vs i all.1 h e

  -- one class, one place
  one_place : (vs : List (List Bool)) → Pairs (IsEarlier alike) vs → (i j : ℕ) (v w : List Bool) → slice_get vs i ≡ Some v → slice_get vs j ≡ Some w → alike (holds_in v) (holds_in w) ≡ true → i ≡ j
  one_place [] pairs i j v w at_i at_j e = absurd (none-some v at_i)
  one_place (x ∷ vs) pairs zero zero v w at_i at_j e = refl
  one_place (x ∷ vs) pairs zero (suc j) v w at_i at_j e = absurd (not_later x w vs j pairs.0 at_j (ap (λ y. alike (holds_in y) (holds_in w)) (same_Some x v at_i) ∙ e))
  one_place (x ∷ vs) pairs (suc i) zero v w at_i at_j e =
      absurd (not_later x v vs i pairs.0 at_i (ap (λ y. alike (holds_in y) (holds_in v)) (same_Some x w at_j) ∙ turned alike is (holds_in v) (holds_in w) e))
  one_place (x ∷ vs) pairs (suc i) (suc j) v w at_i at_j e = ap suc (one_place vs pairs.1 i j v w at_i at_j e)

  -- what the guards found say, by their valuations
  module _ (s : Store) (reduced : IsReducedDiagram s.names s.nodes) where
    truth_found : (v : List Bool) (c : Guard) → AreFound s alike (v ∷ []) (c ∷ []) → (on : ℕ → Bool) → truth_in s c on ≡ alike (holds_in v) on
    truth_found v c found on = truth_is s reduced c found.0.has on ∙ found.0.truth on

    truths : (vs : List (List Bool)) (cs : List Guard) → AreFound s alike vs cs → (on : ℕ → Bool) → map (λ c. truth_in s c on) cs ≡ map (λ v. alike (holds_in v) on) vs
    truths [] [] found on = refl
    truths [] (c ∷ cs) found on = absurd found
    truths (v ∷ vs) [] found on = absurd found
    truths (v ∷ vs) (c ∷ cs) found on = λ i. truth_found v c (found.0, tt) on i ∷ truths vs cs found.1 on i

    found_has : (vs : List (List Bool)) (cs : List Guard) → AreFound s alike vs cs → AllByRecursion (Has s) cs
    found_has [] [] found = tt
    found_has [] (c ∷ cs) found = absurd found
    found_has (v ∷ vs) [] found = absurd found
    found_has (v ∷ vs) (c ∷ cs) found = (found.0.has, found_has vs cs found.1)

    least_found : (v : List Bool) (c : Guard) → IsFirst s.names alike v → AreFound s alike (v ∷ []) (c ∷ []) → IsLeast s.names (truth_on (label_in s c)) v
    least_found v c first found = record {
      size = first.size;
      is_true = truth_found v c found (holds_in v) ∙ is.self (holds_in v);
      least = λ w size h. first.least w size (sym (truth_found v c found (holds_in w)) ∙ h);
    }

    found_met : (vs : List (List Bool)) (cs : List Guard) → AllByRecursion (IsFirst s.names alike) vs → AreFound s alike vs cs → AllByRecursion (IsSatisfiable s) cs
    found_met [] [] first found = tt
    found_met [] (c ∷ cs) first found = absurd found
    found_met (v ∷ vs) [] first found = absurd found
    found_met (v ∷ vs) (c ∷ cs) first found =
        let least = least_found v c first.0 (found.0, tt) in
        (record { valuation = v; size = least.size; truth = least.is_true }, found_met vs cs first.1 found.1)

    before_all : (v : List Bool) (c : Guard) (vs : List (List Bool)) (cs : List Guard) → IsFirst s.names alike v → AreFound s alike (v ∷ []) (c ∷ []) → AllByRecursion (IsEarlier alike v) vs
        → AllByRecursion (IsFirst s.names alike) vs → AreFound s alike vs cs → AllByRecursion (IsBefore s c) cs
    before_all v c [] [] first is_c earlier firsts found = tt
    before_all v c [] (d ∷ cs) first is_c earlier firsts found = absurd found
    before_all v c (w ∷ vs) [] first is_c earlier firsts found = absurd found
    before_all v c (w ∷ vs) (d ∷ cs) first is_c earlier firsts found = (
      record {
        first = v;
        second = w;
        is_first = least_found v c first is_c;
        is_second = least_found w d firsts.0 (found.0, tt);
        less = earlier.0.1;
      },
      before_all v c vs cs first is_c earlier.1 firsts.1 found.1,
    )

    found_ordered : (vs : List (List Bool)) (cs : List Guard) → Pairs (IsEarlier alike) vs → AllByRecursion (IsFirst s.names alike) vs → AreFound s alike vs cs → Pairs (IsBefore s) cs
    found_ordered [] [] pairs firsts found = tt
    found_ordered [] (c ∷ cs) pairs firsts found = absurd found
    found_ordered (v ∷ vs) [] pairs firsts found = absurd found
    found_ordered (v ∷ vs) (c ∷ cs) pairs firsts found = (before_all v c vs cs firsts.0 (found.0, tt) pairs.0 firsts.1 found.1, found_ordered vs cs pairs.1 firsts.1 found.1)

pub are_classes : (old s : Store) → IsReducedDiagram old.names old.nodes → IsReducedDiagram s.names s.nodes → Grows old s → (list classes : List Guard) (most : ℕ) → All (Has old) list
    → AreAllFound s (agree old list) classes → length classes ≤ most → AreClasses s list most classes
are_classes old s was reduced grows list classes most has all few =
    let alike : Test = agree old list in
    let is : IsAlikeness alike = agree_is old list in
    let vs : List (List Bool) = all.valuations in
    let said : (on : ℕ → Bool) → map (λ c. truth_in s c on) classes ≡ map (λ v. alike (holds_in v) on) vs = truths alike is s reduced vs classes all.found in
    record {
      has = All-from_recursion (Has s) classes (found_has alike is s reduced vs classes all.found);
      few = few;
      met = All-from_recursion (IsSatisfiable s) classes (found_met alike is s reduced vs classes all.first all.found);
      every = λ on. let some = some_met (λ v. alike (holds_in v) on) vs (all.every on) in (some.0, ap (λ bs. slice_get bs some.0) (said on) ∙ some.1);
      alike = λ on also i j meets_i meets_j.
          let v = met_at (λ v. alike (holds_in v) on) vs i (ap (λ bs. slice_get bs i) (sym (said on)) ∙ meets_i) in
          let w = met_at (λ v. alike (holds_in v) also) vs j (ap (λ bs. slice_get bs j) (sym (said also)) ∙ meets_j) in (
            (λ e. let same : v.0 ≡ w.0 = same_Some v.0 w.0 (sym v.1 ∙ (ap (slice_get vs) e ∙ w.1)) in
                alike_agree old was s (keeps grows) on also list has (joined alike is (holds_in v.0) on also v.2 (ap (λ x. alike (holds_in x) also) same ∙ w.2))),
            (λ h. one_place alike is vs all.pairs i j v.0 w.0 v.1 w.1 (across alike is (holds_in v.0) (holds_in w.0) on also v.2 w.2 (agree_alike old was s (keeps grows) on also list has h))),
          );
      ordered = all_pairs (IsBefore s) classes (found_ordered alike is s reduced vs classes all.pairs all.first all.found);
    }

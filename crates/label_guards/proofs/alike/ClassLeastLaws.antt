-- Least valuations of classes: there are such, they stand in order, and what are classes are theirs.
use Rattle.std.proofs.Common.{◌≡◌, ◌∙◌, ◌⊎◌, ◌+◌, ◌^◌, ◌<◌, ◌≤◌, ◌&&◌, ℕ, zero, suc, Bool, true, false, cond, not, List, [], ◌∷◌, Contains, Some, ap, arith, filter, get_or, inl, inr}
use Rattle.std.proofs.Common.{length, map, nat_lt, refl, slice_get, subst, sym}
use Rattle.std.proofs.Math.Decide.{dec_lt}
use Rattle.std.proofs.lemmas.Bool.{and_parts, cases_lt, false≢true, lt-ltb, ltb-true, true≢false}
use Rattle.std.proofs.lemmas.List.Elements.{All-from_recursion, recursion_from_All}
use Rattle.std.proofs.lemmas.Option.{get_or_from_slice_get, none-some, same_Some, slice_get-get_or, slice_get_within}
use Rattle.std.specs.Bool.{beq}
use Rattle.std.specs.List.{AllByRecursion, AllZip, list_any}
use Rattle.indexmap.proofs.IndexTableLemmas.Probe.{pigeonhole}
use Rattle.aut_base.proofs.lists.AllByRecursion.{AllByRecursion-filter}
use Rattle.aut_base.proofs.canonical.LabelExamples.{in_order}
use Rattle.aut_base.proofs.lists.ListTests.{zip_left, zip_right}
use Rattle.aut_base.proofs.lists.Members.{any_found, any_from, each_from, each_is, first_there, from_filter, from_map, later_there, none_there, placed_there, read_has, there_at, there_cases}
use Rattle.aut_base.proofs.lists.Members.{there_filter, there_map, there_range_zero}
use Rattle.aut_base.proofs.order.Ordered.{Pairs, pairs_from, pairs_unmap, range_rises}
use Rattle.aut_base.proofs.numbers.Truth.{same_truth}
use Rattle.aut_base.proofs.canonical.ValuationLists.{each_size, same_test, test_same}
use Rattle.aut_base.specs.Label.{LabelTree, truth}
use Rattle.aut_base.specs.Valuation.{IsLeast, holds_in, number_of, truth_on, valuations}
use Rattle.label_guards.specs.declared.guard.Guard.{Guard}
use Rattle.label_guards.specs.ClassLeasts.{AreClassesAtLeasts, ClassesByLeasts, MoreClassesByLeasts, are_alike, class_leasts, is_least_alike, labels_in}
use Rattle.label_guards.specs.Classes.{AreAlike, AreClasses, HasMoreLetterClasses, IsBefore, IsSatisfiable, MeetsAt}
use Rattle.label_guards.specs.Guards.{truth_in}
use Rattle.label_guards.specs.Store.{Store, label_in}
use Rattle.label_guards.proofs.alike.ClassGuards.{met_at}
use Rattle.label_guards.proofs.valuations.Valuations.{number_bound, same_valuation}

-- the one valuation has a lesser number
abbrev pub Less : List Bool → List Bool → Type 0
Less v w = number_of v < number_of w

pairs_kept : {X : Type 0} (R : X → X → Type 0) (p : X → Bool) (xs : List X) → Pairs R xs → Pairs R (filter p xs)
pairs_kept R p [] h = tt
pairs_kept {X = X} R p (x ∷ xs) h = by_cases (p x) (pairs_kept R p xs h.1)
  where
    by_cases : (b : Bool) → Pairs R (filter p xs) → Pairs R (cond b (x ∷ filter p xs) (filter p xs))
    by_cases true rest = (AllByRecursion-filter (R x) p xs h.0, rest)
    by_cases false rest = rest

each_passed : {X : Type 0} (P : X → Type 0) (xs : List X) (x : X) → AllByRecursion P xs → Contains xs x → P x
each_passed P xs x all there = read_has P xs there.0 x (All-from_recursion P xs all) there.1 (sym there.2)

pairs_at : {X : Type 0} (R : X → X → Type 0) (xs : List X) (i j : ℕ) (x y : X) → Pairs R xs → slice_get xs i ≡ Some x → slice_get xs j ≡ Some y → i < j → R x y
pairs_at R [] i j x y h at there less = absurd (none-some x at)
pairs_at R (z ∷ xs) zero zero x y h at there less = absurd (omega (arith, less))
pairs_at R (z ∷ xs) zero (suc j) x y h at there less = subst (λ w. R w y) (same_Some z x at) (each_passed (R z) xs y h.0 (placed_there xs j y there))
pairs_at R (z ∷ xs) (suc i) zero x y h at there less = absurd (omega (arith, less))
pairs_at R (z ∷ xs) (suc i) (suc j) x y h at there less = pairs_at R xs i j x y h.1 at there (omega (arith, less))

valuations_rise : (n : ℕ) → Pairs Less (valuations n)
valuations_rise n = pairs_unmap (λ a b. a < b) number_of (valuations n) (subst (Pairs (λ a b. a < b)) (sym (in_order n)) (range_rises 0 (2 ^ n)))

-- the list has all valuations of n propositions
pub valuation_there : (n : ℕ) (v : List Bool) → length v ≡ n → Contains (valuations n) v
valuation_there n v size =
    let small : number_of v < 2 ^ n = subst (λ (m : ℕ). number_of v < 2 ^ m) size (number_bound v) in
    let in_range : Contains (map number_of (valuations n)) (number_of v) = subst (λ (xs : List ℕ). Contains xs (number_of v)) (sym (in_order n)) (there_range_zero (2 ^ n) (number_of v) small) in
    let found = from_map number_of (valuations n) (number_of v) in_range in
    subst (Contains (valuations n)) (same_valuation found.0 v (each_size n found.0 found.1 ∙ sym size) found.2) found.1

-- the first of a rising list that passes is the least
abbrev LeastAmong : (List Bool → Bool) → List (List Bool) → Type 0
LeastAmong g vs = (w : List Bool) × Contains vs w × (g w ≡ true) × ((u : List Bool) → Contains vs u → g u ≡ true → number_of w ≤ number_of u)

least_among : (g : List Bool → Bool) (vs : List (List Bool)) → Pairs Less vs → (v : List Bool) → Contains vs v → g v ≡ true → LeastAmong g vs
least_among g [] rise v there e = absurd (none_there v there)
least_among g (x ∷ xs) rise v there e = by_cases (g x) refl (λ later. least_among g xs rise.1 v later e)
  where
    fails : (u : List Bool) → x ≡ u → g x ≡ false → g u ≡ true → ⊥
    fails u same is f = true≢false (sym f ∙ (ap g (sym same) ∙ is))

    first : (u : List Bool) → (x ≡ u) ⊎ Contains xs u → number_of x ≤ number_of u
    first u (inl same) = let n : number_of x ≡ number_of u = ap number_of same in omega (arith, n)
    first u (inr later) = let less = each_passed (Less x) xs u rise.0 later in omega (arith, less)

    second : (r : LeastAmong g xs) → g x ≡ false → (u : List Bool) → g u ≡ true → (x ≡ u) ⊎ Contains xs u → number_of r.0 ≤ number_of u
    second r is u f (inl same) = absurd (fails u same is f)
    second r is u f (inr later) = r.3 u later f

    by_cases : (b : Bool) → g x ≡ b → (Contains xs v → LeastAmong g xs) → LeastAmong g (x ∷ xs)
    by_cases true is rest = (x, first_there x xs, is, λ u at f. first u (there_cases x xs u at))
    by_cases false is rest = elim (there_cases x xs v there) [
      | inl same ↦ absurd (fails v same is e)
      | inr later ↦ (let r = rest later in (r.0, later_there x xs r.0 r.1, r.2, λ u at f. second r is u f (there_cases x xs u at)))
    ]

-- what some valuation passes has a least one
pub least_there : (n : ℕ) (g : List Bool → Bool) (v : List Bool) → length v ≡ n → g v ≡ true → (w : List Bool) × IsLeast n g w
least_there n g v size e =
    let r = least_among g (valuations n) (valuations_rise n) v (valuation_there n v size) e in
    (r.0, record { size = each_size n r.0 r.1; is_true = r.2; least = λ u long f. r.3 u (valuation_there n u long) f })

pub least_is_one : (n : ℕ) (g : List Bool → Bool) (v w : List Bool) → IsLeast n g v → IsLeast n g w → v ≡ w
least_is_one n g v w a b =
    let p = a.least w b.size b.is_true in
    let q = b.least v a.size a.is_true in
    same_valuation v w (a.size ∙ sym b.size) (omega (arith, p, q))

-- rising lists with the same items are the same
rising_same : (xs ys : List (List Bool)) → Pairs Less xs → Pairs Less ys → ((v : List Bool) → Contains xs v → Contains ys v) → ((v : List Bool) → Contains ys v → Contains xs v) → xs ≡ ys
rising_same [] [] p q to from = refl
rising_same [] (y ∷ ys) p q to from = absurd (none_there y (from y (first_there y ys)))
rising_same (x ∷ xs) [] p q to from = absurd (none_there x (to x (first_there x xs)))
rising_same (x ∷ xs) (y ∷ ys) p q to from = λ i. heads i ∷ rising_same xs ys p.1 q.1 to_later from_later i
  where
    below : (v w : List Bool) (vs : List (List Bool)) → AllByRecursion (Less v) vs → Contains vs w → number_of v < number_of w
    below v w vs all there = each_passed (Less v) vs w all there

    heads : x ≡ y
    heads = elim (there_cases y ys x (to x (first_there x xs))) [
      | inl same ↦ sym same
      | inr later ↦ elim (there_cases x xs y (from y (first_there y ys))) [
        | inl same ↦ same
        | inr also ↦ (let a = below y x ys q.0 later in let b = below x y xs p.0 also in absurd (omega (arith, a, b)))
      ]
    ]

    to_later : (v : List Bool) → Contains xs v → Contains ys v
    to_later v there = elim (there_cases y ys v (to v (later_there x xs v there))) [
      | inl same ↦ (let a = below x v xs p.0 there in let n : number_of x ≡ number_of v = ap number_of (heads ∙ same) in absurd (omega (arith, a, n)))
      | inr later ↦ later
    ]

    from_later : (v : List Bool) → Contains ys v → Contains xs v
    from_later v there = elim (there_cases x xs v (from v (later_there y ys v there))) [
      | inl same ↦ (let a = below y v ys q.0 there in let n : number_of y ≡ number_of v = ap number_of (sym heads ∙ same) in absurd (omega (arith, a, n)))
      | inr later ↦ later
    ]

-- alike

pub alike_each : (labels : List LabelTree) (on also : ℕ → Bool) → are_alike labels on also ≡ true → (t : LabelTree) → Contains labels t → truth on t ≡ truth also t
alike_each labels on also h t there = same_test (truth on t) (truth also t) (each_is (λ u. beq (truth on u) (truth also u)) labels t h there)

alike_from : (labels : List LabelTree) (on also : ℕ → Bool) → ((t : LabelTree) → Contains labels t → truth on t ≡ truth also t) → are_alike labels on also ≡ true
alike_from labels on also h = each_from (λ u. beq (truth on u) (truth also u)) labels (λ t there. test_same (truth on t) (truth also t) (h t there))

pub alike_itself : (labels : List LabelTree) (on : ℕ → Bool) → are_alike labels on on ≡ true
alike_itself labels on = alike_from labels on on (λ t there. refl)

pub alike_turned : (labels : List LabelTree) (on also : ℕ → Bool) → are_alike labels on also ≡ true → are_alike labels also on ≡ true
alike_turned labels on also h = alike_from labels also on (λ t there. sym (alike_each labels on also h t there))

pub alike_on : (labels : List LabelTree) (a b c : ℕ → Bool) → are_alike labels a b ≡ true → are_alike labels b c ≡ true → are_alike labels a c ≡ true
alike_on labels a b c h k = alike_from labels a c (λ t there. alike_each labels a b h t there ∙ alike_each labels b c k t there)

module _ (n : ℕ) (labels : List LabelTree) where
  abbrev pub IsLeastAlike : List Bool → Type 0
  IsLeastAlike v = IsLeast n (λ w. are_alike labels (holds_in w) (holds_in v)) v

  abbrev lesser_alike : List Bool → List Bool → Bool
  lesser_alike v w = nat_lt (number_of w) (number_of v) && are_alike labels (holds_in w) (holds_in v)

  not_from : (b : Bool) → not b ≡ true → b ≡ false
  not_from true h = absurd (false≢true h)
  not_from false h = refl

  pub leasts_from : (v : List Bool) → Contains (class_leasts n labels) v → IsLeastAlike v
  leasts_from v there =
      let kept = from_filter (is_least_alike n labels) (valuations n) v there in
      let none : list_any (lesser_alike v) (valuations n) ≡ false = not_from _ kept.1 in
      record {
        size = each_size n v kept.0;
        is_true = alike_itself labels (holds_in v);
        least = λ w size h. elim (cases_lt (number_of w) (number_of v)) [
          | inl less ↦ absurd (true≢false (sym (any_from (lesser_alike v) (valuations n) w (valuation_there n w size) (both _ _ (lt-ltb (number_of w) (number_of v) less) h)) ∙ none))
          | inr more ↦ more
        ];
      }
    where
      both : (a b : Bool) → a ≡ true → b ≡ true → (a && b) ≡ true
      both a b p q = ap (λ c. c && b) p ∙ q

  pub leasts_to : (v : List Bool) → IsLeastAlike v → Contains (class_leasts n labels) v
  leasts_to v is = there_filter (is_least_alike n labels) (valuations n) v (valuation_there n v is.size) (by_cases (list_any (lesser_alike v) (valuations n)) refl)
    where
      by_cases : (b : Bool) → list_any (lesser_alike v) (valuations n) ≡ b → not b ≡ true
      by_cases true e =
          let found = any_found (lesser_alike v) (valuations n) e in
          let parts = and_parts (nat_lt (number_of found.0) (number_of v)) (are_alike labels (holds_in found.0) (holds_in v)) found.2 in
          let less = ltb-true (number_of found.0) (number_of v) parts.0 in
          let more = is.least found.0 (each_size n found.0 found.1) parts.1 in
          absurd (omega (arith, less, more))
      by_cases false e = refl

  pub leasts_rise : Pairs Less (class_leasts n labels)
  leasts_rise = pairs_kept Less (is_least_alike n labels) (valuations n) (valuations_rise n)

  -- each valuation has one that is alike among the least
  pub least_alike : (v : List Bool) → length v ≡ n → (w : List Bool) × Contains (class_leasts n labels) w × (are_alike labels (holds_in w) (holds_in v) ≡ true)
  least_alike v size =
      let found = least_there n (λ w. are_alike labels (holds_in w) (holds_in v)) v size (alike_itself labels (holds_in v)) in
      let w = found.0 in
      let is = found.1 in (
        w,
        leasts_to w (record {
          size = is.size;
          is_true = alike_itself labels (holds_in w);
          least = λ u long h. is.least u long
              (alike_on labels (holds_in u) (holds_in w) (holds_in v) h is.is_true);
        }),
        is.is_true,
      )

  -- those at two places are not alike
  pub leasts_apart : (k j : ℕ) (v w : List Bool) → slice_get (class_leasts n labels) k ≡ Some v → slice_get (class_leasts n labels) j ≡ Some w → k < j
      → are_alike labels (holds_in v) (holds_in w) ≡ true → ⊥
  leasts_apart k j v w at there before h =
      let less = pairs_at Less (class_leasts n labels) k j v w leasts_rise at there before in
      let size = (leasts_from v (placed_there (class_leasts n labels) k v at)).size in
      let more = (leasts_from w (placed_there (class_leasts n labels) j w there)).least v size h in
      omega (arith, less, more)

-- lists side by side

zip_length : {A B : Type 0} (R : A → B → Type 0) (xs : List A) (ys : List B) → AllZip R xs ys → length xs ≡ length ys
zip_length R [] [] all = refl
zip_length R [] (b ∷ ys) all = absurd all
zip_length R (a ∷ xs) [] all = absurd all
zip_length R (a ∷ xs) (b ∷ ys) all = ap suc (zip_length R xs ys all.1)

module _ (s : Store) (list : List Guard) where
  abbrev labels : List LabelTree
  labels = labels_in s list

  -- alike under guards is alike under their labels
  to_labels : (on also : ℕ → Bool) → AreAlike s list on also → are_alike labels on also ≡ true
  to_labels on also h = alike_from labels on also (λ t there.
      let g = from_map (label_in s) list t there in
      ap (truth on) (sym g.2) ∙ (read_has (λ x. truth_in s x on ≡ truth_in s x also) list g.1.0 g.0 h g.1.1 (sym g.1.2) ∙ ap (truth also) g.2))

  from_labels : (on also : ℕ → Bool) → are_alike labels on also ≡ true → AreAlike s list on also
  from_labels on also h k d within = alike_each labels on also h (label_in s (get_or list k d)) (there_map (label_in s) list (get_or list k d) (at_place list k d within))
    where
      at_place : (xs : List Guard) (k : ℕ) (d : Guard) → k < length xs → Contains xs (get_or xs k d)
      at_place xs k d within = placed_there xs k (get_or xs k d) (slice_get-get_or xs k d within)

  abbrev IsLeastOf : Guard → List Bool → Type 0
  IsLeastOf g w = IsLeast s.names (truth_on (label_in s g)) w

  guard_leasts : (gs : List Guard) → AllByRecursion (IsSatisfiable s) gs → (ws : List (List Bool)) × AllZip IsLeastOf gs ws
  guard_leasts [] all = ([], tt)
  guard_leasts (g ∷ gs) all =
      let here = least_there s.names (truth_on (label_in s g)) all.0.valuation all.0.size all.0.truth in
      let rest = guard_leasts gs all.1 in
      (here.0 ∷ rest.0, (here.1, rest.1))

  before_all : (g : Guard) (w : List Bool) → IsLeastOf g w → (gs : List Guard) (ws : List (List Bool)) → AllZip IsLeastOf gs ws → AllByRecursion (IsBefore s g) gs → AllByRecursion (Less w) ws
  before_all g w is [] [] zip all = tt
  before_all g w is [] (x ∷ ws) zip all = absurd zip
  before_all g w is (h ∷ gs) [] zip all = absurd zip
  before_all g w is (h ∷ gs) (x ∷ ws) zip all =
      let b = all.0 in
      let p : number_of b.first ≡ number_of w = ap number_of (least_is_one s.names (truth_on (label_in s g)) b.first w b.is_first is) in
      let q : number_of b.second ≡ number_of x = ap number_of (least_is_one s.names (truth_on (label_in s h)) b.second x b.is_second zip.0) in
      (omega (arith, b.less, p, q), before_all g w is gs ws zip.1 all.1)

  leasts_in_order : (gs : List Guard) (ws : List (List Bool)) → AllZip IsLeastOf gs ws → Pairs (IsBefore s) gs → Pairs Less ws
  leasts_in_order [] [] zip pairs = tt
  leasts_in_order [] (w ∷ ws) zip pairs = absurd zip
  leasts_in_order (g ∷ gs) [] zip pairs = absurd zip
  leasts_in_order (g ∷ gs) (w ∷ ws) zip pairs = (before_all g w zip.0 gs ws zip.1 pairs.0, leasts_in_order gs ws zip.1 pairs.1)

  module _ (most : ℕ) (classes : List Guard) (are : AreClasses s list most classes) where
    meets_at : (on : ℕ → Bool) (k : ℕ) (g : Guard) → slice_get classes k ≡ Some g → truth_in s g on ≡ true → MeetsAt s classes on k
    meets_at on k g at e = there classes k at
      where
        there : (gs : List Guard) (i : ℕ) → slice_get gs i ≡ Some g → slice_get (map (λ x. truth_in s x on) gs) i ≡ Some true
        there [] i is = absurd (none-some g is)
        there (x ∷ gs) zero is = ap Some (ap (λ y. truth_in s y on) (same_Some x g is) ∙ e)
        there (x ∷ gs) (suc i) is = there gs i is

    true_at : (on : ℕ → Bool) (k : ℕ) (g : Guard) → slice_get classes k ≡ Some g → MeetsAt s classes on k → truth_in s g on ≡ true
    true_at on k g at meets =
        let found = met_at (λ x. truth_in s x on) classes k meets in
        subst (λ x. truth_in s x on ≡ true) (same_Some found.0 g (sym found.1 ∙ at)) found.2

    -- what is alike to a valuation of a class is in that class, and what is in it is alike
    in_class : (on also : ℕ → Bool) (k : ℕ) (g : Guard) → slice_get classes k ≡ Some g → truth_in s g on ≡ true → are_alike labels on also ≡ true → truth_in s g also ≡ true
    in_class on also k g at e h =
        let other = are.every also in
        let same : k ≡ other.0 = (are.alike on also k other.0 (meets_at on k g at e) other.1).1 (from_labels on also h) in
        true_at also k g at (subst (MeetsAt s classes also) (sym same) other.1)

    class_alike : (on also : ℕ → Bool) (k : ℕ) (g : Guard) → slice_get classes k ≡ Some g → truth_in s g on ≡ true → truth_in s g also ≡ true → are_alike labels on also ≡ true
    class_alike on also k g at e f = to_labels on also ((are.alike on also k k (meets_at on k g at e) (meets_at also k g at f)).0 refl)

    abbrev found : (ws : List (List Bool)) × AllZip IsLeastOf classes ws
    found = guard_leasts classes (recursion_from_All (IsSatisfiable s) classes are.met)

    is_class_least : (w : List Bool) → Contains found.0 w → Contains (class_leasts s.names labels) w
    is_class_least w there =
        let at = there_at found.0 w there in
        let g = zip_right IsLeastOf classes found.0 at.0 w found.1 at.1 in
        leasts_to s.names labels w (record {
          size = g.2.size;
          is_true = alike_itself labels (holds_in w);
          least = λ u size h. g.2.least u size
              (in_class (holds_in w) (holds_in u) at.0 g.0 g.1 g.2.is_true (alike_turned labels (holds_in u) (holds_in w) h));
        })

    is_guard_least : (v : List Bool) → Contains (class_leasts s.names labels) v → Contains found.0 v
    is_guard_least v there =
        let is = leasts_from s.names labels v there in
        let at = are.every (holds_in v) in
        let g = met_at (λ x. truth_in s x (holds_in v)) classes at.0 at.1 in
        let w = zip_left IsLeastOf classes found.0 at.0 g.0 found.1 g.1 in
        let below = w.2.least v is.size g.2 in
        let above = is.least w.0 w.2.size (class_alike (holds_in w.0) (holds_in v) at.0 g.0 g.1 w.2.is_true g.2) in
        let same : w.0 ≡ v = same_valuation w.0 v (w.2.size ∙ sym is.size) (omega (arith, below, above)) in
        subst (Contains found.0) same (placed_there found.0 at.0 w.0 w.1)

    leasts_are : found.0 ≡ class_leasts s.names labels
    leasts_are = rising_same found.0 (class_leasts s.names labels) (leasts_in_order classes found.0 found.1 (pairs_from (IsBefore s) classes are.ordered)) (leasts_rise s.names labels)
        is_class_least is_guard_least

    least_at : (k : ℕ) (g : Guard) (v : List Bool) → slice_get classes k ≡ Some g → slice_get (class_leasts s.names labels) k ≡ Some v → IsLeastOf g v
    least_at k g v at there =
        let w = zip_left IsLeastOf classes found.0 k g found.1 at in
        subst (IsLeastOf g) (same_Some w.0 v (sym w.1 ∙ (ap (λ (xs : List (List Bool)). slice_get xs k) leasts_are ∙ there))) w.2

    pub by_leasts : AreClassesAtLeasts s list classes
    by_leasts = record {
      count = zip_length IsLeastOf classes found.0 found.1 ∙ ap length leasts_are;
      least = least_at;
      truth = λ k g v at there on. same_truth (truth_in s g on) (are_alike labels (holds_in v) on)
          (λ e. class_alike (holds_in v) on k g at (least_at k g v at there).is_true e)
          (λ h. in_class (holds_in v) on k g at (least_at k g v at there).is_true h);
    }

  -- the place of the least valuation that is alike
  abbrev HasPlaceOf : List Bool → ℕ → Type 0
  HasPlaceOf v p = (w : List Bool) × (slice_get (class_leasts s.names labels) p ≡ Some w) × (are_alike labels (holds_in w) (holds_in v) ≡ true)

  places_of : (vs : List (List Bool)) → AllByRecursion (λ v. length v ≡ s.names) vs → (ps : List ℕ) × AllZip HasPlaceOf vs ps
  places_of [] all = ([], tt)
  places_of (v ∷ vs) all =
      let w = least_alike s.names labels v all.0 in
      let at = there_at (class_leasts s.names labels) w.0 w.1 in
      let rest = places_of vs all.1 in
      (at.0 ∷ rest.0, ((w.0, at.1, w.2), rest.1))

  pub more_by_leasts : (most : ℕ) → HasMoreLetterClasses s list most → most < length (class_leasts s.names labels)
  more_by_leasts most more = omega (arith, many)
    where
      vs : List (List Bool)
      vs = more.valuations

      ps : (xs : List ℕ) × AllZip HasPlaceOf more.valuations xs
      ps = places_of more.valuations (recursion_from_All (λ v. length v ≡ s.names) more.valuations more.sizes)

      f : ℕ → ℕ
      f i = get_or ps.0 i 0

      placed : (i : ℕ) → i < most + 1 → HasPlaceOf (get_or more.valuations i []) (f i)
      placed i less =
          let within : i < length more.valuations = omega (arith, less, more.count) in
          let p = zip_left HasPlaceOf more.valuations ps.0 i (get_or more.valuations i []) ps.1 (slice_get-get_or more.valuations i [] within) in
          subst (HasPlaceOf (get_or more.valuations i [])) (sym (get_or_from_slice_get ps.0 i p.0 0 p.1)) p.2

      into : (i : ℕ) → i < most + 1 → f i < length (class_leasts s.names labels)
      into i less = let p = placed i less in slice_get_within (class_leasts s.names labels) (f i) p.0 p.1

      alike : (i j : ℕ) → i < most + 1 → j < most + 1 → f i ≡ f j → AreAlike s list (holds_in (get_or more.valuations i [])) (holds_in (get_or more.valuations j []))
      alike i j p q e =
          let a = placed i p in
          let b = placed j q in
          let same : a.0 ≡ b.0 = same_Some a.0 b.0 (sym a.1 ∙ (ap (slice_get (class_leasts s.names labels)) e ∙ b.1)) in
          let first = alike_turned labels (holds_in a.0) (holds_in (get_or more.valuations i [])) a.2 in
          let second = subst (λ (w : List Bool). are_alike labels (holds_in w) (holds_in (get_or more.valuations j [])) ≡ true) (sym same) b.2 in
          from_labels _ _ (alike_on labels _ (holds_in a.0) _ first second)

      one : (i j : ℕ) → i < most + 1 → j < most + 1 → f i ≡ f j → i ≡ j
      one i j p q e = elim (dec_lt i j) [
        | yes r ↦ absurd (more.differ i j [] r (omega (arith, q, more.count)) (alike i j p q e))
        | no r ↦ elim (dec_lt j i) [
          | yes t ↦ absurd (more.differ j i [] t (omega (arith, p, more.count)) (alike j i q p (sym e)))
          | no t ↦ omega arith
        ]
      ]

      many : most + 1 ≤ length (class_leasts s.names labels)
      many = pigeonhole (most + 1) (length (class_leasts s.names labels)) f into one

pub classes_by_leasts : ClassesByLeasts
classes_by_leasts s list most classes are = by_leasts s list most classes are

pub more_classes_by_leasts : MoreClassesByLeasts
more_classes_by_leasts s list most more = more_by_leasts s list most more

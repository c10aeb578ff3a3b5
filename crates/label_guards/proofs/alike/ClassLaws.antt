-- What holds of the classes under a list of guards.
use Rattle.std.proofs.Common.{◌≡◌, ◌⊎◌, ℕ, zero, suc, ◌+◌, ◌<◌, ◌≤◌, ◌∙◌, Bool, true, false, List, [], ◌∷◌, length, map, All, Some, slice_get, get_or}
use Rattle.std.proofs.Common.{option_map, inl, inr, refl, sym, ap, subst, arith}
use Rattle.std.proofs.Math.Decide.{dec_lt}
use Rattle.std.proofs.lemmas.List.{length-map}
use Rattle.std.proofs.lemmas.List.Elements.{All-from_recursion}
use Rattle.std.proofs.lemmas.Option.{get_or_from_slice_get, none-some, same_Some, slice_get-map, slice_get_within}
use Rattle.std.specs.Cmp.{both_ways}
use Rattle.std.specs.List.{AllByRecursion}
use Rattle.indexmap.proofs.IndexTableLemmas.Probe.{pigeonhole}
use Rattle.aut_base.proofs.lists.AllByRecursion.{AllByRecursion-map}
use Rattle.aut_base.proofs.canonical.CanonicalTruth.{label_of-same, truth_on-label_of}
use Rattle.aut_base.proofs.order.Ordered.{Pairs, pairs_from, pairs_weaker}
use Rattle.aut_base.specs.Label.{LabelTree, truth}
use Rattle.aut_base.specs.Valuation.{IsLeast, holds_in, number_of, truth_on}
use Rattle.label_guards.specs.declared.guard.Guard.{Guard}
use Rattle.label_guards.specs.Classes.{AreAlike, AreClasses, IsBefore, IsSatisfiable, MeetsAt, ClassesExcludeMore, OneClassUnderNone, ClassesAreDetermined}
use Rattle.label_guards.specs.Guards.{truth_in}
use Rattle.label_guards.specs.Store.{Store, Has, Keeps, label_at, label_in, outcome}
use Rattle.label_guards.proofs.alike.ClassGuards.{met_at}

-- alike in the later store is alike in the earlier one
alike_before : {old new : Store} → Keeps old new → (list : List Guard) → All (Has old) list → (on also : ℕ → Bool) → AreAlike new list on also → AreAlike old list on also
alike_before kept list has on also alike = λ k d within.
    let same = kept.labels (get_or list k d) (has k d within) in
    ap (truth on) (sym same) ∙ (alike k d within ∙ ap (truth also) same)

alike_turned : (s : Store) (list : List Guard) (on also : ℕ → Bool) → AreAlike s list on also → AreAlike s list also on
alike_turned s list on also alike = λ k d within. sym (alike k d within)

pub classes_exclude_more : ClassesExcludeMore
classes_exclude_more old new list most classes kept has are more =
    let v : ℕ → ℕ → Bool = λ i. holds_in (get_or more.valuations i []) in
    let f : ℕ → ℕ = λ i. (are.every (v i)).0 in
    let count = more.count in
    let within : (i : ℕ) → f i < length classes = λ i.
    let inside = slice_get_within (map (λ g. truth_in new g (v i)) classes) (f i) true (are.every (v i)).1 in
    let same : length (map (λ g. truth_in new g (v i)) classes) ≡ length classes = length-map classes (λ g. truth_in new g (v i)) in
    omega arith in
    let alike : (i j : ℕ) → f i ≡ f j → AreAlike old list (v i) (v j) = λ i j e.
    alike_before kept list has (v i) (v j) ((are.alike (v i) (v j) (f i) (f j) (are.every (v i)).1 (are.every (v j)).1).0 e) in
    let one : (i j : ℕ) → i < most + 1 → j < most + 1 → f i ≡ f j → i ≡ j = λ i j p q e. elim (dec_lt i j) [
      | yes r ↦ absurd (more.differ i j [] r (omega arith) (alike i j e))
      | no r ↦ elim (dec_lt j i) [
        | yes t ↦ absurd (more.differ j i [] t (omega arith) (alike_turned old list (v i) (v j) (alike i j e)))
        | no t ↦ omega arith
      ]
    ] in
    let many : most + 1 ≤ length classes = pigeonhole (most + 1) (length classes) f (λ i p. within i) one in
    let few = are.few in
    omega arith

one_under_none : (s : Store) (most : ℕ) (classes : List Guard) → AreClasses s [] most classes → (length classes ≡ 1) × All (λ g. (on : ℕ → Bool) → truth_in s g on ≡ true) classes
one_under_none s most [] are = absurd (none-some true (are.every (λ i. false)).1)
one_under_none s most (c ∷ []) are = (refl, All-from_recursion (λ g. (on : ℕ → Bool) → truth_in s g on ≡ true) (c ∷ []) ((λ on. first on (are.every on).0 (are.every on).1), tt))
  where
    first : (on : ℕ → Bool) (i : ℕ) → MeetsAt s (c ∷ []) on i → truth_in s c on ≡ true
    first on zero h = same_Some (truth_in s c on) true h
    first on (suc i) h = absurd (none-some true h)
one_under_none s most (c ∷ d ∷ classes) are =
    let before : IsBefore s c d = are.ordered zero (suc zero) c (omega arith) (omega arith) in
    absurd (apart 0 1 (omega arith) ((are.alike (holds_in before.first) (holds_in before.second) 0 1 (ap Some before.is_first.is_true) (ap Some before.is_second.is_true)).1
    (λ k g within. absurd (omega (arith, within)))))
  where
    apart : (i j : ℕ) → i < j → i ≡ j → ⊥
    apart i j less e = omega arith

pub one_class_under_none : OneClassUnderNone
one_class_under_none = one_under_none

-- the least valuation that meets the one label comes before the least that meets the other
abbrev Before : ℕ → LabelTree → LabelTree → Type 0
Before n t u = (v : List Bool) × (w : List Bool) × IsLeast n (truth_on t) v × IsLeast n (truth_on u) w × (number_of v < number_of w)

one_least : (n : ℕ) (g : List Bool → Bool) (v w : List Bool) → IsLeast n g v → IsLeast n g w → number_of v ≡ number_of w
one_least n g v w least also =
    let a = least.least w also.size also.is_true in
    let b = also.least v least.size least.is_true in
    omega arith

not_turned : (n : ℕ) (t u : LabelTree) → Before n t u → Before n u t → ⊥
not_turned n t u h k =
    let a = one_least n (truth_on t) h.0 k.1 h.2 k.3 in
    let b = one_least n (truth_on u) h.1 k.0 h.3 k.2 in
    let c = h.4 in
    let d = k.4 in
    omega arith

abbrev IsIn : LabelTree → List LabelTree → Type 0
IsIn t [] = ⊥
IsIn t (u ∷ us) = (t ≡ u) ⊎ IsIn t us

each_in : (P : LabelTree → Type 0) (t : LabelTree) (us : List LabelTree) → AllByRecursion P us → IsIn t us → P t
each_in P t [] all is = absurd is
each_in P t (u ∷ us) all is = elim is [
  | inl e ↦ subst P (sym e) all.0
  | inr more ↦ each_in P t us all.1 more
]

-- what comes after the first is among the others
others_in : (n : ℕ) (x y : LabelTree) → x ≡ y → (ts ys : List LabelTree) → AllByRecursion (Before n x) ts → AllByRecursion (λ t. IsIn t (y ∷ ys)) ts → AllByRecursion (λ t. IsIn t ys) ts
others_in n x y e [] ys later all = tt
others_in n x y e (t ∷ ts) ys later all = (
  elim all.0 [
    | inl f ↦ let g : t ≡ x = f ∙ sym e in let h : Before n x x = subst (Before n x) g later.0 in absurd (not_turned n x x h h)
    | inr is ↦ is
  ],
  others_in n x y e ts ys later.1 all.1,
)

one_order : (n : ℕ) (xs ys : List LabelTree) → Pairs (Before n) xs → Pairs (Before n) ys → AllByRecursion (λ t. IsIn t ys) xs → AllByRecursion (λ t. IsIn t xs) ys → xs ≡ ys
one_order n [] [] p q a b = refl
one_order n [] (y ∷ ys) p q a b = absurd b.0
one_order n (x ∷ xs) [] p q a b = absurd a.0
one_order n (x ∷ xs) (y ∷ ys) p q a b =
    let e : x ≡ y = elim a.0 [
      | inl f ↦ f
      | inr is ↦ elim b.0 [
        | inl f ↦ sym f
        | inr also ↦ absurd (not_turned n y x (each_in (Before n y) x ys q.0 is) (each_in (Before n x) y xs p.0 also))
      ]
    ] in
    λ i. e i ∷ one_order n xs ys p.1 q.1 (others_in n x y e xs ys p.0 a.1) (others_in n y x (sym e) ys xs q.0 b.1) i

met_from : {X : Type 0} (f : X → Bool) (xs : List X) (i : ℕ) (x : X) → slice_get xs i ≡ Some x → f x ≡ true → slice_get (map f xs) i ≡ Some true
met_from f xs i x at e = slice_get-map f xs i ∙ (ap (option_map f) at ∙ ap Some e)

-- what meets a class of the one list meets the class of the other that it has a valuation in common with
module _ (s : Store) (list : List Guard) where
  passes : (most more : ℕ) (classes others : List Guard) → AreClasses s list most classes → AreClasses s list more others → (i j : ℕ) (c d : Guard) → slice_get classes i ≡ Some c
      → slice_get others j ≡ Some d
      → (v : ℕ → Bool) → truth_in s c v ≡ true → truth_in s d v ≡ true → (on : ℕ → Bool) → truth_in s c on ≡ true → truth_in s d on ≡ true
  passes most more classes others are also i j c d at_i at_j v in_c in_d on h =
      let alike : AreAlike s list v on = (are.alike v on i i (met_from (λ g. truth_in s g v) classes i c at_i in_c) (met_from (λ g. truth_in s g on) classes i c at_i h)).0 refl in
      let there = also.every on in
      let e : j ≡ there.0 = (also.alike v on j there.0 (met_from (λ g. truth_in s g v) others j d at_j in_d) there.1).1 alike in
      let found = met_at (λ g. truth_in s g on) others j (ap (slice_get (map (λ g. truth_in s g on) others)) e ∙ there.1) in
      subst (λ (g : Guard). truth_in s g on ≡ true) (same_Some found.0 d (sym found.1 ∙ at_j)) found.2

  same_label : (c d : Guard) → ((on : ℕ → Bool) → truth_in s c on ≡ truth_in s d on) → label_in s c ≡ label_in s d
  unfolding label_at
  same_label c d same = label_of-same s.names (λ v. outcome s.nodes (holds_in v) c.place) (λ v. outcome s.nodes (holds_in v) d.place) (λ v size.
      sym (truth_on-label_of s.names (λ v. outcome s.nodes (holds_in v) c.place) v size) ∙ (same (holds_in v) ∙ truth_on-label_of s.names (λ v. outcome s.nodes (holds_in v) d.place) v size))

  is_in : (others : List Guard) (j : ℕ) (d : Guard) (t : LabelTree) → slice_get others j ≡ Some d → t ≡ label_in s d → IsIn t (map (label_in s) others)
  is_in [] j d t at e = absurd (none-some d at)
  is_in (g ∷ others) zero d t at e = inl (e ∙ ap (label_in s) (sym (same_Some g d at)))
  is_in (g ∷ others) (suc j) d t at e = inr (is_in others j d t at e)

  each_at : (P : Guard → Type 0) (gs : List Guard) → ((i : ℕ) (g : Guard) → slice_get gs i ≡ Some g → P g) → AllByRecursion P gs
  each_at P [] h = tt
  each_at P (g ∷ gs) h = (h zero g refl, each_at P gs (λ i x at. h (suc i) x at))

  -- each class of the one list is one of the other
  labels_in : (most more : ℕ) (classes others : List Guard) → AreClasses s list most classes → AreClasses s list more others
      → AllByRecursion (λ t. IsIn t (map (label_in s) others)) (map (label_in s) classes)
  labels_in most more classes others are also =
      AllByRecursion-map (λ t. IsIn t (map (label_in s) others)) (label_in s) classes (each_at (λ c. IsIn (label_in s c) (map (label_in s) others)) classes (λ i c at.
      let met : IsSatisfiable s c = subst (IsSatisfiable s) (get_or_from_slice_get classes i c c at) (are.met i c (slice_get_within classes i c at)) in
      let v : ℕ → Bool = holds_in met.valuation in
      let there = also.every v in
      let found = met_at (λ g. truth_in s g v) others there.0 there.1 in
      is_in others there.0 found.0 (label_in s c) found.1 (same_label c found.0 (λ on. both_ways (truth_in s c on) (truth_in s found.0 on)
      (passes most more classes others are also i there.0 c found.0 at found.1 v met.truth found.2 on)
      (passes more most others classes also are there.0 i found.0 c found.1 at v found.2 met.truth on)))))

  pairs_map : {X Y : Type 0} (R : Y → Y → Type 0) (f : X → Y) (xs : List X) → Pairs (λ x y. R (f x) (f y)) xs → Pairs R (map f xs)
  pairs_map R f [] pairs = tt
  pairs_map R f (x ∷ xs) pairs = (AllByRecursion-map (R (f x)) f xs pairs.0, pairs_map R f xs pairs.1)

  in_order : (most : ℕ) (classes : List Guard) → AreClasses s list most classes → Pairs (Before s.names) (map (label_in s) classes)
  in_order most classes are = pairs_map (Before s.names) (label_in s) classes (pairs_weaker (IsBefore s) (λ c d. Before s.names (label_in s c) (label_in s d)) classes
      (λ c d is. (is.first, is.second, is.is_first, is.is_second, is.less)) (pairs_from (IsBefore s) classes are.ordered))

pub classes_are_determined : ClassesAreDetermined
classes_are_determined s list most more classes others are also =
    one_order s.names _ _ (in_order s list most classes are) (in_order s list more others also) (labels_in s list most more classes others are also)
    (labels_in s list more most others classes also are)

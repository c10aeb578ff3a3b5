-- Surviving names, and how they are renumbered.
use Rattle.std.proofs.Common.{◌≡◌, ◌∙◌, ◌+◌, ◌<◌, ◌≤◌, ℕ, zero, suc, All, AllPairs, Bool, true, false, cond, List, []}
use Rattle.std.proofs.Common.{◌∷◌, ◌++◌, Some, ap, arith, filter, inl, inr, length, map, refl, slice_get, slice_index_or, sym}
use Rattle.std.proofs.lemmas.Bool.{cases_Bool, cases_eq, cases_lt, cond-true, cond-false}
use Rattle.std.proofs.lemmas.List.{append-nil, length-append}
use Rattle.std.proofs.lemmas.List.Kept.{AllPairs-cons, AllPairs-filter}
use Rattle.std.proofs.lemmas.List.Elements.{filter-append}
use Rattle.std.proofs.lemmas.Option.{none-some, same_Some}
use Rattle.std.specs.List.{range_with_len}
use Rattle.aut_base.proofs.lists.Lists.{range_more, slice_get-append_left, slice_get-push_last}
use Rattle.aut_base.proofs.lists.Members.{each_there, from_filter, from_range}
use Rattle.safra_trees.specs.inner.Names.{names_where, rank}

-- one name more
pub names_more : (p : ℕ → Bool) (k : ℕ) → names_where p (suc k) ≡ names_where p k ++ cond (p k) (k ∷ []) []
names_more p k =
    let e : suc k ≡ k + 1 = omega arith in
    let z : 0 + k ≡ k = omega arith in
    ap (λ i. filter p (range_with_len 0 i)) e
    ∙ (ap (filter p) (range_more 0 k)
    ∙ (ap (λ i. filter p (range_with_len 0 k ++ i ∷ [])) z
    ∙ filter-append p (range_with_len 0 k) (k ∷ [])))

pub names_kept : (p : ℕ → Bool) (k : ℕ) → p k ≡ true → names_where p (suc k) ≡ names_where p k ++ k ∷ []
names_kept p k is = names_more p k ∙ ap (λ ys. names_where p k ++ ys) (cond-true (p k) (k ∷ []) [] is)

pub names_left : (p : ℕ → Bool) (k : ℕ) → p k ≡ false → names_where p (suc k) ≡ names_where p k
names_left p k is = names_more p k ∙ (ap (λ ys. names_where p k ++ ys) (cond-false (p k) (k ∷ []) [] is) ∙ append-nil (names_where p k))

pub rank_kept : (p : ℕ → Bool) (k : ℕ) → p k ≡ true → rank p (suc k) ≡ suc (rank p k)
rank_kept p k is = ap length (names_kept p k is) ∙ omega (arith, length-append (names_where p k) (k ∷ []))

pub rank_left : (p : ℕ → Bool) (k : ℕ) → p k ≡ false → rank p (suc k) ≡ rank p k
rank_left p k is = ap length (names_left p k is)

pub rank_low : (p : ℕ → Bool) (y : ℕ) → rank p y ≤ y
rank_low p zero = omega arith
rank_low p (suc y) = elim (cases_Bool (p y)) [
  | inl is ↦ omega (arith, rank_kept p y is, rank_low p y)
  | inr isnt ↦ omega (arith, rank_left p y isnt, rank_low p y)
]

-- where all lower names survive, a name keeps its number
pub rank_all : (p : ℕ → Bool) (y : ℕ) → ((f : ℕ) → f < y → p f ≡ true) → rank p y ≡ y
rank_all p zero all = refl
rank_all p (suc y) all = rank_kept p y (all y (omega arith)) ∙ ap suc (rank_all p y (λ f less. all f (omega (arith, less))))

pub rank_whole : (p : ℕ → Bool) (y : ℕ) → rank p y ≡ y → (f : ℕ) → f < y → p f ≡ true
rank_whole p zero same f less = absurd (omega (arith, less))
rank_whole p (suc y) same f less = elim (cases_Bool (p y)) [
  | inl is ↦ (elim (cases_eq f y) [
    | inl last ↦ ap p last ∙ is
    | inr other ↦ rank_whole p y (omega (arith, rank_kept p y is, same)) f (omega (arith, less, other))
  ])
  | inr isnt ↦ absurd (omega (arith, rank_left p y isnt, rank_low p y, same))
]

pub rank_steps : (p : ℕ → Bool) (y : ℕ) → rank p y ≤ rank p (suc y)
rank_steps p y = elim (cases_Bool (p y)) [
  | inl is ↦ omega (arith, rank_kept p y is)
  | inr isnt ↦ omega (arith, rank_left p y isnt)
]

pub rank_rises : (p : ℕ → Bool) (y z : ℕ) → y < z → p y ≡ true → rank p y < rank p z
rank_rises p y zero less is = absurd (omega (arith, less))
rank_rises p y (suc z) less is = elim (cases_eq y z) [
  | inl same ↦ (let one : rank p (suc z) ≡ suc (rank p z) = rank_kept p z (ap p (sym same) ∙ is) in let alike : rank p y ≡ rank p z = ap (rank p) same in omega (arith, one, alike))
  | inr other ↦ omega (arith, rank_rises p y z (omega (arith, less, other)) is, rank_steps p z)
]

-- the node of a surviving name is at the index of its new name
pub rank_at : (p : ℕ → Bool) (y k : ℕ) → y < k → p y ≡ true → slice_get (names_where p k) (rank p y) ≡ Some y
rank_at p y zero less is = absurd (omega (arith, less))
rank_at p y (suc k) less is = elim (cases_eq y k) [
  | inl same ↦ (
      let here : p k ≡ true = ap p (sym same) ∙ is in
      let last : slice_get (names_where p k ++ k ∷ []) (rank p k) ≡ Some k = slice_get-push_last (names_where p k) k (rank p k) refl in
      let alike : rank p y ≡ rank p k = ap (rank p) same in
      ap (λ ys. slice_get ys (rank p y)) (names_kept p k here) ∙ (ap (slice_get (names_where p k ++ k ∷ [])) alike ∙ (last ∙ ap Some (sym same))))
  | inr other ↦ (
      let before = rank_at p y k (omega (arith, less, other)) is in
      ap (λ ys. slice_get ys (rank p y)) (names_more p k)
      ∙ (slice_get-append_left (names_where p k) (cond (p k) (k ∷ []) []) (rank p y) (rank_rises p y k (omega (arith, less, other)) is) ∙ before))
]

-- each new name is that of a surviving name
pub record Named (p : ℕ → Bool) (k i : ℕ) : Type 0 where
  pub name : ℕ
  pub below : name < k
  pub stays : p name ≡ true
  pub is : rank p name ≡ i

pub rank_back : (p : ℕ → Bool) (k i : ℕ) → i < rank p k → Named p k i
rank_back p zero i less = absurd (omega (arith, less))
rank_back p (suc k) i less = elim (cases_lt i (rank p k)) [
  | inl low ↦ (let found = rank_back p k i low in record { name = found.name; below = omega (arith, found.below); stays = found.stays; is = found.is })
  | inr high ↦ (elim (cases_Bool (p k)) [
    | inl is ↦ record { name = k; below = omega arith; stays = is; is = omega (arith, high, less, rank_kept p k is) }
    | inr isnt ↦ absurd (omega (arith, rank_left p k isnt, less, high))
  ])
]

pub rank_same : (p : ℕ → Bool) (y z : ℕ) → p y ≡ true → p z ≡ true → rank p y ≡ rank p z → y ≡ z
rank_same p y z is also same = elim (cases_lt y z) [
  | inl less ↦ absurd (omega (arith, rank_rises p y z less is, same))
  | inr more ↦ (elim (cases_lt z y) [
    | inl less ↦ absurd (omega (arith, rank_rises p z y less also, same))
    | inr most ↦ omega (arith, more, most)
  ])
]

-- the items of a list that a function is mapped over
pub index_map : {X Y : Type 0} (f : X → Y) (xs : List X) (i : ℕ) (x : X) (d : Y) → slice_get xs i ≡ Some x → slice_index_or (map f xs) i d ≡ f x
index_map f [] i x d is = absurd (none-some x is)
index_map f (y ∷ ys) zero x d is = ap f (same_Some y x is)
index_map f (y ∷ ys) (suc i) x d is = index_map f ys i x d is

pub rank_order : (p : ℕ → Bool) (y z : ℕ) → p z ≡ true → rank p y < rank p z → y < z
rank_order p y z is less = elim (cases_lt y z) [
  | inl below ↦ below
  | inr high ↦ (elim (cases_eq z y) [
    | inl one ↦ (let e : rank p z ≡ rank p y = ap (rank p) one in absurd (omega (arith, e, less)))
    | inr other ↦ absurd (omega (arith, rank_rises p z y (omega (arith, high, other)) is, less))
  ])
]

-- names that pass are below the bound, and rise
pub names_below : (p : ℕ → Bool) (n : ℕ) → All (λ s. s < n) (names_where p n)
names_below p n = each_there (λ s. s < n) (names_where p n) (λ s there. omega (arith, (from_range 0 n s (from_filter p (range_with_len 0 n) s there).0).1))

rising_range : (a n : ℕ) → AllPairs (λ x y. x < y) (range_with_len a n)
rising_range a zero = λ i j d less within. absurd (omega (arith, within))
rising_range a (suc n) = AllPairs-cons (λ x y. x < y) a (range_with_len (a + 1) n)
    (each_there (λ y. a < y) (range_with_len (a + 1) n) (λ y there. omega (arith, (from_range (a + 1) n y there).0))) (rising_range (a + 1) n)

pub rising_names : (p : ℕ → Bool) (n : ℕ) → AllPairs (λ x y. x < y) (names_where p n)
rising_names p n = AllPairs-filter (λ x y. x < y) p (range_with_len 0 n) (rising_range 0 n)

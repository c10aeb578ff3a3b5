-- The lists of the surviving names are the stored tree that the step gives.
use Rattle.std.proofs.Common.{◌≡◌, ◌∙◌, ◌+◌, ◌<◌, ◌≤◌, ◌==◌, ◌&&◌, ℕ, zero, suc, Bool, true, false, cond, List, []}
use Rattle.std.proofs.Common.{◌∷◌, Contains, Some, ap, arith, filter, inl, inr, length, map, nat_lt, refl, slice_get, subst, sym}
use Rattle.std.proofs.lemmas.Bool.{and_from, and_parts, cases_eq, cond-false, eq-eqb, lt-ltb, ltb-true}
use Rattle.std.proofs.lemmas.List.{length-map}
use Rattle.std.proofs.lemmas.Option.{same_Some}
use Rattle.std.specs.List.{range_with_len}
use Rattle.aut_base.proofs.lists.Members.{any_from, each_there, first_there, from_filter, from_map, from_range, later_there, placed_there, there_filter, there_map, there_range_zero}
use Rattle.aut_base.proofs.numbers.Truth.{same_truth}
use Rattle.aut_base.specs.declared.limit.TheConstants.{MOST_NODES}
use Rattle.safra_trees.proofs.flat_step.Owners.{IsPassed, owner_of, home_stays, inhabited, stays_open}
use Rattle.safra_trees.proofs.list_step.Forests.{IsForest, stays_up}
use Rattle.safra_trees.specs.inner.Free.{owner_below}
use Rattle.safra_trees.proofs.list_step.KeptPlaces.{kept_under, under_kept}
use Rattle.safra_trees.proofs.list_step.Over.{IsLower, over_cases, over_chain, over_from, over_root, over_self, over_then}
use Rattle.safra_trees.proofs.list_step.Ranks.{index_map, rank_at, rank_back, rank_rises, rank_same, rising_names}
use Rattle.safra_trees.specs.Flat.{IsStored, at, is_over, node_of, nodes_of, placed}
use Rattle.safra_trees.specs.Step.{Forest, retains, pruned, renamed, survives}
use Rattle.safra_trees.specs.inner.Names.{names_where, rank}
use Rattle.safra_trees.specs.Trees.{Node}

abbrev pub new_parents : Forest → List ℕ
new_parents f = map (λ y. rank (survives f) (f.parent y)) (names_where (survives f) f.size)

abbrev pub new_states : Forest → List ℕ
new_states f = names_where (λ s. nat_lt (owner_below f f.size s) f.size) f.bound

abbrev pub new_places : Forest → List ℕ → List ℕ
new_places f owners = map (λ s. rank (survives f) (at owners (owner_below f f.size s))) (new_states f)

placed_map : (p : ℕ → Bool) (g : ℕ → ℕ) (xs : List ℕ) → placed p xs (map g xs) ≡ filter (λ s. p (g s)) xs
placed_map p g [] = refl
placed_map p g (x ∷ xs) = by_cases (p (g x)) (placed_map p g xs)
  where
    by_cases : (b : Bool) → placed p xs (map g xs) ≡ filter (λ s. p (g s)) xs → cond b (x ∷ placed p xs (map g xs)) (placed p xs (map g xs)) ≡ cond b (x ∷ filter (λ s. p (g s)) xs)
        (filter (λ s. p (g s)) xs)
    by_cases true rest = ap (λ ys. x ∷ ys) rest
    by_cases false rest = rest

filter_twice : (p q r : ℕ → Bool) (xs : List ℕ) → ((x : ℕ) → Contains xs x → r x ≡ (p x && q x)) → filter q (filter p xs) ≡ filter r xs
filter_twice p q r [] same = refl
filter_twice p q r (x ∷ xs) same = by_cases (p x) (q x) (r x) (same x (first_there x xs)) (filter_twice p q r xs (λ y there. same y (later_there x xs y there))) refl
  where
    by_cases : (a b c : Bool) → c ≡ (a && b) → filter q (filter p xs) ≡ filter r xs → (e : q x ≡ b) → filter q (cond a (x ∷ filter p xs) (filter p xs)) ≡ cond c (x ∷ filter r xs) (filter r xs)
    by_cases true b c e rest here = ap (λ (v : Bool). cond v (x ∷ filter q (filter p xs)) (filter q (filter p xs))) (here ∙ sym e) ∙ ap (λ ys. cond c (x ∷ ys) ys) rest
    by_cases false b c e rest here = rest ∙ sym (cond-false c (x ∷ filter r xs) (filter r xs) e)

-- the new parents, from the surviving names
parent_at : (f : Forest) (y : ℕ) → y < f.size → survives f y ≡ true → at (new_parents f) (rank (survives f) y) ≡ rank (survives f) (f.parent y)
parent_at f y less stay = index_map (λ z. rank (survives f) (f.parent z)) (names_where (survives f) f.size) (rank (survives f) y) y 0 (rank_at (survives f) y f.size less stay)

parents_length : (f : Forest) → length (new_parents f) ≡ rank (survives f) f.size
parents_length f = length-map (names_where (survives f) f.size) (λ y. rank (survives f) (f.parent y))

new_lower : (f : Forest) → IsForest f → IsLower (at (new_parents f)) (rank (survives f) f.size)
new_lower f is c more less =
    let back = rank_back (survives f) f.size c less in
    let y = back.name in
    elim (cases_eq y 0) [
      | inl root ↦ (let e : rank (survives f) y ≡ rank (survives f) 0 = ap (rank (survives f)) root in let z : rank (survives f) 0 ≡ 0 = refl in absurd (omega (arith, e, z, back.is, more)))
      | inr other ↦ (
          let over : 0 < y = omega (arith, other) in
          let up = rank_rises (survives f) (f.parent y) y (is.lower y over back.below) (stays_up f is y over back.below back.stays) in
          subst (λ d. at (new_parents f) d < d) back.is (omega (arith, up, parent_at f y back.below back.stays)))
    ]

over_renamed_to : (k : ℕ) (f : Forest) → IsForest f → (y z : ℕ) → z ≤ k → y < f.size → z < f.size → survives f y ≡ true → survives f z ≡ true → is_over (at (new_parents f)) (rank (survives f) y)
    (rank (survives f) z) ≡ is_over f.parent y z
over_renamed_to k f is y zero low within less stay_y stay_z = same_truth (is_over (at (new_parents f)) (rank (survives f) y) (rank (survives f) 0)) (is_over f.parent y 0)
    (λ over. subst (λ w. is_over f.parent w 0 ≡ true) (rank_same (survives f) 0 y stay_z stay_y (over_root (at (new_parents f)) (rank (survives f) y) over)) (over_self f.parent 0))
    (λ over. subst (λ w. is_over (at (new_parents f)) (rank (survives f) w) 0 ≡ true) (over_root f.parent y over) (over_self (at (new_parents f)) 0))
over_renamed_to zero f is y (suc z) low within less stay_y stay_z = absurd (omega (arith, low))
over_renamed_to (suc k) f is y (suc z) low within less stay_y stay_z =
    let more : 0 < suc z = omega arith in
    let p = f.parent (suc z) in
    let up : p < suc z = is.lower (suc z) more less in
    let stay_p : survives f p ≡ true = stays_up f is (suc z) more less stay_z in
    let rises : rank (survives f) p < rank (survives f) (suc z) = rank_rises (survives f) p (suc z) up stay_p in
    let far : rank (survives f) (suc z) < rank (survives f) f.size = rank_rises (survives f) (suc z) f.size less stay_z in
    let name : at (new_parents f) (rank (survives f) (suc z)) ≡ rank (survives f) p = parent_at f (suc z) less stay_z in
    let before = over_renamed_to k f is y p (omega (arith, up, low)) within (omega (arith, up, less)) stay_y stay_p in
    same_truth (is_over (at (new_parents f)) (rank (survives f) y) (rank (survives f) (suc z))) (is_over f.parent y (suc z))
    (λ over. elim (over_cases (at (new_parents f)) (rank (survives f) f.size) (new_lower f is) (rank (survives f) y) (rank (survives f) (suc z)) (omega (arith, rises)) far over) [
      | inl same ↦ subst (λ w. is_over f.parent y w ≡ true) (sym (rank_same (survives f) (suc z) y stay_z stay_y same)) (over_self f.parent y)
      | inr over' ↦ over_from f.parent f.size is.lower y (suc z) more less (sym before ∙ subst (λ w. is_over (at (new_parents f)) (rank (survives f) y) w ≡ true) name over')
    ])
    (λ over. elim (over_cases f.parent f.size is.lower y (suc z) more less over) [
      | inl same ↦ subst (λ w. is_over (at (new_parents f)) (rank (survives f) y) (rank (survives f) w) ≡ true) (sym same) (over_self (at (new_parents f)) (rank (survives f) y))
      | inr over' ↦ over_from (at (new_parents f)) (rank (survives f) f.size) (new_lower f is) (rank (survives f) y) (rank (survives f) (suc z)) (omega (arith, rises)) far
          (subst (λ w. is_over (at (new_parents f)) (rank (survives f) y) w ≡ true) (sym name) (before ∙ over'))
    ])

over_renamed : (f : Forest) → IsForest f → (y z : ℕ) → y < f.size → z < f.size → survives f y ≡ true → survives f z ≡ true → is_over (at (new_parents f)) (rank (survives f) y)
    (rank (survives f) z) ≡ is_over f.parent y z
over_renamed f is y z = over_renamed_to z f is y z (omega arith)

-- what a surviving name keeps, by the new names
kept_renamed : (f : Forest) (claims : List ℕ) (own : List Bool) (owners : List ℕ) → IsPassed f claims own owners → (z s : ℕ) → z < f.size → survives f z ≡ true → s < f.bound
    → retains f z s ≡ (nat_lt (owner_below f f.size s) f.size && is_over (at (new_parents f)) (rank (survives f) z) (rank (survives f) (at owners (owner_below f f.size s))))
kept_renamed f claims own owners is z s less stay small =
    let x = owner_below f f.size s in
    same_truth (retains f z s) (nat_lt x f.size && is_over (at (new_parents f)) (rank (survives f) z) (rank (survives f) (at owners x)))
    (λ kept. (
    let under = kept_under f is.forest z s less kept in
    let owner = owner_of f claims own owners is x under.low in
    let within : at owners x < f.size = omega (arith, is.low x under.low, under.low) in
    let over : is_over f.parent z (at owners x) ≡ true = over_chain f.parent f.size is.forest.lower z (at owners x) x under.low under.over owner.over
    (owner.lowest z under.over (stays_open f z stay)) in
    and_from (nat_lt x f.size) (is_over (at (new_parents f)) (rank (survives f) z) (rank (survives f) (at owners x))) (lt-ltb x f.size under.low)
    (over_renamed f is.forest z (at owners x) less within stay (home_stays f claims own owners is s small under.low) ∙ over)))
    (λ both. (
    let parts = and_parts (nat_lt x f.size) (is_over (at (new_parents f)) (rank (survives f) z) (rank (survives f) (at owners x))) both in
    let low : x < f.size = ltb-true x f.size parts.0 in
    let owner = owner_of f claims own owners is x low in
    let within : at owners x < f.size = omega (arith, is.low x low, low) in
    let over : is_over f.parent z (at owners x) ≡ true = sym (over_renamed f is.forest z (at owners x) less within stay (home_stays f claims own owners is s small low)) ∙ parts.1 in
    under_kept f is.forest z s low (over_then f.parent f.size is.forest.lower z (at owners x) x low over owner.over)))

node_renamed : (f : Forest) (claims : List ℕ) (own : List Bool) (owners : List ℕ) → IsPassed f claims own owners → (z : ℕ) → z < f.size → survives f z ≡ true → node_of (new_parents f)
    (new_states f) (new_places f owners) (rank (survives f) z) ≡ renamed f z
node_renamed f claims own owners is z less stay =
    let states : placed (is_over (at (new_parents f)) (rank (survives f) z)) (new_states f) (new_places f owners) ≡ filter (retains f z) (range_with_len 0 f.bound) =
    placed_map (is_over (at (new_parents f)) (rank (survives f) z)) (λ s. rank (survives f) (at owners (owner_below f f.size s))) (new_states f)
    ∙ filter_twice (λ s. nat_lt (owner_below f f.size s) f.size) (λ s. is_over (at (new_parents f)) (rank (survives f) z) (rank (survives f) (at owners (owner_below f f.size s)))) (retains f z)
    (range_with_len 0 f.bound)
    (λ s there. kept_renamed f claims own owners is z s less stay (omega (arith, (from_range 0 f.bound s there).1))) in
    make_node (at (new_parents f) (rank (survives f) z)) (rank (survives f) (f.parent z)) _ _ (parent_at f z less stay) states
  where
    make_node : (a b : ℕ) (xs ys : List ℕ) → a ≡ b → xs ≡ ys → ◌≡◌ {A = Node} (record { parent = a; states = xs }) (record { parent = b; states = ys })
    make_node a b xs ys e h = ap (λ n. record { parent = n; states = xs }) e ∙ ap (λ (zs : List ℕ). record { parent = b; states = zs }) h

map_ranged : {X : Type 0} (h k : ℕ → X) (xs : List ℕ) (a : ℕ) → ((i y : ℕ) → slice_get xs i ≡ Some y → h (a + i) ≡ k y) → map h (range_with_len a (length xs)) ≡ map k xs
map_ranged h k [] a same = refl
map_ranged h k (x ∷ xs) a same =
    let here : a + 0 ≡ a = omega arith in
    let first : h a ≡ k x = ap h (sym here) ∙ same 0 x refl in
    ap (λ v. v ∷ map h (range_with_len (a + 1) (length xs))) first
    ∙ ap (λ vs. k x ∷ vs) (map_ranged h k xs (a + 1) (λ i y is. (let e : a + 1 + i ≡ a + suc i = omega arith in ap h e ∙ same (suc i) y is)))

name_at : (p : ℕ → Bool) (k i y : ℕ) → slice_get (names_where p k) i ≡ Some y → (y < k) × (p y ≡ true) × (rank p y ≡ i)
name_at p k i y is =
    let there : Contains (names_where p k) y = placed_there (names_where p k) i y is in
    let parts = from_filter p (range_with_len 0 k) y there in
    let within : y < k = omega (arith, (from_range 0 k y parts.0).1) in
    let back = rank_back p k i (slice_within (names_where p k) i y is) in
    let other : slice_get (names_where p k) i ≡ Some back.name = ap (slice_get (names_where p k)) (sym back.is) ∙ rank_at p back.name k back.below back.stays in
    let same : y ≡ back.name = same_Some y back.name (sym is ∙ other) in
    (within, parts.1, ap (rank p) same ∙ back.is)
  where
    slice_within : (xs : List ℕ) (i y : ℕ) → slice_get xs i ≡ Some y → i < length xs
    slice_within [] i y e = cc
    slice_within (x ∷ xs) zero y e = omega arith
    slice_within (x ∷ xs) (suc i) y e = omega (arith, slice_within xs i y e)

pub gathered : (f : Forest) (claims : List ℕ) (own : List Bool) (owners : List ℕ) → IsPassed f claims own owners → nodes_of (new_parents f) (new_states f) (new_places f owners) ≡ pruned f
gathered f claims own owners is =
    ap (λ n. map (node_of (new_parents f) (new_states f) (new_places f owners)) (range_with_len 0 n)) (parents_length f)
    ∙ map_ranged (node_of (new_parents f) (new_states f) (new_places f owners)) (renamed f) (names_where (survives f) f.size) 0
    (λ i y at_i. (
    let found = name_at (survives f) f.size i y at_i in
    let e : 0 + i ≡ rank (survives f) y = omega (arith, found.2) in
    ap (node_of (new_parents f) (new_states f) (new_places f owners)) e ∙ node_renamed f claims own owners is y found.0 found.1))

nothing : (xs : List ℕ) → length xs ≡ 0 → at xs 0 ≡ 0
nothing [] e = refl
nothing (x ∷ xs) e = absurd (omega (arith, e))

pub gathered_stored : (f : Forest) (claims : List ℕ) (own : List Bool) (owners : List ℕ) → IsPassed f claims own owners → f.parent 0 ≡ 0 → rank (survives f) f.size ≤ MOST_NODES → IsStored
    (new_parents f) (new_states f) (new_places f owners)
gathered_stored f claims own owners is root few = record {
  few = omega (arith, few, parents_length f);
  root = root_at;
  lower = λ x more less. new_lower f is.forest x more (omega (arith, less, parents_length f));
  rising = rising_names (λ s. nat_lt (owner_below f f.size s) f.size) f.bound;
  each = length-map (new_states f) (λ s. rank (survives f) (at owners (owner_below f f.size s)));
  below = each_there (λ x. x < length (new_parents f)) (new_places f owners) (λ x there. (
      let found = from_map (λ s. rank (survives f) (at owners (owner_below f f.size s))) (new_states f) x there in
      let s = found.0 in
      let parts = from_filter (λ v. nat_lt (owner_below f f.size v) f.size) (range_with_len 0 f.bound) s found.1 in
      let low : owner_below f f.size s < f.size = ltb-true (owner_below f f.size s) f.size parts.1 in
      let small : s < f.bound = omega (arith, (from_range 0 f.bound s parts.0).1) in
      omega (
        arith,
        found.2,
        parents_length f,
        rank_rises (survives f) (at owners (owner_below f f.size s)) f.size (omega (arith, is.low (owner_below f f.size s) low, low))
            (home_stays f claims own owners is s small low),
      )));
  own = λ x less. (
      let back = rank_back (survives f) f.size x (omega (arith, less, parents_length f)) in
      let lives = inhabited f claims own owners is back.name back.below back.stays in
      let there : Contains (new_states f) lives.state = there_filter (λ v. nat_lt (owner_below f f.size v) f.size) (range_with_len 0 f.bound) lives.state
      (there_range_zero f.bound lives.state lives.small) (lt-ltb (owner_below f f.size lives.state) f.size lives.placed) in
      any_from (λ v. v == x) (new_places f owners) (rank (survives f) (at owners (owner_below f f.size lives.state)))
      (there_map (λ s. rank (survives f) (at owners (owner_below f f.size s))) (new_states f) lives.state there)
      (eq-eqb (rank (survives f) (at owners (owner_below f f.size lives.state))) x (ap (rank (survives f)) lives.ends ∙ back.is)));
}
  where
    root_at : at (new_parents f) 0 ≡ 0
    root_at = elim (cases_eq (rank (survives f) f.size) 0) [
      | inl none ↦ nothing (new_parents f) (parents_length f ∙ none)
      | inr some ↦ (
          let back = rank_back (survives f) f.size 0 (omega (arith, some)) in
          elim (cases_eq back.name 0) [
            | inl zero' ↦ (
                let less : 0 < f.size = omega (arith, zero', back.below) in
                parent_at f 0 less (subst (λ y. survives f y ≡ true) zero' back.stays) ∙ ap (rank (survives f)) root)
            | inr more ↦ (
                let over : 0 < back.name = omega (arith, more) in
                let up = rank_rises (survives f) (f.parent back.name) back.name (is.forest.lower back.name over back.below) (stays_up f is.forest back.name over back.below back.stays) in
                absurd (omega (arith, up, back.is)))
          ])
    ]

-- The priority of a step from the first of its red and the first of its green names, which are the least.
use Rattle.std.proofs.Common.{◌≡◌, ◌+◌, ◌<◌, ◌≤◌, ◌&&◌, ℕ, Bool, min, not, List, [], ◌∷◌, ◌++◌, AllPairs, Contains, arith, inl, inr, length, map, refl, slice_get, subst}
use Rattle.std.proofs.lemmas.Bool.{cases_lt}
use Rattle.std.proofs.lemmas.List.Elements.{All-contains, Contains-append_cases, Contains-append_left, Contains-append_right}
use Rattle.std.proofs.lemmas.List.FromFn.{get_or-range_with_len, length-range_with_len}
use Rattle.std.proofs.lemmas.List.Kept.{AllPairs-filter}
use Rattle.std.specs.List.{range_with_len}
use Rattle.aut_base.proofs.order.AllPairsOf.{pairs_first}
use Rattle.aut_base.proofs.lists.Members.{first_there, from_filter, from_map, from_range, none_there, there_cases, there_map}
use Rattle.safra_trees.specs.Step.{covered, greens, grown, reds, survives}
use Rattle.safra_trees.specs.inner.Names.{names_where}
use Rattle.safra_laws.proofs.backward.Steps.{green_facts}
use Rattle.safra_laws.proofs.parity.Least.{lowest_is, lowest_low}
use Rattle.safra_laws.specs.Priorities.{PriorityByFirst, lowest, priority_by}

abbrev Rises : List ℕ → Type 0
Rises xs = AllPairs (λ x y. x < y) xs

range_rises : (k : ℕ) → Rises (range_with_len 0 k)
range_rises k i j d less within =
    let long : j < k = omega (arith, within, length-range_with_len 0 k) in
    omega (arith, less, get_or-range_with_len 0 k i d (omega (arith, less, long)), get_or-range_with_len 0 k j d long)

names_rise : (p : ℕ → Bool) (k : ℕ) → Rises (names_where p k)
names_rise p k = AllPairs-filter (λ x y. x < y) p (range_with_len 0 k) (range_rises k)

first_low : (x : ℕ) (xs : List ℕ) → Rises (x ∷ xs) → (y : ℕ) → Contains (x ∷ xs) y → x ≤ y
first_low x xs rises y there = elim (there_cases x xs y there) [
  | inl same ↦ omega (arith, same)
  | inr later ↦ omega (arith, All-contains (λ z. x < z) xs y (pairs_first (λ a b. a < b) x xs rises) later)
]

-- what is no greater than any, and one of them, is the least
lowest_at : (d : ℕ) (xs : List ℕ) (v : ℕ) → v ≤ d → ((x : ℕ) → Contains xs x → v ≤ x) → Contains xs v → lowest d xs ≡ v
lowest_at d xs v below each there = elim (lowest_is d xs) [
  | inl last ↦ omega (arith, last, below, lowest_low d xs v there)
  | inr inside ↦ omega (arith, each (lowest d xs) inside, lowest_low d xs v there)
]

abbrev evens : List ℕ → List ℕ
evens rs = map (λ f. f + f) rs

abbrev odds : List ℕ → List ℕ
odds gs = map (λ g. g + g + 1) gs

each_high : (v : ℕ) (rs gs : List ℕ) → ((f : ℕ) → Contains rs f → v ≤ f + f) → ((g : ℕ) → Contains gs g → v ≤ g + g + 1) → (x : ℕ) → Contains (evens rs ++ odds gs) x → v ≤ x
each_high v rs gs red green x there = elim (Contains-append_cases (evens rs) (odds gs) x there) [
  | inl even ↦ (let found = from_map (λ (f : ℕ). f + f) rs x even in omega (arith, red found.0 found.1, found.2))
  | inr odd ↦ (let found = from_map (λ (g : ℕ). g + g + 1) gs x odd in omega (arith, green found.0 found.1, found.2))
]

even_there : (rs gs : List ℕ) (f : ℕ) → Contains rs f → Contains (evens rs ++ odds gs) (f + f)
even_there rs gs f there = Contains-append_left (evens rs) (odds gs) (f + f) (there_map (λ (x : ℕ). x + x) rs f there)

odd_there : (rs gs : List ℕ) (g : ℕ) → Contains gs g → Contains (evens rs ++ odds gs) (g + g + 1)
odd_there rs gs g there = Contains-append_right (evens rs) (odds gs) (g + g + 1) (there_map (λ (x : ℕ). x + x + 1) gs g there)

-- red and green names below `most`, each list in order
record AreBelow (most : ℕ) (xs : List ℕ) : Type 0 where
  rises : Rises xs
  each : (x : ℕ) → Contains xs x → x < most

least_by_first : (most : ℕ) (rs gs : List ℕ) → AreBelow most rs → AreBelow most gs → lowest (most + most) (evens rs ++ odds gs) ≡ priority_by most (slice_get rs 0) (slice_get gs 0)
least_by_first most [] [] reds greens = refl
least_by_first most (f ∷ rs) [] reds greens =
    lowest_at (most + most) (evens (f ∷ rs) ++ odds []) (f + f) (omega (arith, reds.each f (first_there f rs)))
    (each_high (f + f) (f ∷ rs) [] (λ x there. omega (arith, first_low f rs reds.rises x there)) (λ x there. absurd (none_there x there)))
    (even_there (f ∷ rs) [] f (first_there f rs))
least_by_first most [] (g ∷ gs) reds greens =
    lowest_at (most + most) (evens [] ++ odds (g ∷ gs)) (g + g + 1) (omega (arith, greens.each g (first_there g gs)))
    (each_high (g + g + 1) [] (g ∷ gs) (λ x there. absurd (none_there x there)) (λ x there. omega (arith, first_low g gs greens.rises x there)))
    (odd_there [] (g ∷ gs) g (first_there g gs))
least_by_first most (f ∷ rs) (g ∷ gs) reds greens =
    let v = min (f + f) (g + g + 1) in
    lowest_at (most + most) (evens (f ∷ rs) ++ odds (g ∷ gs)) v (omega (arith, reds.each f (first_there f rs)))
    (each_high v (f ∷ rs) (g ∷ gs) (λ x there. omega (arith, first_low f rs reds.rises x there)) (λ x there. omega (arith, first_low g gs greens.rises x there)))
    (elim (cases_lt (f + f) (g + g + 1)) [
      | inl low ↦ (let is : f + f ≡ v = omega (arith, low) in subst (Contains (evens (f ∷ rs) ++ odds (g ∷ gs))) is (even_there (f ∷ rs) (g ∷ gs) f (first_there f rs)))
      | inr high ↦ (let is : g + g + 1 ≡ v = omega (arith, high) in subst (Contains (evens (f ∷ rs) ++ odds (g ∷ gs))) is (odd_there (f ∷ rs) (g ∷ gs) g (first_there g gs)))
    ])

pub priority_by_first : PriorityByFirst
priority_by_first n most ms t tree few =
    let f = grown n ms t in
    least_by_first most (reds f (length t)) (greens f)
    (record {
      rises = names_rise (λ y. not (survives f y)) (length t);
      each = λ x there. (let within = from_range 0 (length t) x (from_filter (λ y. not (survives f y)) (range_with_len 0 (length t)) x there).0 in omega (arith, within.1, few));
    })
    (record {
      rises = names_rise (λ y. survives f y && covered f y) f.size;
      each = λ x there. omega (arith, (green_facts n ms t x tree there).below, few);
    })

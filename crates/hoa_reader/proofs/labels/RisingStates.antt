-- States whose numbers rise stand in the order of their numbers.
use Rattle.std.proofs.Common.{◌≡◌, ◌==◌, ◌<◌, ◌≤◌, ◌+◌, ◌∙◌, ◌||◌, ℕ, zero, suc, Bool, true, false, cond, List, [], ◌∷◌, ◌++◌, filter, nat_le, nat_lt, refl, sym, ap, arith}
use Rattle.std.proofs.lemmas.Bool.{and_parts, true≢false}
use Rattle.std.proofs.lemmas.Bool.Decides.{nat_tests}
use Rattle.std.proofs.lemmas.Grind.{flat_map-append}
use Rattle.std.specs.List.{AllByRecursion}
use Rattle.std.specs.Prelude.{flat_map}
use Rattle.hoa_parser.specs.Raw.{WrittenState}
use Rattle.hoa_reader.proofs.labels.StatePlaces.{edges_more}
use Rattle.hoa_reader.specs.declared.elaborate.edges.Shared.{Shared}
use Rattle.hoa_reader.specs.inner.PickedOut.{numbers}
use Rattle.hoa_reader.specs.inner.Rising.{rises_from}
use Rattle.hoa_reader.specs.inner.TreeEdges.{edges_for, states_at, tree_edges_for}

-- the states of numbers below this one
abbrev under : ℕ → List WrittenState → List WrittenState
under n ss = filter (λ s. nat_lt s.number n) ss

none_first : (b : Bool) (s : WrittenState) (ss : List WrittenState) → b ≡ false → ss ≡ [] → cond b (s ∷ ss) ss ≡ []
none_first b s ss e f = ap (λ (c : Bool). cond c (s ∷ ss) ss) e ∙ f

not_below : (x n least : ℕ) → nat_le least x ≡ true → n ≤ least → nat_lt x n ≡ false
not_below x n least e l = grind (arith, nat_tests)

past : (x n least : ℕ) → nat_le least x ≡ true → n ≤ least → n ≤ x + 1
past x n least e l = grind (arith, nat_tests)

none_under : (n least : ℕ) (ss : List WrittenState) → rises_from least (numbers ss) ≡ true → n ≤ least → under n ss ≡ []
none_under n least [] rise l = refl
none_under n least (s ∷ ss) rise l =
    let parts = and_parts (nat_le least s.number) (rises_from (s.number + 1) (numbers ss)) rise in
    none_first (nat_lt s.number n) s (under n ss) (not_below s.number n least parts.0 l) (none_under n (s.number + 1) ss parts.1 (past s.number n least parts.0 l))

-- one number more
next_test : (x n : ℕ) → nat_lt x (suc n) ≡ (nat_lt x n || (x == n))
next_test x n = grind (arith, nat_tests)

not_at : (x n : ℕ) → nat_lt x n ≡ true → (x == n) ≡ false
not_at x n e = grind (arith, nat_tests)

right_above : (x n : ℕ) → (x == n) ≡ true → n ≤ x + 1
right_above x n e = grind (arith, nat_tests)

split_next : (s : WrittenState) (next before here : List WrittenState) (below at : Bool) → (below ≡ true → at ≡ false) → next ≡ before ++ here → (at ≡ true → before ≡ [])
    → cond (below || at) (s ∷ next) next ≡ cond below (s ∷ before) before ++ cond at (s ∷ here) here
split_next s next before here true true apart is none = absurd (true≢false (apart refl))
split_next s next before here true false apart is none = ap (λ xs. s ∷ xs) is
split_next s next before here false true apart is none =
    let gone = none refl in
    ap (λ xs. s ∷ xs) (is ∙ ap (λ xs. xs ++ here) gone) ∙ ap (λ xs. xs ++ s ∷ here) (sym gone)
split_next s next before here false false apart is none = is

next_under : (n least : ℕ) (ss : List WrittenState) → rises_from least (numbers ss) ≡ true → under (suc n) ss ≡ under n ss ++ states_at ss n
next_under n least [] rise = refl
next_under n least (s ∷ ss) rise =
    let parts = and_parts (nat_le least s.number) (rises_from (s.number + 1) (numbers ss)) rise in
    ap (λ b. cond b (s ∷ under (suc n) ss) (under (suc n) ss)) (next_test s.number n)
    ∙ split_next s (under (suc n) ss) (under n ss) (states_at ss n) (nat_lt s.number n) (s.number == n) (not_at s.number n) (next_under n (s.number + 1) ss parts.1)
    (λ same. none_under n (s.number + 1) ss parts.1 (right_above s.number n same))

none_test : (x : ℕ) → nat_lt x 0 ≡ false
none_test x = grind (arith, nat_tests)

none_yet : (ss : List WrittenState) → under 0 ss ≡ []
none_yet [] = refl
none_yet (s ∷ ss) = none_first (nat_lt s.number 0) s (under 0 ss) (none_test s.number) (none_yet ss)

all_test : (x n : ℕ) → x < n → nat_lt x n ≡ true
all_test x n l = grind (arith, nat_tests)

all_under : (n : ℕ) (ss : List WrittenState) → AllByRecursion (λ (s : WrittenState). s.number < n) ss → under n ss ≡ ss
all_under n [] all = refl
all_under n (s ∷ ss) all = ap (λ b. cond b (s ∷ under n ss) (under n ss)) (all_test s.number n all.0) ∙ ap (λ xs. s ∷ xs) (all_under n ss all.1)

edges_under : (x : Shared) (n : ℕ) (ss : List WrittenState) → rises_from 0 (numbers ss) ≡ true → edges_for x ss n ≡ flat_map (tree_edges_for x) (under n ss)
edges_under x zero ss rise = sym (ap (flat_map (tree_edges_for x)) (none_yet ss))
edges_under x (suc n) ss rise =
    let next : suc n ≡ n + 1 = omega arith in
    ap (edges_for x ss) next
    ∙ edges_more x ss n
    ∙ (ap (λ es. es ++ flat_map (tree_edges_for x) (states_at ss n)) (edges_under x n ss rise)
    ∙ (sym (flat_map-append (tree_edges_for x) (under n ss) (states_at ss n)) ∙ sym (ap (flat_map (tree_edges_for x)) (next_under n 0 ss rise))))

-- so their edges do, too
pub rising_edges : (x : Shared) (n : ℕ) (ss : List WrittenState) → rises_from 0 (numbers ss) ≡ true → AllByRecursion (λ (s : WrittenState). s.number < n) ss
    → edges_for x ss n ≡ flat_map (tree_edges_for x) ss
rising_edges x n ss rise all = edges_under x n ss rise ∙ ap (flat_map (tree_edges_for x)) (all_under n ss all)

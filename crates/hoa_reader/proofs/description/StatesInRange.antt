-- The states of a described automaton: its starts differ, they are its own, and its edges stand in order.
use Rattle.std.proofs.Common.{◌≡◌, ◌≢◌, ◌+◌, ◌<◌, ◌≤◌, ◌==◌, max, ℕ, zero, suc, Bool, true, not, List, [], ◌∷◌, ◌++◌, map, filter, get_or, refl, sym, ◌∙◌, subst, arith, AllPairs}
use Rattle.std.proofs.lemmas.Bool.{eqb-true}
use Rattle.std.proofs.lemmas.List.Kept.{AllPairs-cons, AllPairs-filter}
use Rattle.std.proofs.lemmas.Grind.{flat_map-append}
use Rattle.std.specs.Prelude.{flat_map}
use Rattle.std.specs.List.{AllByRecursion, enumerate_from}
use Rattle.std.specs.List.Sorted.{IsNonDecreasing}
use Rattle.aut_base.specs.Automaton.{LabelledEdge}
use Rattle.hoa_reader.proofs.description.LabelsInRange.{numbers_are_below}
use Rattle.hoa_reader.specs.Described.{tree_edge_of, tree_edges_of, below, described, state_count}
use Rattle.hoa_reader.specs.inner.Numbers.{after_all, without_repeats}
use Rattle.hoa_parser.specs.Raw.{Written, WrittenEdge, WrittenState}
use Rattle.aut_base.proofs.lists.AllByRecursion.{AllByRecursion-of_each, AllByRecursion-append, AllByRecursion-filter, AllByRecursion-filter_passes}
use Rattle.aut_base.proofs.lists.AllByRecursion.{AllByRecursion-flat_map, AllByRecursion-map, AllByRecursion-weaker}
use Rattle.aut_base.proofs.numbers.Numbers.{other_number}
use Rattle.std.proofs.lemmas.List.Elements.{All-from_recursion}

abbrev pub edges_of : Written → List LabelledEdge
edges_of w = (described w).edges

-- the edges of the states of this number
abbrev pub tree_edges_from : Written → ℕ → List LabelledEdge
tree_edges_from w q = flat_map (tree_edges_of w) (filter (λ (s : WrittenState). s.number == q) w.states)

pub all_without_repeats : (P : ℕ → Type 0) (xs : List ℕ) → AllByRecursion P xs → AllByRecursion P (without_repeats xs)
all_without_repeats P [] all = tt
all_without_repeats P (x ∷ xs) all = (all.0, AllByRecursion-filter P (λ y. not (x == y)) (without_repeats xs) (all_without_repeats P xs all.1))

pub they_differ : (xs : List ℕ) → AllPairs (λ p q. p ≢ q) (without_repeats xs)
they_differ [] = λ i j d l m. absurd (omega (arith, m))
they_differ (x ∷ xs) =
    let p : ℕ → Bool = λ y. not (x == y) in
    let ys = filter p (without_repeats xs) in
    AllPairs-cons (λ p q. p ≢ q) x ys
    (All-from_recursion (λ y. x ≢ y) ys (AllByRecursion-weaker (λ y. p y ≡ true) (λ y. x ≢ y) ys (λ y other same. other_number y x other (sym same))
    (AllByRecursion-filter_passes p (without_repeats xs))))
    (AllPairs-filter (λ p q. p ≢ q) p (without_repeats xs) (they_differ xs))

-- every number that is used is below the number of states that follows from them
pub all_used_below : (xs : List ℕ) → AllByRecursion (λ x. x < after_all xs) xs
all_used_below [] = tt
all_used_below (x ∷ xs) =
    (omega arith, AllByRecursion-weaker (λ y. y < after_all xs) (λ y. y < max (x + 1) (after_all xs)) xs (λ y l. omega (arith, l)) (all_used_below xs))

-- no edge leaves a state below that of an earlier edge
abbrev Ascends : List LabelledEdge → Type 0
Ascends [] = Unit {0}
Ascends (e ∷ es) = AllByRecursion (λ (f : LabelledEdge). e.from ≤ f.from) es × Ascends es

-- edges of one state, behind edges of earlier ones
ascends_append : (n : ℕ) (ds es : List LabelledEdge) → Ascends ds → AllByRecursion (λ (d : LabelledEdge). d.from < n) ds → AllByRecursion (λ (e : LabelledEdge). e.from ≡ n) es → Ascends (ds ++ es)
ascends_append n [] [] a less same = tt
ascends_append n [] (e ∷ es) a less same =
    (AllByRecursion-weaker (λ (f : LabelledEdge). f.from ≡ n) (λ (f : LabelledEdge). e.from ≤ f.from) es (λ f h. omega (arith, h, same.0)) same.1, ascends_append n [] es tt tt same.1)
ascends_append n (d ∷ ds) es a less same =
    let later : AllByRecursion (λ (f : LabelledEdge). d.from ≤ f.from) es = AllByRecursion-weaker (λ (f : LabelledEdge). f.from ≡ n) (λ (f : LabelledEdge). d.from ≤ f.from) es
    (λ f h. omega (arith, h, less.0)) same in
    (AllByRecursion-append (λ (f : LabelledEdge). d.from ≤ f.from) ds es a.0 later, ascends_append n ds es a.1 less.1 same)

ascending : (es : List LabelledEdge) → Ascends es → AllPairs (λ p q. p ≤ q) (map (λ (e : LabelledEdge). e.from) es)
ascending [] a = λ i j d l m. absurd (omega (arith, m))
ascending (e ∷ es) a =
    AllPairs-cons (λ p q. p ≤ q) e.from (map (λ (f : LabelledEdge). f.from) es)
    (All-from_recursion (λ q. e.from ≤ q) (map (λ (f : LabelledEdge). f.from) es) (AllByRecursion-map (λ q. e.from ≤ q) (λ (f : LabelledEdge). f.from) es a.0)) (ascending es a.1)

leave : (w : Written) (s : WrittenState) → AllByRecursion (λ (e : LabelledEdge). e.from ≡ s.number) (tree_edges_of w s)
leave w s = AllByRecursion-map (λ (e : LabelledEdge). e.from ≡ s.number) (λ (p : ℕ × WrittenEdge). tree_edge_of w s p.0 p.1) (enumerate_from 0 s.edges)
    (AllByRecursion-of_each _ (enumerate_from 0 s.edges) (λ p. refl))

leave_one : (w : Written) (q : ℕ) → AllByRecursion (λ (e : LabelledEdge). e.from ≡ q) (tree_edges_from w q)
leave_one w q =
    let ours : WrittenState → Bool = λ s. s.number == q in
    AllByRecursion-flat_map (λ (e : LabelledEdge). e.from ≡ q) (tree_edges_of w) (filter ours w.states)
    (AllByRecursion-weaker (λ s. ours s ≡ true) (λ s. AllByRecursion (λ (e : LabelledEdge). e.from ≡ q) (tree_edges_of w s)) (filter ours w.states)
    (λ s h. AllByRecursion-weaker (λ (e : LabelledEdge). e.from ≡ s.number) (λ (e : LabelledEdge). e.from ≡ q) (tree_edges_of w s) (λ e i. i ∙ eqb-true s.number q h) (leave w s))
    (AllByRecursion-filter_passes ours w.states))

pub edges_leave_below : (w : Written) (n : ℕ) → AllByRecursion (λ (e : LabelledEdge). e.from < n) (flat_map (tree_edges_from w) (below n))
edges_leave_below w n =
    AllByRecursion-flat_map (λ (e : LabelledEdge). e.from < n) (tree_edges_from w) (below n)
    (AllByRecursion-weaker (λ q. q < n) (λ q. AllByRecursion (λ (e : LabelledEdge). e.from < n) (tree_edges_from w q)) (below n)
    (λ q l. AllByRecursion-weaker (λ (e : LabelledEdge). e.from ≡ q) (λ (e : LabelledEdge). e.from < n) (tree_edges_from w q) (λ e h. omega (arith, h, l)) (leave_one w q)) (numbers_are_below n))

edges_ascend : (w : Written) (n : ℕ) → Ascends (flat_map (tree_edges_from w) (below n))
edges_ascend w zero = tt
edges_ascend w (suc n) =
    let last = leave_one w n in
    let one : AllByRecursion (λ (e : LabelledEdge). e.from ≡ n) (tree_edges_from w n ++ []) = AllByRecursion-append (λ (e : LabelledEdge). e.from ≡ n) (tree_edges_from w n) [] last tt in
    subst (λ (es : List LabelledEdge). Ascends es) (sym (flat_map-append (tree_edges_from w) (below n) (n ∷ [])))
    (ascends_append n (flat_map (tree_edges_from w) (below n)) (tree_edges_from w n ++ []) (edges_ascend w n) (edges_leave_below w n) one)

pub edges_in_order : (w : Written) → IsNonDecreasing (map (λ (e : LabelledEdge). e.from) (edges_of w))
edges_in_order w i j d l m =
    let xs = map (λ (e : LabelledEdge). e.from) (edges_of w) in
    let apart : i < j → get_or xs i d ≤ get_or xs j d = λ h. ascending (edges_of w) (edges_ascend w (state_count w)) i j d h m in
    grind (arith, apart)

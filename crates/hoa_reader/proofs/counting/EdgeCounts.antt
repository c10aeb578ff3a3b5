-- A described automaton has as many edges as are written, where each state is below their number.
use Rattle.std.proofs.Common.{◌≡◌, ◌==◌, ◌<◌, ◌+◌, ℕ, zero, suc, Bool, true, false, cond, List, [], ◌∷◌, ◌++◌, length, map, filter, nat_lt, refl, sym, ap, ◌∙◌, arith}
use Rattle.std.proofs.lemmas.Bool.Decides.{nat_tests}
use Rattle.std.proofs.lemmas.Grind.{flat_map-append}
use Rattle.std.proofs.lemmas.List.{append-nil, length-append, length-map}
use Rattle.std.proofs.lemmas.List.FromFn.{length-enumerate_from}
use Rattle.std.specs.Prelude.{filter_map, flat_map}
use Rattle.std.specs.List.{AllByRecursion, enumerate_from}
use Rattle.aut_base.specs.Automaton.{LabelledEdge}
use Rattle.hoa_reader.proofs.description.StatesInRange.{edges_of, tree_edges_from}
use Rattle.hoa_reader.proofs.description.WellFormed.{AreBelow, used_are_below}
use Rattle.hoa_reader.specs.Described.{tree_edge_of, tree_edges_of, below, state_count}
use Rattle.hoa_parser.specs.Raw.{Written, WrittenEdge, WrittenState}
use Rattle.hoa_reader.specs.Validity.{edges_written, keeps_rule, starts_written, states_item, used_states}
use Rattle.hoa_reader.specs.inner.Weighing.{all_edges}
use Rattle.hoa_reader.specs.declared.elaborate.Rule.TheVariants.{V6}
use Rattle.aut_base.proofs.lists.AllByRecursion.{AllByRecursion-left, AllByRecursion-right, AllByRecursion-from_map}

-- the edges of the states of this number, and of those below it
abbrev at_count : ℕ → List WrittenState → ℕ
at_count q [] = 0
at_count q (s ∷ ss) = cond (s.number == q) (length s.edges) 0 + at_count q ss

abbrev below_count : ℕ → List WrittenState → ℕ
below_count n [] = 0
below_count n (s ∷ ss) = cond (nat_lt s.number n) (length s.edges) 0 + below_count n ss

one_state : (w : Written) (s : WrittenState) → length (tree_edges_of w s) ≡ length s.edges
one_state w s = length-map (enumerate_from 0 s.edges) (λ (p : ℕ × WrittenEdge). tree_edge_of w s p.0 p.1) ∙ length-enumerate_from 0 s.edges

at_if : (w : Written) (s : WrittenState) (ss : List WrittenState) (b : Bool) (n : ℕ) → length (flat_map (tree_edges_of w) ss) ≡ n
    → length (flat_map (tree_edges_of w) (cond b (s ∷ ss) ss)) ≡ cond b (length s.edges) 0 + n
at_if w s ss true n e = let first = length-append (tree_edges_of w s) (flat_map (tree_edges_of w) ss) in let own = one_state w s in omega (arith, first, own, e)
at_if w s ss false n e = omega (arith, e)

at_number : (w : Written) (ss : List WrittenState) (q : ℕ) → length (flat_map (tree_edges_of w) (filter (λ s. s.number == q) ss)) ≡ at_count q ss
at_number w [] q = refl
at_number w (s ∷ ss) q = at_if w s (filter (λ s. s.number == q) ss) (s.number == q) (at_count q ss) (at_number w ss q)

next_if : (x n e : ℕ) → cond (nat_lt x (suc n)) e 0 ≡ cond (nat_lt x n) e 0 + cond (x == n) e 0
next_if x n e = grind (arith, nat_tests)

next_count : (n : ℕ) (ss : List WrittenState) → below_count (suc n) ss ≡ below_count n ss + at_count n ss
next_count n [] = refl
next_count n (s ∷ ss) = let here = next_if s.number n (length s.edges) in let rest = next_count n ss in omega (arith, here, rest)

none_if : (x e : ℕ) → cond (nat_lt x 0) e 0 ≡ 0
none_if x e = grind (arith, nat_tests)

none_below : (ss : List WrittenState) → below_count 0 ss ≡ 0
none_below [] = refl
none_below (s ∷ ss) = let here = none_if s.number (length s.edges) in let rest = none_below ss in omega (arith, here, rest)

counted_below : (w : Written) (n : ℕ) → length (flat_map (tree_edges_from w) (below n)) ≡ below_count n w.states
counted_below w zero = sym (none_below w.states)
counted_below w (suc n) =
    let split = ap length (flat_map-append (tree_edges_from w) (below n) (n ∷ []) ∙ ap (λ (es : List LabelledEdge). flat_map (tree_edges_from w) (below n) ++ es) (append-nil (tree_edges_from w n))) in
    let sum = length-append (flat_map (tree_edges_from w) (below n)) (tree_edges_from w n) in
    let before = counted_below w n in
    let here = at_number w w.states n in
    let next = next_count n w.states in
    omega (arith, split, sum, before, here, next)

all_if : (x n e : ℕ) → x < n → cond (nat_lt x n) e 0 ≡ e
all_if x n e l = grind (arith, nat_tests)

all_below : (n : ℕ) (ss : List WrittenState) → AllByRecursion (λ (s : WrittenState). s.number < n) ss → below_count n ss ≡ length (all_edges ss)
all_below n [] all = refl
all_below n (s ∷ ss) all =
    let here = all_if s.number n (length s.edges) all.0 in
    let rest = all_below n ss all.1 in
    let sum = length-append s.edges (all_edges ss) in
    omega (arith, here, rest, sum)

-- the states that are defined are below their number
pub states_below : (w : Written) → keeps_rule V6 w ≡ true → AllByRecursion (λ (s : WrittenState). s.number < state_count w) w.states
states_below w kept =
    let n = state_count w in
    let P : ℕ → Type 0 = λ q. q < n in
    let numbers = map (λ (s : WrittenState). s.number) w.states in
    let goals = flat_map (λ (e : WrittenEdge). e.to) (edges_written w) in
    let used : AreBelow n (used_states w) = used_are_below (used_states w) (filter_map states_item w.items) kept in
    let others = AllByRecursion-right P (flat_map (λ (q : List ℕ). q) (starts_written w)) (numbers ++ goals) used in
    AllByRecursion-from_map P (λ (s : WrittenState). s.number) w.states (AllByRecursion-left P numbers goals others)

pub edge_count : (w : Written) → keeps_rule V6 w ≡ true → length (edges_of w) ≡ length (all_edges w.states)
edge_count w kept = counted_below w (state_count w) ∙ all_below (state_count w) w.states (states_below w kept)

-- Trees and moves renumbered by the index of their states in the sight.
use Rattle.std.proofs.Common.{◌≡◌, ◌∙◌, ◌+◌, ◌++◌, ◌<◌, ◌≤◌, ◌==◌, ℕ, zero, suc, Bool, true, false, cond, List, [], ◌∷◌, All, AllPairs, Contains, Err, Ok, ap, arith, flat_map, get_or}
use Rattle.std.proofs.Common.{inl, inr, length, map, refl, subst, sym, take}
use Rattle.std.proofs.lemmas.Bool.{both_ways, cases_Bool, cases_eq, cases_lt, eq-eqb, eqb-true}
use Rattle.std.proofs.lemmas.List.{get_or-map, get_or_default, length-map, map-append}
use Rattle.std.proofs.lemmas.List.Elements.{All-contains, All-push, Contains-append_cases, Contains-append_left, Contains-append_right}
use Rattle.std.proofs.lemmas.List.Kept.{AllPairs-from_increasing}
use Rattle.std.proofs.lemmas.List.Sorted.{searched}
use Rattle.std.proofs.lemmas.Simd.{map-map}
use Rattle.std.specs.List.{range_with_len}
use Rattle.std.specs.List.Sorted.{IsBinarySearchResult, IsStrictlyIncreasing}
use Rattle.std.specs.Ordering.{nat_cmp}
use Rattle.aut_base.proofs.lists.Lists.{take-push}
use Rattle.aut_base.proofs.lists.Members.{any_found, any_from, each_there, first_there, from_flat_map, later_there, one_of_two, there_flat_map}
use Rattle.aut_base.proofs.order.AllPairsOf.{pairs_map}
use Rattle.safra_trees.proofs.flat_step.Placed.{nodes_length, past_end, placed_absent, stored_node, stored_root}
use Rattle.safra_trees.proofs.list_step.Moved.{AllBelow, IsRising, event_moved, step_moved}
use Rattle.safra_trees.proofs.list_step.Ranks.{names_below}
use Rattle.safra_trees.specs.Events.{AreStates, IsMoveInRange, event_of}
use Rattle.safra_trees.specs.Flat.{IsStored, at, is_over, node_of, nodes_of, placed}
use Rattle.safra_trees.specs.Step.{Forest, grown, retains, pruned, renamed, survives}
use Rattle.safra_trees.specs.inner.Names.{has, names_where}
use Rattle.safra_trees.specs.Trees.{Node, root_states}
use Rattle.safra_trees.specs.declared.moves.Move.{Move}
use Rattle.safra_trees.specs.inner.Sight.{IsSeen, IsSight, ends, move_by, node_by}

-- a number in a strictly increasing list is no less than its index
low_place : (xs : List ℕ) → AllPairs (λ x y. x < y) xs → (i : ℕ) → i < length xs → i ≤ get_or xs i 0
low_place xs rises zero less = omega arith
low_place xs rises (suc i) less = omega (arith, rises i (suc i) 0 (omega arith) less, low_place xs rises i (omega (arith, less)))

never_falls : (xs : List ℕ) → AllPairs (λ x y. x < y) xs → (i j : ℕ) → i ≤ j → j < length xs → get_or xs i 0 ≤ get_or xs j 0
never_falls xs rises i j le within = elim (cases_eq i j) [
  | inl same ↦ (let e : get_or xs i 0 ≡ get_or xs j 0 = ap (λ k. get_or xs k 0) same in omega (arith, e))
  | inr other ↦ omega (arith, rises i j 0 (omega (arith, le, other)) within)
]

-- the search gives an index that is no greater than the number
pub found_place : (xs : List ℕ) (x i : ℕ) → IsStrictlyIncreasing xs → IsBinarySearchResult (λ y. nat_cmp y x) xs (Ok i) → i ≤ x
found_place xs x i rises found =
    let up = AllPairs-from_increasing xs rises in
    let is = searched xs x (Ok i) found (never_falls xs up) in
    omega (arith, low_place xs up i is.0, is.1)

-- and finds each number of the list
pub not_missing : (xs : List ℕ) (x i : ℕ) → IsStrictlyIncreasing xs → Contains xs x → IsBinarySearchResult (λ y. nat_cmp y x) xs (Err i) → ⊥
not_missing xs x i rises there missed =
    let is = searched xs x (Err i) missed (never_falls xs (AllPairs-from_increasing xs rises)) in
    let here : get_or xs there.0 0 ≡ x = get_or_default xs there.0 0 x there.1 ∙ there.2 in
    elim (cases_lt there.0 i) [
      | inl before ↦ absurd (omega (arith, is.1 there.0 before, here))
      | inr behind ↦ absurd (omega (arith, is.2 there.0 behind there.1, here))
    ]

-- A strictly increasing list of numbers below n has at most n of them.
pub few_places : (xs : List ℕ) (n : ℕ) → IsStrictlyIncreasing xs → All (λ x. x < n) xs → length xs ≤ n
few_places [] n rises all = omega arith
few_places (x ∷ xs) n rises all =
    let last : length xs < length (x ∷ xs) = omega arith in
    omega (arith, low_place (x ∷ xs) (AllPairs-from_increasing (x ∷ xs) rises) (length xs) last, all (length xs) 0 last)

-- after one more move is renumbered
pub moves_more : (sight : List ℕ) (moves found new : List Move) (i : ℕ) (d m : Move) → All (IsMoveInRange (length sight)) found → map (move_by (at sight)) found ≡ take i moves → i < length moves
    → IsMoveInRange (length sight) m → move_by (at sight) m ≡ get_or moves i d → new ≡ found ++ m ∷ [] → All (IsMoveInRange (length sight)) new × (map (move_by (at sight)) new ≡ take (i + 1) moves)
moves_more sight moves found new i d m all so_far less within is pushed = (
  subst (λ xs. All (IsMoveInRange (length sight)) xs) (sym pushed) (All-push (IsMoveInRange (length sight)) found m all within),
  ap (map (move_by (at sight))) pushed
      ∙ (map-append (move_by (at sight)) found (m ∷ [])
      ∙ (ap (λ xs. xs ++ move_by (at sight) m ∷ []) so_far
      ∙ (ap (λ x. take i moves ++ x ∷ []) is
      ∙ sym (take-push moves i (get_or moves i d) less (get_or_default moves i d (get_or moves i d) less))))),
)

-- the same for equal lists
pub is_sight : (states states' : List ℕ) (ms ms' : List Move) (sight sight' : List ℕ) → IsSight states ms sight → states ≡ states' → ms ≡ ms' → sight' ≡ sight → IsSight states' ms' sight'
is_sight states states' ms ms' sight sight' is one two three =
    subst (IsSight states' ms') (sym three) (subst (λ xs. IsSight states' xs sight) two (subst (λ xs. IsSight xs ms sight) one is))

-- the states of the tree and the ends of the moves are in sight
pub states_seen : (states sight : List ℕ) (ms : List Move) → ((q : ℕ) → Contains (states ++ flat_map ends ms) q → Contains sight q) → All (λ s. Contains sight s) states
states_seen states sight ms retains = each_there (λ s. Contains sight s) states (λ s there. retains s (Contains-append_left states (flat_map ends ms) s there))

pub moves_seen : (states sight : List ℕ) (ms : List Move) → ((q : ℕ) → Contains (states ++ flat_map ends ms) q → Contains sight q) → All (λ e. IsSeen sight e) ms
moves_seen states sight ms retains = each_there (λ e. IsSeen sight e) ms (λ e there. record {
  from = retains e.from (Contains-append_right states (flat_map ends ms) e.from (there_flat_map ends ms e e.from there (first_there e.from (e.to ∷ []))));
  to = retains e.to (Contains-append_right states (flat_map ends ms) e.to (there_flat_map ends ms e e.to there (later_there e.from (e.to ∷ []) e.to (first_there e.to []))));
})

-- and nothing else is
pub sight_below : (n : ℕ) (states sight : List ℕ) (ms : List Move) → ((q : ℕ) → Contains sight q → Contains (states ++ flat_map ends ms) q) → All (λ s. s < n) states → All (IsMoveInRange n) ms
    → All (λ s. s < n) sight
sight_below n states sight ms adds_none below within = each_there (λ s. s < n) sight (λ q there. elim (Contains-append_cases states (flat_map ends ms) q (adds_none q there)) [
  | inl state ↦ All-contains (λ s. s < n) states q below state
  | inr end ↦ (
      let from = from_flat_map ends ms q end in
      let both = All-contains (IsMoveInRange n) ms from.0 within from.1 in
      one_of_two (λ s. s < n) from.0.from from.0.to q from.2 both.from both.to)
])

-- a stored tree with other states
placed_if : (f : ℕ → ℕ) (s : ℕ) (ys : List ℕ) (b : Bool) → cond b (f s ∷ map f ys) (map f ys) ≡ map f (cond b (s ∷ ys) ys)
placed_if f s ys true = refl
placed_if f s ys false = refl

placed_moved : (f : ℕ → ℕ) (test : ℕ → Bool) (states places : List ℕ) → placed test (map f states) places ≡ map f (placed test states places)
placed_moved f test [] places = refl
placed_moved f test (s ∷ states) [] = refl
placed_moved f test (s ∷ states) (x ∷ places) = ap (λ ys. cond (test x) (f s ∷ ys) ys) (placed_moved f test states places) ∙ placed_if f s (placed test states places) (test x)

pub nodes_moved : (f : ℕ → ℕ) (parents states places : List ℕ) → nodes_of parents (map f states) places ≡ map (node_by f) (nodes_of parents states places)
nodes_moved f parents states places =
    let each : node_of parents (map f states) places ≡ (λ x. node_by f (node_of parents states places x)) =
    λ i x. record { parent = at parents x; states = placed_moved f (is_over (at parents) x) states places i } in
    ap (λ g. map g (range_with_len 0 (length parents))) each ∙ sym (map-map (node_by f) (node_of parents states places) (range_with_len 0 (length parents)))

-- the tree renumbered by the indices of its states
small_rises : (sight states small : List ℕ) → IsStrictlyIncreasing sight → All (λ x. x < length sight) small → map (at sight) small ≡ states → AllPairs (λ a b. a < b) states
    → AllPairs (λ a b. a < b) small
small_rises sight states small rises below are up = λ i j d less within.
    let before : i < length small = omega (arith, less, within) in
    let first : get_or (map (at sight) small) i 0 ≡ at sight (get_or small i d) = get_or-map (at sight) small i d 0 before in
    let second : get_or (map (at sight) small) j 0 ≡ at sight (get_or small j d) = get_or-map (at sight) small j d 0 within in
    let rise : get_or (map (at sight) small) i 0 < get_or (map (at sight) small) j 0 =
    subst (λ xs. AllPairs (λ a b. a < b) xs) (sym are) up i j 0 less (omega (arith, within, length-map small (at sight))) in
    elim (cases_lt (get_or small i d) (get_or small j d)) [
      | inl is ↦ is
      | inr past ↦ absurd (omega (arith, rise, first, second, never_falls sight (AllPairs-from_increasing sight rises) (get_or small j d) (get_or small i d) past (below i d before)))
    ]

pub small_stored : (sight parents states places small : List ℕ) → IsStored parents states places → IsStrictlyIncreasing sight → All (λ x. x < length sight) small → map (at sight) small ≡ states
    → IsStored parents small places
small_stored sight parents states places small is rises below are = record {
  few = is.few;
  root = is.root;
  lower = is.lower;
  rising = small_rises sight states small rises below are is.rising;
  each = is.each ∙ (sym (ap length are) ∙ length-map small (at sight));
  below = is.below;
  own = is.own;
}

pub small_nodes : (sight parents states places parents' small places' : List ℕ) → parents' ≡ parents → places' ≡ places → map (at sight) small ≡ states
    → map (node_by (at sight)) (nodes_of parents' small places') ≡ nodes_of parents states places
small_nodes sight parents states places parents' small places' one two are =
    sym (nodes_moved (at sight) parents' small places') ∙ (ap (λ xs. nodes_of xs (map (at sight) small) places') one
    ∙ (ap (λ xs. nodes_of parents (map (at sight) small) xs) two ∙ ap (λ xs. nodes_of parents xs places) are))

pub named_nodes : (sight parents small places parents' states places' : List ℕ) → parents' ≡ parents → places' ≡ places → states ≡ map (at sight) small
    → nodes_of parents' states places' ≡ map (node_by (at sight)) (nodes_of parents small places)
named_nodes sight parents small places parents' states places' one two are =
    ap (λ xs. nodes_of xs states places') one ∙ (ap (λ xs. nodes_of parents states xs) two
    ∙ (ap (λ xs. nodes_of parents xs places) are ∙ nodes_moved (at sight) parents small places))

-- the same lists
pub same_stored : (parents places parents' states places' : List ℕ) → parents' ≡ parents → places' ≡ places → IsStored parents states places → IsStored parents' states places'
same_stored parents places parents' states places' one two is = subst (λ xs. IsStored xs states places') (sym one) (subst (λ xs. IsStored parents states xs) (sym two) is)

-- and renumbered back by the states of its indices
pub named_stored : (sight parents small places states : List ℕ) → IsStored parents small places → IsStrictlyIncreasing sight → All (λ x. x < length sight) small → states ≡ map (at sight) small
    → IsStored parents states places
named_stored sight parents small places states is rises below are =
    let up = AllPairs-from_increasing sight rises in
    record {
      few = is.few;
      root = is.root;
      lower = is.lower;
      rising = subst (λ xs. AllPairs (λ a b. a < b) xs) (sym are)
          (pairs_map (λ a b. a < b) (at sight) small (λ i j d less within. up (get_or small i d) (get_or small j d) 0 (is.rising i j d less within) (below j d within)));
      each = is.each ∙ (sym (length-map small (at sight)) ∙ sym (ap length are));
      below = is.below;
      own = is.own;
    }

-- each node of a stored tree holds states of the tree
pub nodes_below : (k : ℕ) (parents states places : List ℕ) → All (λ s. s < k) states → AllBelow k (nodes_of parents states places)
nodes_below k parents states places all x = elim (cases_lt x (length parents)) [
  | inl less ↦ subst (λ (d : Node). All (λ s. s < k) d.states) (sym (stored_node parents states places x less)) (each_there (λ s. s < k) (placed (is_over (at parents) x) states places) inside)
  | inr past ↦ subst (λ (d : Node). All (λ s. s < k) d.states)
      (sym (past_end (nodes_of parents states places) x (record { parent = 0; states = [] }) (omega (arith, past, nodes_length parents states places)))) (λ i d within. absurd (omega (arith, within)))
]
  where
    inside : (s : ℕ) → Contains (placed (is_over (at parents) x) states places) s → s < k
    inside s there = elim (cases_Bool (has states s)) [
      | inl is ↦ (
          let found = any_found (λ y. y == s) states is in
          subst (λ w. w < k) (eqb-true found.0 s found.2) (All-contains (λ y. y < k) states found.0 all found.1))
      | inr none ↦ absurd (both_ways (has (placed (is_over (at parents) x) states places) s) (placed_absent (is_over (at parents) x) states places s none)
          (any_from (λ y. y == s) (placed (is_over (at parents) x) states places) s there (eq-eqb s s refl)))
    ]

-- the root of the pruned forest holds states of the forest
pub pruned_below : (f : Forest) → All (λ s. s < f.bound) (root_states (pruned f))
pruned_below f = below (names_where (survives f) f.size)
  where
    below : (ys : List ℕ) → All (λ s. s < f.bound) (root_states (map (renamed f) ys))
    below [] = λ i d within. absurd (omega (arith, within))
    below (y ∷ ys) = names_below (retains f y) f.bound

-- The renumbered moves and tree (`few` and `small`) that are stepped instead of the moves and the tree.
pub record IsSmall (sight : List ℕ) (ms : List Move) (t : List Node) (few : List Move) (small : List Node) : Type 0 where
  pub rises : IsStrictlyIncreasing sight
  pub all : (n : ℕ) → AreStates n ms t → All (λ s. s < n) sight
  pub within : All (IsMoveInRange (length sight)) few
  pub below : AllBelow (length sight) small
  pub moves : map (move_by (at sight)) few ≡ ms
  pub tree : map (node_by (at sight)) small ≡ t

rising_at : (n : ℕ) (sight : List ℕ) → IsStrictlyIncreasing sight → All (λ s. s < n) sight → IsRising (at sight) (length sight) n
rising_at n sight rises all = record {
  rises = λ a b less within. AllPairs-from_increasing sight rises a b 0 less within;
  below = λ a less. all a 0 less;
}

pub small_step : (sight : List ℕ) (ms : List Move) (t : List Node) (few : List Move) (small : List Node) → IsSmall sight ms t few small → (n : ℕ) → AreStates n ms t
    → pruned (grown n ms t) ≡ map (node_by (at sight)) (pruned (grown (length sight) few small))
small_step sight ms t few small is n are =
    ap (λ xs. pruned (grown n xs t)) (sym is.moves)
    ∙ (ap (λ u. pruned (grown n (map (move_by (at sight)) few) u)) (sym is.tree)
    ∙ step_moved (at sight) (length sight) n (rising_at n sight is.rises (is.all n are)) few is.within small is.below)

pub small_event : (sight : List ℕ) (ms : List Move) (t : List Node) (few : List Move) (small : List Node) → IsSmall sight ms t few small → (n : ℕ) → AreStates n ms t
    → event_of n ms t ≡ event_of (length sight) few small
small_event sight ms t few small is n are =
    ap (λ xs. event_of n xs t) (sym is.moves)
    ∙ (ap (λ u. event_of n (map (move_by (at sight)) few) u) (sym is.tree)
    ∙ event_moved (at sight) (length sight) n (rising_at n sight is.rises (is.all n are)) few is.within small is.below)

-- renumbering by the sight gives such a tree and moves
pub small_of : (parents states places listed found sight : List ℕ) (ms before again few : List Move) (p s o : List ℕ) → IsStored parents states places → IsStored p s o → IsSight listed before found
    → listed ≡ states → before ≡ ms → sight ≡ found → All (IsMoveInRange (length sight)) few → map (move_by (at sight)) few ≡ again → again ≡ ms
    → All (λ x. x < length sight) (root_states (nodes_of p s o)) → map (node_by (at sight)) (nodes_of p s o) ≡ nodes_of parents states places
    → IsSmall sight ms (nodes_of parents states places) few (nodes_of p s o)
small_of parents states places listed found sight ms before again few p s o stored is in_sight one two three within moves same below tree =
    let seen = is_sight listed (root_states (nodes_of parents states places)) before ms found sight in_sight (one ∙ sym (stored_root parents states places stored)) two three in
    record {
      rises = seen.rises;
      all = λ n are. sight_below n (root_states (nodes_of parents states places)) sight ms seen.adds_none are.states are.moves;
      within = within;
      below = nodes_below (length sight) p s o (subst (λ (xs : List ℕ). All (λ x. x < length sight) xs) (stored_root p s o is) below);
      moves = moves ∙ same;
      tree = tree;
    }

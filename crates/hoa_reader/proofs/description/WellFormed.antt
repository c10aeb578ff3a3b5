-- What a valid text describes is well formed.
use Rattle.std.proofs.Common.{◌≡◌, ◌<◌, ◌==◌, ℕ, Bool, true, List, [], ◌∷◌, ◌++◌, length, map, filter, nat_lt, get_or, Option, Some, None, All, zero}
use Rattle.std.proofs.Common.{suc, arith, AllPairs, sym, ◌∙◌}
use Rattle.std.proofs.lemmas.List.Kept.{AllPairs-filter}
use Rattle.std.proofs.lemmas.List.Quantifiers.{all_pairs_push}
use Rattle.std.proofs.lemmas.List.Elements.{All-from_recursion}
use Rattle.hoa_reader.proofs.validity.NamesDiffer.{names_differ, pairs_differ}
use Rattle.std.proofs.lemmas.Bool.{false≢true, ltb-true, and_parts}
use Rattle.std.specs.Prelude.{filter_map, flat_map, option_to_list}
use Rattle.std.specs.List.{AllByRecursion, enumerate_from, list_all}
use Rattle.std.specs.Option.{option_map_or}
use Rattle.aut_base.specs.Automaton.{LabelledEdge, IsEdgeOf, IsWellFormed}
use Rattle.aut_base.specs.Label.{AllBelow, LabelTree}
use Rattle.aut_base.specs.Marks.{is_in}
use Rattle.hoa_reader.proofs.description.LabelsInRange.{MeansBelow, expanded_below, letter_below, meanings_below, numbers_are_below, sets_in_range}
use Rattle.hoa_reader.proofs.description.StatesInRange.{all_used_below, all_without_repeats, edges_in_order, edges_of, they_differ, tree_edges_from}
use Rattle.hoa_reader.specs.Described.{Meaning, tree_edge_of, tree_edges_of, below, described, expanded}
use Rattle.hoa_reader.specs.inner.Numbers.{after_all, only_state}
use Rattle.hoa_reader.specs.Described.{meanings_of, state_count}
use Rattle.hoa_parser.specs.Raw.{RawTree, Written, WrittenEdge, WrittenState}
use Rattle.hoa_reader.specs.Validity.{IsValid, acceptance_of, alias_lines, body_labels, edges_written, keeps_rule, numbers_below, props_below}
use Rattle.hoa_reader.specs.Validity.{starts_written, states_item, used_states, written_names}
use Rattle.hoa_reader.proofs.validity.RuleParts.{all_labels, is_one_state, state_labels}
use Rattle.hoa_reader.specs.declared.elaborate.Rule.TheVariants.{V4, V5, V6, V8, V9}
use Rattle.aut_base.proofs.lists.AllByRecursion.{AllByRecursion-left, AllByRecursion-right, AllByRecursion-both, AllByRecursion-enumerate_from}
use Rattle.aut_base.proofs.lists.AllByRecursion.{AllByRecursion-from_flat_map, AllByRecursion-from_map, AllByRecursion-from_list_all, AllByRecursion-map}
use Rattle.aut_base.proofs.lists.AllByRecursion.{AllByRecursion-weaker, AllByRecursion-filter, AllByRecursion-flat_map, AllByRecursion-of_each}

-- the numbers of states are below the number of states
abbrev pub AreBelow : ℕ → List ℕ → Type 0
AreBelow n = AllByRecursion (λ q. q < n)

pub used_are_below : (used counts : List ℕ) → list_all (λ n. numbers_below n used) counts ≡ true → AreBelow (get_or counts 0 (after_all used)) used
used_are_below used [] e = all_used_below used
used_are_below used (n ∷ ns) e = AllByRecursion-weaker (λ q. nat_lt q n ≡ true) (λ q. q < n) used (λ q h. ltb-true q n h)
    (AllByRecursion-from_list_all (λ q. nat_lt q n) used (and_parts _ _ e).0)

one_below : (n : ℕ) (group : List ℕ) → (is_one_state group ≡ true) × AreBelow n group → only_state group < n
one_below n [] h = absurd (false≢true h.0)
one_below n (q ∷ qs) h = h.1.0

-- a label that stands there or not, before another
optional_below : (n : ℕ) (ms : List Meaning) (o : Option RawTree) (other : LabelTree) → AllByRecursion (MeansBelow n) ms
    → AllByRecursion (λ t. props_below n t ≡ true) (option_to_list o)
    → AllBelow n other → AllBelow n (option_map_or (expanded ms) o other)
optional_below n ms None other all h there = there
optional_below n ms (Some t) other all h there = expanded_below n ms t all h.0

-- what the rules say of one edge, and of one state
abbrev IsGoodEdge : ℕ → ℕ → WrittenEdge → Type 0
IsGoodEdge n k e = (only_state e.to < n) × AllByRecursion (λ t. props_below k t ≡ true) (option_to_list e.label)

abbrev IsGoodState : ℕ → ℕ → WrittenState → Type 0
IsGoodState n k s = (s.number < n) × AllByRecursion (λ t. props_below k t ≡ true) (option_to_list s.label) × AllByRecursion (IsGoodEdge n k) s.edges

abbrev Labels : ℕ → List RawTree → Type 0
Labels k = AllByRecursion (λ t. props_below k t ≡ true)

good_state : (n k : ℕ) (s : WrittenState)
    → (s.number < n) × (AllByRecursion (λ (e : WrittenEdge). only_state e.to < n) s.edges × Labels k (state_labels s)) → IsGoodState n k s
good_state n k s h =
    let own = option_to_list s.label in
    let others = flat_map (λ (e : WrittenEdge). option_to_list e.label) s.edges in
    let P : RawTree → Type 0 = λ t. props_below k t ≡ true in (
      h.0,
      AllByRecursion-left P own others h.1.1,
      AllByRecursion-both (λ (e : WrittenEdge). only_state e.to < n) (λ (e : WrittenEdge). Labels k (option_to_list e.label)) s.edges h.1.0
          (AllByRecursion-from_flat_map P (λ (e : WrittenEdge). option_to_list e.label) s.edges (AllByRecursion-right P own others h.1.1)),
    )

below_rises : (n : ℕ) → AllPairs (λ x y. x < y) (below n)
below_rises zero = λ i j d l m. absurd (omega (arith, m))
below_rises (suc n) =
    all_pairs_push (λ x y. x < y) (below n) n (below_rises n) (λ k d l. All-from_recursion (λ q. q < n) (below n) (numbers_are_below n) k d l)

tree_edge_good : (w : Written) (s : WrittenState) (i : ℕ) (e : WrittenEdge) → AllByRecursion (MeansBelow (length (written_names w))) (meanings_of w)
    → (s.number < state_count w)
    → Labels (length (written_names w)) (option_to_list s.label) → IsGoodEdge (state_count w) (length (written_names w)) e → IsEdgeOf (described w) (tree_edge_of w s i e)
tree_edge_good w s i e means number labels good =
    let k = length (written_names w) in
    let sets = (acceptance_of w).sets in
    let ours : ℕ → Bool = λ set. is_in set (s.marks ++ e.marks) in
    record {
      from = number;
      to = good.0;
      label = optional_below k (meanings_of w) s.label _ means labels (optional_below k (meanings_of w) e.label _ means good.1 (letter_below k i));
      marks = All-from_recursion (λ mark. mark < sets) (filter ours (below sets))
          (AllByRecursion-filter (λ mark. mark < sets) ours (below sets) (numbers_are_below sets));
      marks_rise = AllPairs-filter (λ m n. m < n) ours (below sets) (below_rises sets);
    }

tree_edges_good : (w : Written) → AllByRecursion (MeansBelow (length (written_names w))) (meanings_of w) → (s : WrittenState)
    → IsGoodState (state_count w) (length (written_names w)) s → AllByRecursion (IsEdgeOf (described w)) (tree_edges_of w s)
tree_edges_good w means s good =
    let P : WrittenEdge → Type 0 = IsGoodEdge (state_count w) (length (written_names w)) in
    AllByRecursion-map (IsEdgeOf (described w)) (λ (p : ℕ × WrittenEdge). tree_edge_of w s p.0 p.1) (enumerate_from 0 s.edges)
    (AllByRecursion-weaker (λ (p : ℕ × WrittenEdge). P p.1) (λ (p : ℕ × WrittenEdge). IsEdgeOf (described w) (tree_edge_of w s p.0 p.1))
    (enumerate_from 0 s.edges)
    (λ p h. tree_edge_good w s p.0 p.1 means good.0 good.1 h) (AllByRecursion-enumerate_from P 0 s.edges good.2))

-- the edges of each state are as they should be
abbrev AreGoodEdges : Written → Type 0
AreGoodEdges w = AllByRecursion (λ (s : WrittenState). AllByRecursion (IsEdgeOf (described w)) (tree_edges_of w s)) w.states

edges_good : (w : Written) → AreGoodEdges w → All (IsEdgeOf (described w)) (edges_of w)
edges_good w good =
    let n = state_count w in
    let P : LabelledEdge → Type 0 = IsEdgeOf (described w) in
    All-from_recursion P (edges_of w) (AllByRecursion-flat_map P (tree_edges_from w) (below n)
    (AllByRecursion-of_each (λ q. AllByRecursion P (tree_edges_from w q)) (below n)
    (λ q. let ours : WrittenState → Bool = λ s. s.number == q in
    AllByRecursion-flat_map P (tree_edges_of w) (filter ours w.states)
    (AllByRecursion-filter (λ (s : WrittenState). AllByRecursion P (tree_edges_of w s)) ours w.states good))))

-- the groups of states that are one state each
groups_below : (n : ℕ) {X : Type 0} (group : X → List ℕ) (xs : List X) → list_all (λ x. is_one_state (group x)) xs ≡ true → AreBelow n (flat_map group xs)
    → AllByRecursion (λ x. only_state (group x) < n) xs
groups_below n group xs ones used =
    let P : ℕ → Type 0 = λ q. q < n in
    AllByRecursion-weaker (λ x. (is_one_state (group x) ≡ true) × AreBelow n (group x)) (λ x. only_state (group x) < n) xs (λ x h. one_below n (group x) h)
    (AllByRecursion-both (λ x. is_one_state (group x) ≡ true) (λ x. AreBelow n (group x)) xs
    (AllByRecursion-from_list_all (λ x. is_one_state (group x)) xs ones)
    (AllByRecursion-from_flat_map P group xs used))

-- the starts, the states of the body and the goals of their edges
states_below : (w : Written) → keeps_rule V6 w ≡ true → AreBelow (state_count w) (used_states w)
states_below w states = used_are_below (used_states w) (filter_map states_item w.items) states

state_edges_good : (w : Written) → keeps_rule V5 w ≡ true → keeps_rule V6 w ≡ true → keeps_rule V8 w ≡ true → AreGoodEdges w
state_edges_good w one states props =
    let n = state_count w in
    let k = length (written_names w) in
    let P : ℕ → Type 0 = λ q. q < n in
    let labels = and_parts _ _ (sym (all_labels (props_below k) (alias_lines w) (body_labels w.states)) ∙ props) in
    let numbers = map (λ (s : WrittenState). s.number) w.states in
    let goals = flat_map (λ (e : WrittenEdge). e.to) (edges_written w) in
    let others = AllByRecursion-right P (flat_map (λ (q : List ℕ). q) (starts_written w)) (numbers ++ goals) (states_below w states) in
    let to = groups_below n (λ (e : WrittenEdge). e.to) (edges_written w) (and_parts _ _ one).1 (AllByRecursion-right P numbers goals others) in
    let means = meanings_below k [] (alias_lines w) tt labels.0 in
    let G : WrittenState → Type 0 = λ s. (s.number < n) × (AllByRecursion (λ (e : WrittenEdge). only_state e.to < n) s.edges × Labels k (state_labels s)) in
    let facts : AllByRecursion G w.states =
    AllByRecursion-both (λ (s : WrittenState). s.number < n)
    (λ (s : WrittenState). AllByRecursion (λ (e : WrittenEdge). only_state e.to < n) s.edges × Labels k (state_labels s)) w.states
    (AllByRecursion-from_map P (λ (s : WrittenState). s.number) w.states (AllByRecursion-left P numbers goals others))
    (AllByRecursion-both (λ (s : WrittenState). AllByRecursion (λ (e : WrittenEdge). only_state e.to < n) s.edges)
    (λ (s : WrittenState). Labels k (state_labels s)) w.states
    (AllByRecursion-from_flat_map (λ (e : WrittenEdge). only_state e.to < n) (λ (s : WrittenState). s.edges) w.states to)
    (AllByRecursion-from_flat_map (λ t. props_below k t ≡ true) state_labels w.states
    (AllByRecursion-from_list_all (props_below k) (body_labels w.states) labels.1))) in
    AllByRecursion-weaker G (λ (s : WrittenState). AllByRecursion (IsEdgeOf (described w)) (tree_edges_of w s)) w.states
    (λ (s : WrittenState) g. tree_edges_good w means s (good_state n k s g)) facts

pub well_formed : (w : Written) → keeps_rule V4 w ≡ true → keeps_rule V5 w ≡ true → keeps_rule V6 w ≡ true → keeps_rule V8 w ≡ true → keeps_rule V9 w ≡ true → IsWellFormed (described w)
well_formed w counted one states props sets =
    let n = state_count w in
    let P : ℕ → Type 0 = λ q. q < n in
    let numbers = map (λ (s : WrittenState). s.number) w.states in
    let goals = flat_map (λ (e : WrittenEdge). e.to) (edges_written w) in
    let starts = AllByRecursion-left P (flat_map (λ (q : List ℕ). q) (starts_written w)) (numbers ++ goals) (states_below w states) in
    let heads = map only_state (starts_written w) in
    record {
      names_differ = pairs_differ (written_names w) (names_differ w.items counted);
      starts_differ = they_differ heads;
      starts = All-from_recursion P _ (all_without_repeats P heads
          (AllByRecursion-map P only_state (starts_written w) (groups_below n (λ (q : List ℕ). q) (starts_written w) (and_parts _ _ one).0 starts)));
      in_order = edges_in_order w;
      edges = edges_good w (state_edges_good w one states props);
      formula = sets_in_range (acceptance_of w).sets (acceptance_of w).formula (and_parts _ _ sets).0;
    }

pub valid_is_well_formed : (w : Written) → IsValid w → IsWellFormed (described w)
valid_is_well_formed w v = well_formed w v.1.1.1.0 v.1.1.1.1.0 v.1.1.1.1.1.0 v.1.1.1.1.1.1.1.0 v.1.1.1.1.1.1.1.1.0

-- the labels of each state's edges speak of the names
pub valid_labels : (w : Written) → IsValid w
    → All (λ (s : WrittenState). AllByRecursion (λ (e : LabelledEdge). AllBelow (length (written_names w)) e.label) (tree_edges_of w s)) w.states
valid_labels w v =
    let P : LabelledEdge → Type 0 = IsEdgeOf (described w) in
    let B : LabelledEdge → Type 0 = λ e. AllBelow (length (written_names w)) e.label in
    All-from_recursion (λ (s : WrittenState). AllByRecursion B (tree_edges_of w s)) w.states
    (AllByRecursion-weaker (λ (s : WrittenState). AllByRecursion P (tree_edges_of w s)) (λ (s : WrittenState). AllByRecursion B (tree_edges_of w s)) w.states
    (λ (s : WrittenState) good. AllByRecursion-weaker P B (tree_edges_of w s) (λ (e : LabelledEdge) g. g.label) good)
    (state_edges_good w v.1.1.1.1.0 v.1.1.1.1.1.0 v.1.1.1.1.1.1.1.0))

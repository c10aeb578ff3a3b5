-- What one pass over the body tells, in the words of the rules and limits.
use Rattle.std.proofs.Common.{◌≡◌, ◌∙◌, ◌+◌, ◌^◌, ◌-◌, ◌<◌, ◌≤◌, ◌==◌, ◌&&◌, ◌||◌, ℕ, Bool, true, false, not, max, List, [], ◌∷◌, length, Option, None, Some, ap, arith, nat_le, nat_lt, refl}
use Rattle.std.proofs.lemmas.Bool.Decides.{nat_tests}
use Rattle.std.proofs.lemmas.List.Folds.{list_all-append}
use Rattle.std.specs.List.{list_all}
use Rattle.std.specs.Prelude.{flat_map, is_none, is_some, option_to_list}
use Rattle.aut_base.proofs.lists.Lists.{list_all-flat_map}
use Rattle.hoa_parser.specs.Raw as raw
use Rattle.hoa_parser.specs.Raw.{RawTree, RawTrees, WrittenEdge, WrittenState}
use Rattle.hoa_reader.proofs.counting.AfterAll.{after_all-append, goals-cons, numbers_below-after}
use Rattle.hoa_reader.proofs.counting.Weights.{edges-cons}
use Rattle.hoa_reader.specs.inner.Numbers.{after_all}
use Rattle.hoa_reader.specs.Validity.{aliases_among, all_leaves_pass, has_edge_per_letter, marks_below, numbers_below, props_below}
use Rattle.hoa_reader.proofs.validity.RuleParts.{is_one_state, labels_one_way, state_labels}
use Rattle.hoa_reader.specs.declared.elaborate.sums.Sums.{Sums}
use Rattle.hoa_reader.specs.inner.Growing.{cap}
use Rattle.hoa_reader.specs.inner.PickedOut.{edge_targets, numbers}
use Rattle.hoa_reader.specs.inner.Sums.{all_props_after, beside, body_sums, edge_sums, edges_sums, nothing, option_plain, option_props, props_after, state_sums}
use Rattle.hoa_reader.specs.inner.Weighing.{all_edges}

pub and_in_turn : (a b c : Bool) → ((a && b) && c) ≡ (a && (b && c))
and_in_turn true b c = refl
and_in_turn false b c = refl

pub and_true : (a : Bool) → (a && true) ≡ a
and_true true = refl
and_true false = refl

-- What is told together, in whatever groups.
pub beside_in_turn : (a b c : Sums) → beside (beside a b) c ≡ beside a (beside b c)
beside_in_turn a b c =
    let after : max (max a.after b.after) c.after ≡ max a.after (max b.after c.after) = omega arith in
    let props : max (max a.props b.props) c.props ≡ max a.props (max b.props c.props) = omega arith in
    let marks : max (max a.marks b.marks) c.marks ≡ max a.marks (max b.marks c.marks) = omega arith in
    let edges : cap (cap (a.edges + b.edges) + c.edges) ≡ cap (a.edges + cap (b.edges + c.edges)) = omega arith in
    let height : max (max a.height b.height) c.height ≡ max a.height (max b.height c.height) = omega arith in
    let weight : cap (cap (a.weight + b.weight) + c.weight) ≡ cap (a.weight + cap (b.weight + c.weight)) = omega arith in
    λ i. record {
      single = and_in_turn a.single b.single c.single i;
      after = after i;
      props = props i;
      plain = and_in_turn a.plain b.plain c.plain i;
      marks = marks i;
      labelled = and_in_turn a.labelled b.labelled c.labelled i;
      bare = and_in_turn a.bare b.bare c.bare i;
      one_way = and_in_turn a.one_way b.one_way c.one_way i;
      letters = and_in_turn a.letters b.letters c.letters i;
      edges = edges i;
      height = height i;
      weight = weight i;
    }

-- it counts no further than a 64-bit number goes
pub record Fits (a : Sums) : Type 0 where
  pub edges : a.edges ≤ 2 ^ 64 - 1
  pub weight : a.weight ≤ 2 ^ 64 - 1

pub with_nothing : (a : Sums) → Fits a → beside a nothing ≡ a
with_nothing a fits =
    let after : max a.after 0 ≡ a.after = omega arith in
    let props : max a.props 0 ≡ a.props = omega arith in
    let marks : max a.marks 0 ≡ a.marks = omega arith in
    let edges : cap (a.edges + 0) ≡ a.edges = omega (arith, fits.edges) in
    let height : max a.height 0 ≡ a.height = omega arith in
    let weight : cap (a.weight + 0) ≡ a.weight = omega (arith, fits.weight) in
    λ i. record {
      single = and_true a.single i;
      after = after i;
      props = props i;
      plain = and_true a.plain i;
      marks = marks i;
      labelled = and_true a.labelled i;
      bare = and_true a.bare i;
      one_way = and_true a.one_way i;
      letters = and_true a.letters i;
      edges = edges i;
      height = height i;
      weight = weight i;
    }

nothing_before : (a : Sums) → Fits a → beside nothing a ≡ a
nothing_before a fits =
    let after : max 0 a.after ≡ a.after = omega arith in
    let props : max 0 a.props ≡ a.props = omega arith in
    let marks : max 0 a.marks ≡ a.marks = omega arith in
    let edges : cap (0 + a.edges) ≡ a.edges = omega (arith, fits.edges) in
    let height : max 0 a.height ≡ a.height = omega arith in
    let weight : cap (0 + a.weight) ≡ a.weight = omega (arith, fits.weight) in
    λ i. record {
      single = a.single;
      after = after i;
      props = props i;
      plain = a.plain;
      marks = marks i;
      labelled = a.labelled;
      bare = a.bare;
      one_way = a.one_way;
      letters = a.letters;
      edges = edges i;
      height = height i;
      weight = weight i;
    }

pub nothing_fits : Fits nothing
nothing_fits = record { edges = omega arith; weight = omega arith }

pub beside_fits : (a b : Sums) → Fits (beside a b)
beside_fits a b = record { edges = omega arith; weight = omega arith }

edges_fit : (es : List WrittenEdge) → Fits (edges_sums es)
edges_fit [] = nothing_fits
edges_fit (e ∷ es) = beside_fits (edge_sums e) (edges_sums es)

body_fits : (n : ℕ) (ss : List WrittenState) → Fits (body_sums n ss)
body_fits n [] = nothing_fits
body_fits n (s ∷ ss) = beside_fits (state_sums n s) (body_sums n ss)

pub edges_begin : (es : List WrittenEdge) → beside nothing (edges_sums es) ≡ edges_sums es
edges_begin es = nothing_before (edges_sums es) (edges_fit es)

pub body_begins : (n : ℕ) (ss : List WrittenState) → beside nothing (body_sums n ss) ≡ body_sums n ss
body_begins n ss = nothing_before (body_sums n ss) (body_fits n ss)

-- Of a label: a bound is met by each proposition where it is by the least number above them.
le_max : (a b n : ℕ) (x y : Bool) → x ≡ nat_le a n → y ≡ nat_le b n → (x && y) ≡ nat_le (max a b) n
le_max a b n x y e f = grind (arith, nat_tests)

none_passes : (n : ℕ) → true ≡ nat_le 0 n
none_passes n = grind (arith, nat_tests)

one_passes : (i n : ℕ) → nat_lt i n ≡ nat_le (i + 1) n
one_passes i n = grind (arith, nat_tests)

mutual
  pub props_tree : (n : ℕ) (t : RawTree) → props_below n t ≡ nat_le (props_after t) n
  props_tree n raw.True = none_passes n
  props_tree n raw.False = none_passes n
  props_tree n (raw.Prop i) = one_passes i n
  props_tree n (raw.Alias name) = none_passes n
  props_tree n (raw.Not t) = props_tree n t
  props_tree n (raw.And a b cs) = le_max _ _ n _ _ (props_tree n a) (le_max _ _ n _ _ (props_tree n b) (props_trees n cs))
  props_tree n (raw.Or a b cs) = le_max _ _ n _ _ (props_tree n a) (le_max _ _ n _ _ (props_tree n b) (props_trees n cs))

  props_trees : (n : ℕ) (ts : RawTrees) → all_leaves_pass (λ i. nat_lt i n) (λ name. true) ts ≡ nat_le (all_props_after ts) n
  props_trees n raw.none = none_passes n
  props_trees n (raw.more t ts) = le_max _ _ n _ _ (props_tree n t) (props_trees n ts)

props_option : (n : ℕ) (o : Option RawTree) → list_all (props_below n) (option_to_list o) ≡ nat_le (option_props o) n
props_option n None = none_passes n
props_option n (Some t) = and_true (props_below n t) ∙ props_tree n t

plain_option : (o : Option RawTree) → list_all (aliases_among []) (option_to_list o) ≡ option_plain o
plain_option None = refl
plain_option (Some t) = and_true (aliases_among [] t)

-- a test of the labels of states and edges, label by label
labels_test : (p : RawTree → Bool) (s : WrittenState)
    → list_all p (state_labels s) ≡ (list_all p (option_to_list s.label) && list_all (λ (e : WrittenEdge). list_all p (option_to_list e.label)) s.edges)
labels_test p s =
    list_all-append p (option_to_list s.label) (flat_map (λ (e : WrittenEdge). option_to_list e.label) s.edges)
    ∙ ap (λ b. list_all p (option_to_list s.label) && b) (list_all-flat_map p (λ (e : WrittenEdge). option_to_list e.label) s.edges)

-- Of the edges of a state.
edges_single : (es : List WrittenEdge) → list_all (λ e. is_one_state e.to) es ≡ (edges_sums es).single
edges_single [] = refl
edges_single (e ∷ es) = ap (λ b. is_one_state e.to && b) (edges_single es)

edges_after : (es : List WrittenEdge) → after_all (flat_map (λ (e : WrittenEdge). e.to) es) ≡ (edges_sums es).after
edges_after [] = refl
edges_after (e ∷ es) = after_all-append e.to (flat_map (λ (e : WrittenEdge). e.to) es) ∙ ap (max (after_all e.to)) (edges_after es)

edges_props : (n : ℕ) (es : List WrittenEdge) → list_all (λ (e : WrittenEdge). list_all (props_below n) (option_to_list e.label)) es ≡ nat_le (edges_sums es).props n
edges_props n [] = none_passes n
edges_props n (e ∷ es) = le_max _ _ n _ _ (props_option n e.label) (edges_props n es)

edges_plain : (es : List WrittenEdge) → list_all (λ (e : WrittenEdge). list_all (aliases_among []) (option_to_list e.label)) es ≡ (edges_sums es).plain
edges_plain [] = refl
edges_plain (e ∷ es) = λ i. plain_option e.label i && edges_plain es i

edges_marks : (n : ℕ) (es : List WrittenEdge) → list_all (λ e. numbers_below n e.marks) es ≡ nat_le (edges_sums es).marks n
edges_marks n [] = none_passes n
edges_marks n (e ∷ es) = le_max _ _ n _ _ (numbers_below-after n e.marks) (edges_marks n es)

edges_labelled : (es : List WrittenEdge) → list_all (λ e. is_some e.label) es ≡ (edges_sums es).labelled
edges_labelled [] = refl
edges_labelled (e ∷ es) = ap (λ b. is_some e.label && b) (edges_labelled es)

edges_bare : (es : List WrittenEdge) → list_all (λ e. is_none e.label) es ≡ (edges_sums es).bare
edges_bare [] = refl
edges_bare (e ∷ es) = ap (λ b. is_none e.label && b) (edges_bare es)

-- Of all states: what the rules ask.
pub body_single : (names : ℕ) (ss : List WrittenState) → list_all (λ s. list_all (λ e. is_one_state e.to) s.edges) ss ≡ (body_sums names ss).single
body_single names [] = refl
body_single names (s ∷ ss) = λ i. edges_single s.edges i && body_single names ss i

pub body_after : (names : ℕ) (ss : List WrittenState) → max (after_all (numbers ss)) (after_all (edge_targets ss)) ≡ (body_sums names ss).after
body_after names [] = refl
body_after names (s ∷ ss) =
    let here = edges_after s.edges in
    let rest = body_after names ss in
    let split = goals-cons s ss in
    omega (arith, here, rest, split)

pub body_props : (names n : ℕ) (ss : List WrittenState) → list_all (props_below n) (flat_map state_labels ss) ≡ nat_le (body_sums names ss).props n
body_props names n ss = list_all-flat_map (props_below n) state_labels ss ∙ each ss
  where
    each : (ss : List WrittenState) → list_all (λ s. list_all (props_below n) (state_labels s)) ss ≡ nat_le (body_sums names ss).props n
    each [] = none_passes n
    each (s ∷ ss) = le_max _ _ n _ _ (labels_test (props_below n) s ∙ le_max _ _ n _ _ (props_option n s.label) (edges_props n s.edges)) (each ss)

pub body_plain : (names : ℕ) (ss : List WrittenState) → list_all (aliases_among []) (flat_map state_labels ss) ≡ (body_sums names ss).plain
body_plain names ss = list_all-flat_map (aliases_among []) state_labels ss ∙ each ss
  where
    each : (ss : List WrittenState) → list_all (λ s. list_all (aliases_among []) (state_labels s)) ss ≡ (body_sums names ss).plain
    each [] = refl
    each (s ∷ ss) = λ i. (labels_test (aliases_among []) s ∙ (λ j. plain_option s.label j && edges_plain s.edges j)) i && each ss i

pub body_marks : (names n : ℕ) (ss : List WrittenState) → list_all (marks_below n) ss ≡ nat_le (body_sums names ss).marks n
body_marks names n [] = none_passes n
body_marks names n (s ∷ ss) = le_max _ _ n _ _ (le_turned _ _ n _ _ (numbers_below-after n s.marks) (edges_marks n s.edges)) (body_marks names n ss)
  where
    le_turned : (a b n : ℕ) (x y : Bool) → x ≡ nat_le a n → y ≡ nat_le b n → (x && y) ≡ nat_le (max b a) n
    le_turned a b n x y e f = grind (arith, nat_tests)

pub body_one_way : (names : ℕ) (ss : List WrittenState) → list_all labels_one_way ss ≡ (body_sums names ss).one_way
body_one_way names [] = refl
body_one_way names (s ∷ ss) = λ i. (edges_bare s.edges i || (is_none s.label && edges_labelled s.edges i)) && body_one_way names ss i

pub body_letters : (names : ℕ) (ss : List WrittenState) → list_all (has_edge_per_letter names) ss ≡ (body_sums names ss).letters
body_letters names [] = refl
body_letters names (s ∷ ss) =
    λ i. ((length s.edges == 0) || ((length s.edges == 2 ^ names) || not (is_none s.label && edges_bare s.edges i))) && body_letters names ss i

-- and what the limits count
pub body_edges : (names : ℕ) (ss : List WrittenState) → cap (length (all_edges ss)) ≡ (body_sums names ss).edges
body_edges names [] = refl
body_edges names (s ∷ ss) = let rest = body_edges names ss in let sum = edges-cons s ss in omega (arith, rest, sum)

-- a bound that is below the greatest number is passed alike by what is counted up to it
pub capped_passes : (most n m : ℕ) → most < 2 ^ 64 - 1 → cap n ≡ m → nat_lt most m ≡ nat_lt most n
capped_passes most n m l e = grind (arith, nat_tests)

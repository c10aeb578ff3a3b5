-- Where labels are implicit at every state, each letter meets just one edge of every state.
use Rattle.std.proofs.Common.{◌≡◌, ◌∙◌, ◌+◌, ◌^◌, ◌==◌, ◌<◌, ◌≤◌, ◌&&◌, ⊎_elim, ℕ, zero, suc, Bool, true, cond, is_none, List, [], ◌∷◌, ◌++◌, All}
use Rattle.std.proofs.Common.{AllPairs, Contains, None, Option, Some, ap, arith, filter, length, map, refl, subst, sym}
use Rattle.std.proofs.lemmas.Bool.{and_parts, cases_lt, eq-eqb, eqb-true, false≢true, ne_eqb}
use Rattle.std.proofs.lemmas.Grind.{flat_map-append}
use Rattle.std.proofs.lemmas.List.{append-nil, get_or-map, length-map}
use Rattle.std.proofs.lemmas.List.Elements.{All-append, Contains-append_left, Contains-append_right}
use Rattle.std.proofs.lemmas.List.Kept.{AllPairs-cons}
use Rattle.std.specs.List.{enumerate_from, list_all}
use Rattle.std.specs.Option.{option_map_or}
use Rattle.std.specs.Prelude.{flat_map}
use Rattle.aut_base.proofs.lists.Members.{first_there, later_there}
use Rattle.aut_base.proofs.order.AllPairsOf.{pairs_append, pairs_map}
use Rattle.aut_base.specs.Automaton.{LabelledEdge}
use Rattle.aut_base.specs.CanonicalLabel.{canonical, canonical_label}
use Rattle.aut_base.specs.Label.{LabelTree, holds_at, truth}
use Rattle.aut_base.specs.Word.{NameSet}
use Rattle.aut_core.specs.Deterministic.{AreApart, GoesOneWay, is_met}
use Rattle.hoa_parser.specs.Raw.{RawTree, Written, WrittenEdge, WrittenState}
use Rattle.hoa_reader.proofs.description.StatesInRange.{edges_of, tree_edges_from}
use Rattle.hoa_reader.proofs.labels.LettersApart.{letter_of_all, number_small, number_there, one_number, settled_letter}
use Rattle.hoa_reader.specs.Described.{below, described, expanded, letter_label, meanings_of, state_count, tree_edge_of, tree_edges_of}
use Rattle.hoa_reader.specs.Validity.{no_edge_labelled, written_names}
use Rattle.hoa_reader.specs.declared.elaborate.frame.Frame.{Frame}
use Rattle.hoa_reader.specs.inner.Frames.{IsFrameOf}
use Rattle.hoa_reader.specs.inner.Implicit.{AreImplicit, each_implicit, is_implicit}
use Rattle.hoa_reader.specs.inner.TreeEdges.{settled}
use Rattle.label_guards.specs.Numbers.{is_at}

nothing : {A : Type 0} (o : Option A) → is_none o ≡ true → o ≡ None
nothing None e = refl
nothing (Some x) e = absurd (false≢true e)

-- the number of names
abbrev width : Written → ℕ
width w = length (written_names w)

-- of no letter both edges, once their labels are settled
abbrev Parts : Written → LabelledEdge → LabelledEdge → Type 0
Parts w d e = AreApart (written_names w) (settled (width w) d) (settled (width w) e)

-- the edges from the i-th on
abbrev from_there : Written → WrittenState → ℕ → List WrittenEdge → List LabelledEdge
from_there w s i es = map (λ (p : ℕ × WrittenEdge). tree_edge_of w s p.0 p.1) (enumerate_from i es)

-- the edge is met by the letter of its number alone
met_at : (w : Written) (s : WrittenState) (i : ℕ) (e : WrittenEdge) → s.label ≡ None → e.label ≡ None → (letter : NameSet)
    → is_met (written_names w) letter (settled (width w) (tree_edge_of w s i e)) ≡ is_at i (width w) (holds_at (written_names w) letter)
met_at w s i e own other letter =
    let f = expanded (meanings_of w) in
    let label : (tree_edge_of w s i e).label ≡ letter_label (width w) i =
    ap (λ (o : Option RawTree). option_map_or f o (option_map_or f e.label (letter_label (width w) i))) own ∙ ap (λ (o : Option RawTree). option_map_or f o (letter_label (width w) i)) other in
    ap (λ (t : LabelTree). truth (holds_at (written_names w) letter) (canonical_label (width w) t)) label ∙ settled_letter (width w) i (holds_at (written_names w) letter)

all_cons : {X : Type 0} (P : X → Type 0) (x : X) (xs : List X) → P x → All P xs → All P (x ∷ xs)
all_cons P x xs here others zero d l = here
all_cons P x xs here others (suc k) d l = others k d (omega (arith, l))

all_from : (w : Written) (s : WrittenState) (i : ℕ) (es : List WrittenEdge) → All (λ (e : LabelledEdge). e.from ≡ s.number) (from_there w s i es)
all_from w s i [] = λ k d l. absurd (omega (arith, l))
all_from w s i (e ∷ es) = all_cons (λ (e : LabelledEdge). e.from ≡ s.number) (tree_edge_of w s i e) (from_there w s (i + 1) es) refl (all_from w s (i + 1) es)

-- one edge and those behind it
one_apart : (w : Written) (s : WrittenState) (i j : ℕ) (x : WrittenEdge) (es : List WrittenEdge) → s.label ≡ None → x.label ≡ None → list_all (λ (e : WrittenEdge). is_none e.label) es ≡ true → i < j
    → j + length es ≤ 2 ^ width w → All (Parts w (tree_edge_of w s i x)) (from_there w s j es)
one_apart w s i j x [] own bare others before within = λ k d l. absurd (omega (arith, l))
one_apart w s i j x (e ∷ es) own bare others before within =
    let two = and_parts (is_none e.label) (list_all (λ (e : WrittenEdge). is_none e.label) es) others in
    all_cons (Parts w (tree_edge_of w s i x)) (tree_edge_of w s j e) (from_there w s (j + 1) es)
    (λ letter first second.
    let on = holds_at (written_names w) letter in
    let same = one_number (width w) i j on (omega (arith, before, within)) (omega (arith, within)) (sym (met_at w s i x own bare letter) ∙ first)
    (sym (met_at w s j e own (nothing e.label two.0) letter) ∙ second) in
    absurd (omega (arith, same, before)))
    (one_apart w s i (j + 1) x es own bare two.1 (omega (arith, before)) (omega (arith, within)))

all_apart : (w : Written) (s : WrittenState) (i : ℕ) (es : List WrittenEdge) → s.label ≡ None → list_all (λ (e : WrittenEdge). is_none e.label) es ≡ true → i + length es ≤ 2 ^ width w
    → AllPairs (Parts w) (from_there w s i es)
all_apart w s i [] own others within = λ a b d l m. absurd (omega (arith, m))
all_apart w s i (e ∷ es) own others within =
    let two = and_parts (is_none e.label) (list_all (λ (e : WrittenEdge). is_none e.label) es) others in
    AllPairs-cons (Parts w) (tree_edge_of w s i e) (from_there w s (i + 1) es)
    (one_apart w s i (i + 1) e es own (nothing e.label two.0) two.1 (omega arith) (omega (arith, within))) (all_apart w s (i + 1) es own two.1 (omega (arith, within)))

-- an edge of the list that the letter meets
record IsMetAmong (w : Written) (q : ℕ) (letter : NameSet) (es : List LabelledEdge) : Type 0 where
  edge : LabelledEdge
  from : edge.from ≡ q
  there : Contains es edge
  meets : is_met (written_names w) letter (settled (width w) edge) ≡ true

one_met : (w : Written) (s : WrittenState) (i m : ℕ) (es : List WrittenEdge) (letter : NameSet) → s.label ≡ None → list_all (λ (e : WrittenEdge). is_none e.label) es ≡ true → i ≤ m → m < i + length es
    → is_at m (width w) (holds_at (written_names w) letter) ≡ true → IsMetAmong w s.number letter (from_there w s i es)
one_met w s i m [] letter own others low high at = absurd (omega (arith, low, high))
one_met w s i m (e ∷ es) letter own others low high at =
    let two = and_parts (is_none e.label) (list_all (λ (e : WrittenEdge). is_none e.label) es) others in
    ⊎_elim
    (λ (later : i < m).
    let found = one_met w s (i + 1) m es letter own two.1 (omega (arith, later)) (omega (arith, high)) at in
    record { edge = found.edge; from = found.from; there = later_there (tree_edge_of w s i e) (from_there w s (i + 1) es) found.edge found.there; meets = found.meets })
    (λ (here : m ≤ i).
    let same : m ≡ i = omega (arith, here, low) in
    record {
      edge = tree_edge_of w s i e;
      from = refl;
      there = first_there (tree_edge_of w s i e) (from_there w s (i + 1) es);
      meets = met_at w s i e own (nothing e.label two.0) letter ∙ subst (λ n. is_at n (width w) (holds_at (written_names w) letter) ≡ true) same at;
    })
    (cases_lt i m)

-- the state of a number
record IsAlone (n q : ℕ) (ss : List WrittenState) : Type 0 where
  state : WrittenState
  alone : filter (λ (s : WrittenState). s.number == q) ss ≡ state ∷ []
  number : state.number ≡ q
  implicit : is_implicit n state ≡ true

none_before : (n k q : ℕ) (ss : List WrittenState) → each_implicit n k ss ≡ true → q < k → filter (λ (s : WrittenState). s.number == q) ss ≡ []
none_before n k q [] each before = refl
none_before n k q (s ∷ ss) each before =
    let parts = and_parts ((s.number == k) && is_implicit n s) (each_implicit n (k + 1) ss) each in
    let own = and_parts (s.number == k) (is_implicit n s) parts.0 in
    let number : s.number ≡ k = eqb-true s.number k own.0 in
    ap (λ t. cond t (s ∷ filter (λ (s : WrittenState). s.number == q) ss) (filter (λ (s : WrittenState). s.number == q) ss)) (ne_eqb s.number q (λ e. omega (arith, e, number, before)))
    ∙ none_before n (k + 1) q ss parts.1 (omega (arith, before))

alone_there : (n k q : ℕ) (ss : List WrittenState) → each_implicit n k ss ≡ true → k ≤ q → q < k + length ss → IsAlone n q ss
alone_there n k q [] each low high = absurd (omega (arith, low, high))
alone_there n k q (s ∷ ss) each low high =
    let parts = and_parts ((s.number == k) && is_implicit n s) (each_implicit n (k + 1) ss) each in
    let own = and_parts (s.number == k) (is_implicit n s) parts.0 in
    let number : s.number ≡ k = eqb-true s.number k own.0 in
    let by : Bool → List WrittenState = λ t. cond t (s ∷ filter (λ (s : WrittenState). s.number == q) ss) (filter (λ (s : WrittenState). s.number == q) ss) in
    ⊎_elim
    (λ (later : k < q).
    let found = alone_there n (k + 1) q ss parts.1 (omega (arith, later)) (omega (arith, high)) in
    record { state = found.state; alone = ap by (ne_eqb s.number q (λ e. omega (arith, e, number, later))) ∙ found.alone; number = found.number; implicit = found.implicit })
    (λ (here : q ≤ k).
    let same : s.number ≡ q = omega (arith, here, low, number) in
    record {
      state = s;
      alone = ap by (eq-eqb s.number q same) ∙ ap (λ (xs : List WrittenState). s ∷ xs) (none_before n (k + 1) q ss parts.1 (omega (arith, here)));
      number = same;
      implicit = own.1;
    })
    (cases_lt k q)

-- what is so of the edges of one state
record GoesOneWayFrom (w : Written) (q : ℕ) : Type 0 where
  from : All (λ (e : LabelledEdge). e.from ≡ q) (tree_edges_from w q)
  apart : AllPairs (Parts w) (tree_edges_from w q)
  met : (letter : NameSet) → IsMetAmong w q letter (tree_edges_from w q)

one_state : (w : Written) (q : ℕ) → AreImplicit (width w) (state_count w) w.states → q < state_count w → GoesOneWayFrom w q
one_state w q are within =
    let found = alone_there (width w) 0 q w.states are.each (omega arith) (omega (arith, within, are.size)) in
    let s = found.state in
    let bare = and_parts (is_none s.label && no_edge_labelled s) (length s.edges == 2 ^ width w) found.implicit in
    let none = and_parts (is_none s.label) (list_all (λ (e : WrittenEdge). is_none e.label) s.edges) bare.0 in
    let own = nothing s.label none.0 in
    let count : length s.edges ≡ 2 ^ width w = eqb-true (length s.edges) (2 ^ width w) bare.1 in
    let edges : tree_edges_from w q ≡ from_there w s 0 s.edges = ap (flat_map (tree_edges_of w)) found.alone ∙ append-nil (tree_edges_of w s) in
    record {
      from = subst (λ n. All (λ (e : LabelledEdge). e.from ≡ n) (tree_edges_from w q)) found.number (subst (All (λ (e : LabelledEdge). e.from ≡ s.number)) (sym edges) (all_from w s 0 s.edges));
      apart = subst (AllPairs (Parts w)) (sym edges) (all_apart w s 0 s.edges own none.1 (omega (arith, count)));
      met = λ letter.
          let on = holds_at (written_names w) letter in
          let small = number_small (width w) on in
          subst (λ n. IsMetAmong w n letter (tree_edges_from w q)) found.number
          (subst (IsMetAmong w s.number letter) (sym edges)
          (one_met w s 0 (letter_of_all (width w) on) s.edges letter own none.1 (omega arith) (omega (arith, small, count)) (number_there (width w) on)));
    }

-- the edges of the states below a number
abbrev edges_below : Written → ℕ → List LabelledEdge
edges_below w m = flat_map (tree_edges_from w) (below m)

edges_below_next : (w : Written) (m : ℕ) → edges_below w (suc m) ≡ edges_below w m ++ tree_edges_from w m
edges_below_next w m = flat_map-append (tree_edges_from w) (below m) (m ∷ []) ∙ ap (λ (es : List LabelledEdge). edges_below w m ++ es) (append-nil (tree_edges_from w m))

weaker_from : (w : Written) (q m : ℕ) → q < m → GoesOneWayFrom w q → All (λ (e : LabelledEdge). e.from < m) (tree_edges_from w q)
weaker_from w q m less one k d l = let from = one.from k d l in omega (arith, from, less)

below_from : (w : Written) (m : ℕ) → ((q : ℕ) → q < m → GoesOneWayFrom w q) → All (λ (e : LabelledEdge). e.from < m) (edges_below w m)
below_from w m each = up_to m (omega arith)
  where
    up_to : (n : ℕ) → n ≤ m → All (λ (e : LabelledEdge). e.from < m) (edges_below w n)
    up_to zero most = λ k d l. absurd (omega (arith, l))
    up_to (suc n) most =
        subst (All (λ (e : LabelledEdge). e.from < m)) (sym (edges_below_next w n))
        (All-append (λ (e : LabelledEdge). e.from < m) (edges_below w n) (tree_edges_from w n) (up_to n (omega (arith, most))) (weaker_from w n m (omega (arith, most)) (each n (omega (arith, most)))))

-- no letter meets two edges of one state
abbrev Differ : Written → LabelledEdge → LabelledEdge → Type 0
Differ w d e = d.from ≡ e.from → Parts w d e

below_apart : (w : Written) (m : ℕ) → ((q : ℕ) → q < m → GoesOneWayFrom w q) → AllPairs (Differ w) (edges_below w m)
below_apart w zero each = λ i j d l v. absurd (omega (arith, v))
below_apart w (suc m) each =
    let here = each m (omega arith) in
    let before = below_from w m (λ q l. each q (omega (arith, l))) in
    subst (AllPairs (Differ w)) (sym (edges_below_next w m))
    (pairs_append (Differ w) (edges_below w m) (tree_edges_from w m) (below_apart w m (λ q l. each q (omega (arith, l)))) (λ i j d l v same. here.apart i j d l v)
    (λ k d l n e v same. absurd (let first = before k d l in let second = here.from n e v in omega (arith, first, second, same))))

below_met : (w : Written) (m q : ℕ) (letter : NameSet) → ((r : ℕ) → r < m → GoesOneWayFrom w r) → q < m → IsMetAmong w q letter (tree_edges_from w q) → IsMetAmong w q letter (edges_below w m)
below_met w zero q letter each within met = absurd (omega (arith, within))
below_met w (suc m) q letter each within met = ⊎_elim
    (λ (less : q < m).
    let found = below_met w m q letter (λ r l. each r (omega (arith, l))) less met in
    record {
      edge = found.edge;
      from = found.from;
      there = subst (λ (es : List LabelledEdge). Contains es found.edge) (sym (edges_below_next w m)) (Contains-append_left (edges_below w m) (tree_edges_from w m) found.edge found.there);
      meets = found.meets;
    })
    (λ (here : m ≤ q).
    let same : q ≡ m = omega (arith, here, within) in
    record {
      edge = met.edge;
      from = met.from;
      there = subst (λ (es : List LabelledEdge). Contains es met.edge) (sym (edges_below_next w m))
          (Contains-append_right (edges_below w m) (tree_edges_from w m) met.edge (subst (λ n. Contains (tree_edges_from w n) met.edge) same met.there));
      meets = met.meets;
    })
    (cases_lt q m)

settled_there : (n : ℕ) (es : List LabelledEdge) (e : LabelledEdge) → Contains es e → Contains (map (settled n) es) (settled n e)
settled_there n es e there = (there.0, omega (arith, there.1, length-map es (settled n)), get_or-map (settled n) es there.0 e (settled n e) there.1 ∙ ap (settled n) there.2)

pub one_way : (w : Written) → AreImplicit (width w) (state_count w) w.states → GoesOneWay (canonical (described w))
one_way w are =
    let each : (q : ℕ) → q < state_count w → GoesOneWayFrom w q = λ q l. one_state w q are l in
    record {
      disjoint = pairs_map (λ (d e : LabelledEdge). d.from ≡ e.from → AreApart (written_names w) d e) (settled (width w)) (edges_of w) (below_apart w (state_count w) each);
      on = λ q l letter.
          let met = below_met w (state_count w) q letter each l ((each q l).met letter) in
          record { edge = settled (width w) met.edge; is_edge = settled_there (width w) (edges_of w) met.edge met.there; from = met.from; meets = met.meets };
    }

-- in the words of the frame
pub implicit_in : (w : Written) (f : Frame) (ws : List WrittenState) → IsFrameOf w f → ws ≡ w.states → AreImplicit f.names f.states ws → AreImplicit (width w) (state_count w) w.states
implicit_in w f ws of same are =
    subst (λ n. AreImplicit n (state_count w) w.states) of.count (subst (λ m. AreImplicit f.names m w.states) of.states (subst (AreImplicit f.names f.states) same are))

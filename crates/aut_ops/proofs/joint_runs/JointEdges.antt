-- The edges of a product, and the pairs between which they lead.
use Rattle.std.proofs.Common.{◌≡◌, ◌≢◌, ◌∙◌, ◌==◌, ◌+◌, ◌<◌, ℕ, Bool, true, false, cond, List, [], ◌∷◌, ◌++◌, AllPairs, Contains, Some, ap, arith, inl, inr, length, map, refl, slice_get, subst, sym}
use Rattle.std.proofs.lemmas.Bool.{eq-eqb, eqb-true}
use Rattle.std.proofs.lemmas.List.Elements.{All-contains}
use Rattle.std.specs.Prelude.{flat_map}
use Rattle.aut_base.proofs.lists.Members.{first_there, from_filter, from_flat_map, from_map, none_there, there_cases, there_filter, there_flat_map, there_map}
use Rattle.aut_base.specs.Automaton.{Automaton, IsEdgeOf, IsWellFormed, LabelledEdge}
use Rattle.aut_core.specs.Surveys.{edges_from}
use Rattle.aut_ops.proofs.pairs.BreadthFirst.{listed_differ, next_listed, reached_keeps, start_listed}
use Rattle.aut_ops.proofs.pairs.Places.{pair_tells, place_there}
use Rattle.aut_ops.specs.BreadthFirst.{IsReachedFrom}
use Rattle.aut_ops.specs.Labels.{both_labels, is_never}
use Rattle.aut_ops.specs.Products.{ArePairs, JointEdge, joint_edge, joint_edges, next_pairs, numbered, same_pair, start_pairs}

-- the product edge of two edges
abbrev pub joined : ℕ → ℕ → LabelledEdge → LabelledEdge → JointEdge
joined names sets d e = record { from = (d.from, e.from); label = both_labels names d.label e.label; to = (d.to, e.to); marks = d.marks ++ map (λ mark. mark + sets) e.marks }

-- the two edges of which a product edge is made
pub record MadeOf (a b : Automaton) (pair : ℕ × ℕ) (j : JointEdge) : Type 0 where
  pub first : LabelledEdge
  pub second : LabelledEdge
  pub in_first : Contains a.edges first
  pub in_second : Contains b.edges second
  pub first_from : first.from ≡ pair.0
  pub second_from : second.from ≡ pair.1
  pub some : is_never (length a.names) (both_labels (length a.names) first.label second.label) ≡ false
  pub is : joined (length a.names) a.sets first second ≡ j

module _ (a b : Automaton) where
  alone : (d e : LabelledEdge) (j : JointEdge) (t : Bool) → Contains (cond t [] (joined (length a.names) a.sets d e ∷ [])) j → joined (length a.names) a.sets d e ≡ j
  alone d e j true there = absurd (none_there j there)
  alone d e j false there = elim (there_cases (joined (length a.names) a.sets d e) [] j there) [ inl is ↦ is | inr later ↦ absurd (none_there j later) ]

  not_alone : (d e : LabelledEdge) (j : JointEdge) (t : Bool) → Contains (cond t [] (joined (length a.names) a.sets d e ∷ [])) j → t ≡ false
  not_alone d e j true there = absurd (none_there j there)
  not_alone d e j false there = refl

  pub made_of : (pair : ℕ × ℕ) (j : JointEdge) → Contains (joint_edges a b pair) j → MadeOf a b pair j
  made_of pair j there =
      let outer = from_flat_map (λ d. flat_map (joint_edge (length a.names) a.sets d) (edges_from pair.1 b.edges)) (edges_from pair.0 a.edges) j there in
      let inner = from_flat_map (joint_edge (length a.names) a.sets outer.0) (edges_from pair.1 b.edges) j outer.2 in
      let one = from_filter (λ (e : LabelledEdge). e.from == pair.0) a.edges outer.0 outer.1 in
      let two = from_filter (λ (e : LabelledEdge). e.from == pair.1) b.edges inner.0 inner.1 in
      record {
        first = outer.0;
        second = inner.0;
        in_first = one.0;
        in_second = two.0;
        first_from = eqb-true outer.0.from pair.0 one.1;
        second_from = eqb-true inner.0.from pair.1 two.1;
        some = not_alone outer.0 inner.0 j (is_never (length a.names) (both_labels (length a.names) outer.0.label inner.0.label)) inner.2;
        is = alone outer.0 inner.0 j (is_never (length a.names) (both_labels (length a.names) outer.0.label inner.0.label)) inner.2;
      }

  pub there_joint : (pair : ℕ × ℕ) (d e : LabelledEdge) → Contains a.edges d → Contains b.edges e → d.from ≡ pair.0 → e.from ≡ pair.1
      → is_never (length a.names) (both_labels (length a.names) d.label e.label) ≡ false → Contains (joint_edges a b pair) (joined (length a.names) a.sets d e)
  there_joint pair d e one two from_one from_two some =
      there_flat_map (λ c. flat_map (joint_edge (length a.names) a.sets c) (edges_from pair.1 b.edges)) (edges_from pair.0 a.edges) d (joined (length a.names) a.sets d e)
      (there_filter (λ (c : LabelledEdge). c.from == pair.0) a.edges d one (eq-eqb d.from pair.0 from_one))
      (there_flat_map (joint_edge (length a.names) a.sets d) (edges_from pair.1 b.edges) e (joined (length a.names) a.sets d e)
      (there_filter (λ (c : LabelledEdge). c.from == pair.1) b.edges e two (eq-eqb e.from pair.1 from_two))
      (subst (λ (t : Bool). Contains (cond t [] (joined (length a.names) a.sets d e ∷ [])) (joined (length a.names) a.sets d e)) (sym some) (first_there (joined (length a.names) a.sets d e) [])))

  pub there_start : (p q : ℕ) → Contains a.starts p → Contains b.starts q → Contains (start_pairs a b) (p, q)
  there_start p q one two = there_flat_map (λ r. map (λ s. (r, s)) b.starts) a.starts p (p, q) one (there_map (λ s. (p, s)) b.starts q two)

  pub from_start : (pair : ℕ × ℕ) → Contains (start_pairs a b) pair → Contains a.starts pair.0 × Contains b.starts pair.1
  from_start pair there =
      let outer = from_flat_map (λ r. map (λ s. (r, s)) b.starts) a.starts pair there in
      let inner = from_map (λ s. (outer.0, s)) b.starts pair outer.2 in
      let one : outer.0 ≡ pair.0 = ap (λ (r : ℕ × ℕ). r.0) inner.2 in
      let two : inner.0 ≡ pair.1 = ap (λ (r : ℕ × ℕ). r.1) inner.2 in
      (subst (λ r. Contains a.starts r) one outer.1, subst (λ r. Contains b.starts r) two inner.1)

  module _ (first : IsWellFormed a) (second : IsWellFormed b) where
    -- both states of a pair that is reached are states
    pub reached_within : (pair : ℕ × ℕ) → IsReachedFrom (start_pairs a b) (next_pairs a b) pair → (pair.0 < a.states) × (pair.1 < b.states)
    reached_within = reached_keeps (λ pair. (pair.0 < a.states) × (pair.1 < b.states)) (start_pairs a b) (next_pairs a b)
        (λ pair there. let starts = from_start pair there in
        (All-contains (λ p. p < a.states) a.starts pair.0 first.starts starts.0, All-contains (λ p. p < b.states) b.starts pair.1 second.starts starts.1))
        (λ pair next here there.
        let j = from_map (λ (j : JointEdge). j.to) (joint_edges a b pair) next there in
        let of = made_of pair j.0 j.1 in
        let to : (of.first.to, of.second.to) ≡ next = ap (λ (j : JointEdge). j.to) of.is ∙ j.2 in
        let one : of.first.to ≡ next.0 = ap (λ (r : ℕ × ℕ). r.0) to in
        let two : of.second.to ≡ next.1 = ap (λ (r : ℕ × ℕ). r.1) to in
        let here_first = (All-contains (IsEdgeOf a) a.edges of.first first.edges of.in_first).to in
        let here_second = (All-contains (IsEdgeOf b) b.edges of.second second.edges of.in_second).to in
        (omega (arith, one, here_first), omega (arith, two, here_second)))

  module _ (pairs : List (ℕ × ℕ)) (listed : ArePairs a b pairs) where
    pub pairs_differ : AllPairs (λ p q. p ≢ q) pairs
    pairs_differ = listed_differ same_pair pair_tells (start_pairs a b) (next_pairs a b) pairs listed

    -- the two edges of which a numbered edge of the product is made
    pub record EdgeOf (e : LabelledEdge) : Type 0 where
      pub first : LabelledEdge
      pub second : LabelledEdge
      pub in_first : Contains a.edges first
      pub in_second : Contains b.edges second
      pub from : slice_get pairs e.from ≡ Some (first.from, second.from)
      pub to : slice_get pairs e.to ≡ Some (first.to, second.to)
      pub label : both_labels (length a.names) first.label second.label ≡ e.label
      pub marks : first.marks ++ map (λ mark. mark + a.sets) second.marks ≡ e.marks

    pub edge_of : (e : LabelledEdge) → Contains (map (numbered pairs) (flat_map (joint_edges a b) pairs)) e → EdgeOf e
    edge_of e there =
        let j = from_map (numbered pairs) (flat_map (joint_edges a b) pairs) e there in
        let pair = from_flat_map (joint_edges a b) pairs j.0 j.1 in
        let of = made_of pair.0 j.0 pair.2 in
        let from : (of.first.from, of.second.from) ≡ pair.0 = λ i. (of.first_from i, of.second_from i) in
        let here : Contains pairs (of.first.from, of.second.from) = subst (λ p. Contains pairs p) (sym from) pair.1 in
        let next : Contains (next_pairs a b pair.0) j.0.to = there_map (λ (j : JointEdge). j.to) (joint_edges a b pair.0) j.0 pair.2 in
        let goes : j.0.to ≡ (of.first.to, of.second.to) = sym (ap (λ (j : JointEdge). j.to) of.is) in
        let there_too : Contains pairs (of.first.to, of.second.to) =
        subst (λ p. Contains pairs p) goes (next_listed same_pair pair_tells (start_pairs a b) (next_pairs a b) pairs listed pair.0 j.0.to pair.1 next) in
        let whole : numbered pairs (joined (length a.names) a.sets of.first of.second) ≡ e = ap (numbered pairs) of.is ∙ j.2 in
        record {
          first = of.first;
          second = of.second;
          in_first = of.in_first;
          in_second = of.in_second;
          from = ap (slice_get pairs) (sym (ap (λ (d : LabelledEdge). d.from) whole)) ∙ place_there same_pair pair_tells pairs pairs_differ (of.first.from, of.second.from) here;
          to = ap (slice_get pairs) (sym (ap (λ (d : LabelledEdge). d.to) whole)) ∙ place_there same_pair pair_tells pairs pairs_differ (of.first.to, of.second.to) there_too;
          label = ap (λ (d : LabelledEdge). d.label) whole;
          marks = ap (λ (d : LabelledEdge). d.marks) whole;
        }

    -- and there is an edge for each two whose labels some letter satisfies
    pub edge_there : (pair : ℕ × ℕ) (d e : LabelledEdge) → Contains pairs pair → Contains a.edges d → Contains b.edges e → d.from ≡ pair.0 → e.from ≡ pair.1
        → is_never (length a.names) (both_labels (length a.names) d.label e.label) ≡ false
        → Contains (map (numbered pairs) (flat_map (joint_edges a b) pairs)) (numbered pairs (joined (length a.names) a.sets d e))
    edge_there pair d e there one two from_one from_two some =
        there_map (numbered pairs) (flat_map (joint_edges a b) pairs) (joined (length a.names) a.sets d e)
        (there_flat_map (joint_edges a b) pairs pair (joined (length a.names) a.sets d e) there (there_joint pair d e one two from_one from_two some))

    pub next_there : (pair : ℕ × ℕ) (d e : LabelledEdge) → Contains pairs pair → Contains a.edges d → Contains b.edges e → d.from ≡ pair.0 → e.from ≡ pair.1
        → is_never (length a.names) (both_labels (length a.names) d.label e.label) ≡ false → Contains pairs (d.to, e.to)
    next_there pair d e there one two from_one from_two some =
        next_listed same_pair pair_tells (start_pairs a b) (next_pairs a b) pairs listed pair (d.to, e.to) there
        (there_map (λ (j : JointEdge). j.to) (joint_edges a b pair) (joined (length a.names) a.sets d e) (there_joint pair d e one two from_one from_two some))

    pub start_there : (p q : ℕ) → Contains a.starts p → Contains b.starts q → Contains pairs (p, q)
    start_there p q one two = start_listed same_pair pair_tells (start_pairs a b) (next_pairs a b) pairs listed (p, q) (there_start p q one two)

-- A product of well-formed automata is well formed.
use Rattle.std.proofs.Common.{◌≡◌, ◌≢◌, ◌∙◌, ◌&&◌, ◌+◌, ◌<◌, ℕ, suc, List, [], ◌∷◌, All, AllPairs, Contains, Some, ap, arith, get_or, length, map, refl, slice_get, subst, sym}
use Rattle.std.proofs.lemmas.List.{map-append}
use Rattle.std.proofs.lemmas.List.Elements.{All-append, All-contains, All-map, All-weaker}
use Rattle.std.proofs.lemmas.Option.{same_Some, slice_get_within}
use Rattle.std.specs.List.{position_or_len}
use Rattle.std.specs.Prelude.{flat_map}
use Rattle.acc_forms.specs.Shift.{shift}
use Rattle.aut_base.proofs.order.AllPairsOf.{pairs_append, pairs_first, pairs_map, pairs_rest}
use Rattle.aut_base.proofs.canonical.CanonicalBelow.{label_of_below}
use Rattle.aut_base.proofs.order.Climbing.{AllFrom, Climbs, climbs_in_order, climbs_lower, climbs_row}
use Rattle.aut_base.proofs.lists.Members.{each_there, from_flat_map, from_map}
use Rattle.aut_base.specs.Automaton.{Automaton, IsEdgeOf, IsWellFormed, LabelledEdge}
use Rattle.aut_base.specs.Formula.{FormulaTree, SetsBelow}
use Rattle.aut_base.specs.Label.{AllBelow}
use Rattle.aut_base.specs.Valuation.{truth_on}
use Rattle.acc_forms.proofs.FormulaSets.{sets_shift, sets_weaker}
use Rattle.aut_ops.proofs.joint_runs.JointEdges.{edge_of, from_start, made_of, pairs_differ, start_there}
use Rattle.aut_ops.proofs.pairs.Places.{pair_tells, place_is, place_there}
use Rattle.aut_ops.specs.Products.{ArePairs, JointEdge, joint_edges, numbered, product_on, same_pair, start_pairs}

-- all pairs of one state and these
abbrev row : List ℕ → ℕ → List (ℕ × ℕ)
row qs p = map (λ q. (p, q)) qs

abbrev Apart : ℕ × ℕ → ℕ × ℕ → Type 0
Apart x y = x ≢ y

-- pairs of states that differ are different
rows_differ : (ps qs : List ℕ) → AllPairs (λ p q. p ≢ q) ps → AllPairs (λ p q. p ≢ q) qs → AllPairs Apart (flat_map (row qs) ps)
rows_differ [] qs first second = λ i j d less within. absurd (omega (arith, within))
rows_differ (p ∷ ps) qs first second =
    pairs_append Apart (row qs p) (flat_map (row qs) ps)
    (pairs_map Apart (λ q. (p, q)) qs (λ i j d less within e. second i j d less within (ap (λ (x : ℕ × ℕ). x.1) e)))
    (rows_differ ps qs (pairs_rest (λ x y. x ≢ y) p ps first) second)
    (each_there (λ x. All (Apart x) (flat_map (row qs) ps)) (row qs p) (λ x here.
    each_there (Apart x) (flat_map (row qs) ps) (λ y later e.
    let one = from_map (λ q. (p, q)) qs x here in
    let outer = from_flat_map (row qs) ps y later in
    let two = from_map (λ q. (outer.0, q)) qs y outer.2 in
    let same : p ≡ outer.0 = ap (λ (z : ℕ × ℕ). z.0) (one.2 ∙ (e ∙ sym two.2)) in
    (All-contains (λ q. p ≢ q) ps outer.0 (pairs_first (λ q r. q ≢ r) p ps first) outer.1) same)))

module _ (join : FormulaTree → FormulaTree → FormulaTree) (a b : Automaton) (names : b.names ≡ a.names) (formed : IsWellFormed a) (also : IsWellFormed b) (pairs : List (ℕ × ℕ))
    (listed : ArePairs a b pairs) where
  abbrev p : Automaton
  p = product_on join pairs a b

  abbrev place : ℕ × ℕ → ℕ
  place pair = position_or_len (same_pair pair) pairs

  place_of : (x : ℕ × ℕ) → Contains pairs x → slice_get pairs (place x) ≡ Some x
  place_of x there = place_there same_pair pair_tells pairs (pairs_differ a b pairs listed) x there

  starts_listed : All (Contains pairs) (start_pairs a b)
  starts_listed = each_there (Contains pairs) (start_pairs a b) (λ x there. let both = from_start a b x there in start_there a b pairs listed x.0 x.1 both.0 both.1)

  places_differ : (xs : List (ℕ × ℕ)) → AllPairs (λ x y. x ≢ y) xs → All (Contains pairs) xs → AllPairs (λ x y. place x ≢ place y) xs
  places_differ xs differ all i j d less within e =
      let one = place_of (get_or xs i d) (all i d (omega (arith, less, within))) in
      let two = place_of (get_or xs j d) (all j d within) in
      differ i j d less within (same_Some (get_or xs i d) (get_or xs j d) (sym one ∙ (ap (slice_get pairs) e ∙ two)))

  edge_formed : (e : LabelledEdge) → Contains p.edges e → IsEdgeOf p e
  edge_formed e there =
      let of = edge_of a b pairs listed e there in
      let first = All-contains (IsEdgeOf a) a.edges of.first formed.edges of.in_first in
      let second = All-contains (IsEdgeOf b) b.edges of.second also.edges of.in_second in
      record {
        from = slice_get_within pairs e.from (of.first.from, of.second.from) of.from;
        to = slice_get_within pairs e.to (of.first.to, of.second.to) of.to;
        label = subst (AllBelow (length a.names)) of.label (label_of_below (length a.names) (λ v. truth_on of.first.label v && truth_on of.second.label v));
        marks = subst (All (λ m. m < a.sets + b.sets)) of.marks (All-append (λ m. m < a.sets + b.sets) of.first.marks (map (λ m. m + a.sets) of.second.marks)
            (All-weaker (λ m. m < a.sets) (λ m. m < a.sets + b.sets) (λ m low. omega (arith, low)) of.first.marks first.marks)
            (All-map (λ m. m < a.sets + b.sets) (λ m. m + a.sets) of.second.marks
            (All-weaker (λ m. m < b.sets) (λ m. m + a.sets < a.sets + b.sets) (λ m low. omega (arith, low)) of.second.marks second.marks)));
        marks_rise = subst (AllPairs (λ m n. m < n)) of.marks (pairs_append (λ m n. m < n) of.first.marks (map (λ m. m + a.sets) of.second.marks) first.marks_rise
            (pairs_map (λ m n. m < n) (λ m. m + a.sets) of.second.marks (λ i j d less within. let up = second.marks_rise i j d less within in omega (arith, up)))
            (All-weaker (λ m. m < a.sets) (λ m. All (λ n. m < n) (map (λ n. n + a.sets) of.second.marks))
            (λ m low. All-map (λ n. m < n) (λ n. n + a.sets) of.second.marks (λ k d within. omega (arith, low))) of.first.marks first.marks));
      }

  -- the edges of a pair leave its index
  row_from : (x : ℕ × ℕ) → AllFrom (place x) (map (numbered pairs) (joint_edges a b x))
  row_from x = each_there (λ (e : LabelledEdge). e.from ≡ place x) (map (numbered pairs) (joint_edges a b x)) (λ e there.
      let j = from_map (numbered pairs) (joint_edges a b x) e there in
      let of = made_of a b x j.0 j.1 in
      let from : j.0.from ≡ x = sym (ap (λ (i : JointEdge). i.from) of.is) ∙ (λ i. (of.first_from i, of.second_from i)) in
      sym (ap (λ (d : LabelledEdge). d.from) j.2) ∙ ap place from)

  climbs_pairs : (k : ℕ) (xs : List (ℕ × ℕ)) → ((i : ℕ) (x : ℕ × ℕ) → slice_get xs i ≡ Some x → place x ≡ k + i) → Climbs k (map (numbered pairs) (flat_map (joint_edges a b) xs))
  climbs_pairs k [] at = tt
  climbs_pairs k (x ∷ xs) at =
      let e : k + 0 ≡ k = omega arith in
      let here : place x ≡ k = at 0 x refl ∙ e in
      let rest = climbs_pairs (k + 1) xs (λ i y is. let f : k + suc i ≡ k + 1 + i = omega arith in at (suc i) y is ∙ f) in
      subst (Climbs k) (sym (map-append (numbered pairs) (joint_edges a b x) (flat_map (joint_edges a b) xs)))
      (climbs_row k k (map (numbered pairs) (joint_edges a b x)) (map (numbered pairs) (flat_map (joint_edges a b) xs)) (omega arith)
      (subst (λ q. AllFrom q (map (numbered pairs) (joint_edges a b x))) here (row_from x)) (climbs_lower k (k + 1) (map (numbered pairs) (flat_map (joint_edges a b) xs)) (omega arith) rest))

  pub product_formed : ((n : ℕ) (f g : FormulaTree) → SetsBelow n f → SetsBelow n g → SetsBelow n (join f g)) → IsWellFormed p
  product_formed sets = record {
    names_differ = formed.names_differ;
    starts_differ = pairs_map (λ x y. x ≢ y) place (start_pairs a b) (places_differ (start_pairs a b) (rows_differ a.starts b.starts formed.starts_differ also.starts_differ) starts_listed);
    starts = All-map (λ k. k < length pairs) place (start_pairs a b)
        (All-weaker (Contains pairs) (λ x. place x < length pairs) (λ x there. slice_get_within pairs (place x) x (place_of x there)) (start_pairs a b) starts_listed);
    in_order = climbs_in_order 0 p.edges (climbs_pairs 0 pairs (λ i x is. let e : i ≡ 0 + i = omega arith in place_is same_pair pair_tells pairs (pairs_differ a b pairs listed) i x is ∙ e));
    edges = each_there (IsEdgeOf p) p.edges edge_formed;
    formula = sets (a.sets + b.sets) a.formula (shift a.sets b.formula) (sets_weaker a.sets (a.sets + b.sets) (omega arith) a.formula formed.formula)
        (sets_shift a.sets b.sets (a.sets + b.sets) (omega arith) b.formula also.formula);
  }

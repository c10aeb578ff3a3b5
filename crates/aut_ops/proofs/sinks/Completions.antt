-- The edges of an automaton with a sink, and that it is well formed.
use Rattle.std.proofs.Common.{◌≡◌, ◌≢◌, ◌∙◌, ◌⊎◌, ◌==◌, ◌+◌, ◌<◌, ◌≤◌, ℕ, Bool, true, false, cond, not, List, [], ◌∷◌, ◌++◌, All, AllPairs, Contains, ap, arith, inl, inr, length, refl, subst, sym}
use Rattle.std.proofs.lemmas.Bool.{eqb-true, eq-eqb}
use Rattle.std.proofs.lemmas.List.Elements.{All-append, All-contains, All-from_recursion, Contains-append_cases, Contains-append_left, Contains-append_right, filter-append}
use Rattle.std.proofs.lemmas.List.{append-nil}
use Rattle.std.specs.List.{list_any, range_with_len}
use Rattle.std.specs.Prelude.{flat_map}
use Rattle.acc_forms.specs.Joined.{conj}
use Rattle.aut_base.proofs.canonical.CanonicalBelow.{label_of_below}
use Rattle.aut_base.proofs.order.Climbing.{AllFrom, climbs_in_order, climbs_rows}
use Rattle.aut_base.proofs.lists.Members.{each_there, first_there, from_filter, from_flat_map, from_range, none_there, there_cases, there_filter, there_flat_map, there_range_zero}
use Rattle.aut_base.specs.Automaton.{Automaton, IsEdgeOf, IsWellFormed, LabelledEdge}
use Rattle.aut_base.specs.Formula.{Fin, FormulaTree, SetsBelow}
use Rattle.aut_base.specs.Label.{True}
use Rattle.aut_base.specs.Valuation.{truth_on}
use Rattle.aut_core.specs.Surveys.{edges_from}
use Rattle.acc_forms.proofs.FormulaSets.{sets_conj, sets_weaker}
use Rattle.aut_ops.proofs.sinks.Rows.{other_row, own_row, row_of, rows_before}
use Rattle.aut_ops.specs.Completion.{gap_edges, is_met_unmarked, missing_label, with_sink}
use Rattle.aut_ops.specs.inner.Parts.{filled_edges, sink_marks}
use Rattle.aut_ops.specs.Labels.{is_never}

-- the sink's loop, and the edge to the sink
abbrev pub loop : Automaton → LabelledEdge
loop a = record { from = a.states; label = True; to = a.states; marks = sink_marks a }

abbrev pub gap : Automaton → ℕ → LabelledEdge
gap a q = record { from = q; label = missing_label (length a.names) (edges_from q a.edges); to = a.states; marks = [] }

-- the edges of each state

pub edges_own : (q : ℕ) (es : List LabelledEdge) → AllFrom q (edges_from q es)
edges_own q es = each_there (λ (e : LabelledEdge). e.from ≡ q) (edges_from q es) (λ e there. eqb-true e.from q (from_filter (λ (d : LabelledEdge). d.from == q) es e there).1)

gaps_own : (n q sink : ℕ) (es : List LabelledEdge) (b : Bool) → AllFrom q (cond b [] (record { from = q; label = missing_label n es; to = sink; marks = [] } ∷ []))
gaps_own n q sink es true = λ k d within. absurd (omega (arith, within))
gaps_own n q sink es false = All-from_recursion (λ (e : LabelledEdge). e.from ≡ q) (record { from = q; label = missing_label n es; to = sink; marks = [] } ∷ []) (refl, tt)

pub filled_own : (a : Automaton) (q : ℕ) → AllFrom q (filled_edges a q)
filled_own a q = All-append (λ (e : LabelledEdge). e.from ≡ q) (edges_from q a.edges) (gap_edges (length a.names) q a.states (edges_from q a.edges)) (edges_own q a.edges)
    (gaps_own (length a.names) q a.states (edges_from q a.edges) (is_never (length a.names) (missing_label (length a.names) (edges_from q a.edges))))

loop_own : (a : Automaton) → AllFrom a.states (loop a ∷ [])
loop_own a = All-from_recursion (λ (e : LabelledEdge). e.from ≡ a.states) (loop a ∷ []) (refl, tt)

pub state_row : (a : Automaton) (q : ℕ) → q < a.states → edges_from q (with_sink a).edges ≡ filled_edges a q
state_row a q less =
    filter-append (λ (e : LabelledEdge). e.from == q) (flat_map (filled_edges a) (range_with_len 0 a.states)) (loop a ∷ [])
    ∙ (ap (λ es. es ++ edges_from q (loop a ∷ [])) (row_of (filled_edges a) (filled_own a) 0 a.states q (omega arith) (omega (arith, less)))
    ∙ (ap (λ es. filled_edges a q ++ es) (other_row a.states q (loop a ∷ []) (λ e. absurd (omega (arith, e, less))) (loop_own a)) ∙ append-nil (filled_edges a q)))

pub sink_row : (a : Automaton) → edges_from a.states (with_sink a).edges ≡ loop a ∷ []
sink_row a =
    filter-append (λ (e : LabelledEdge). e.from == a.states) (flat_map (filled_edges a) (range_with_len 0 a.states)) (loop a ∷ [])
    ∙ (ap (λ es. es ++ edges_from a.states (loop a ∷ [])) (rows_before (filled_edges a) (filled_own a) 0 a.states a.states (omega arith)) ∙ own_row a.states (loop a ∷ []) (loop_own a))

-- edges

pub old_there : (a : Automaton) → IsWellFormed a → (e : LabelledEdge) → Contains a.edges e → Contains (with_sink a).edges e
old_there a formed e there =
    let edge = All-contains (IsEdgeOf a) a.edges e formed.edges there in
    Contains-append_left (flat_map (filled_edges a) (range_with_len 0 a.states)) (loop a ∷ []) e
    (there_flat_map (filled_edges a) (range_with_len 0 a.states) e.from e (there_range_zero a.states e.from edge.from)
    (Contains-append_left (edges_from e.from a.edges) (gap_edges (length a.names) e.from a.states (edges_from e.from a.edges)) e
    (there_filter (λ (d : LabelledEdge). d.from == e.from) a.edges e there (eq-eqb e.from e.from refl))))

pub loop_there : (a : Automaton) → Contains (with_sink a).edges (loop a)
loop_there a = Contains-append_right (flat_map (filled_edges a) (range_with_len 0 a.states)) (loop a ∷ []) (loop a) (first_there (loop a) [])

pub gap_there : (a : Automaton) (q : ℕ) → q < a.states → is_never (length a.names) (missing_label (length a.names) (edges_from q a.edges)) ≡ false → Contains (with_sink a).edges (gap a q)
gap_there a q less some =
    Contains-append_left (flat_map (filled_edges a) (range_with_len 0 a.states)) (loop a ∷ []) (gap a q)
    (there_flat_map (filled_edges a) (range_with_len 0 a.states) q (gap a q) (there_range_zero a.states q less)
    (Contains-append_right (edges_from q a.edges) (gap_edges (length a.names) q a.states (edges_from q a.edges)) (gap a q)
    (subst (λ b. Contains (cond b [] (gap a q ∷ [])) (gap a q)) (sym some) (first_there (gap a q) []))))

-- an edge of the automaton, one to the sink, or the sink's loop
abbrev pub Kind : Automaton → LabelledEdge → Type 0
Kind a e = Contains a.edges e ⊎ (((q : ℕ) × (q < a.states) × (gap a q ≡ e)) ⊎ (loop a ≡ e))

gap_is : (a : Automaton) (q : ℕ) (e : LabelledEdge) (b : Bool) → Contains (cond b [] (gap a q ∷ [])) e → gap a q ≡ e
gap_is a q e true there = absurd (none_there e there)
gap_is a q e false there = elim (there_cases (gap a q) [] e there) [ inl is ↦ is | inr later ↦ absurd (none_there e later) ]

pub kind : (a : Automaton) (e : LabelledEdge) → Contains (with_sink a).edges e → Kind a e
kind a e there = elim (Contains-append_cases (flat_map (filled_edges a) (range_with_len 0 a.states)) (loop a ∷ []) e there) [
  | inl outside ↦ (let row = from_flat_map (filled_edges a) (range_with_len 0 a.states) e outside in
      elim (Contains-append_cases (edges_from row.0 a.edges) (gap_edges (length a.names) row.0 a.states (edges_from row.0 a.edges)) e row.2) [
        | inl old ↦ inl (from_filter (λ (d : LabelledEdge). d.from == row.0) a.edges e old).0
        | inr new ↦ inr (inl (row.0, omega (arith, from_range 0 a.states row.0 row.1), gap_is a row.0 e (is_never (length a.names) (missing_label (length a.names) (edges_from row.0 a.edges))) new))
      ])
  | inr last ↦ inr (inr (elim (there_cases (loop a) [] e last) [ inl is ↦ is | inr later ↦ absurd (none_there e later) ]))
]

-- well-formedness

marks_within : (k : ℕ) (b : Bool) → All (λ m. m < cond b (k + 1) k) (cond b (k ∷ []) [])
marks_within k true = All-from_recursion (λ m. m < k + 1) (k ∷ []) (omega arith, tt)
marks_within k false = λ i d within. absurd (omega (arith, within))

marks_single : (k : ℕ) (b : Bool) → AllPairs (λ m n. m < n) (cond b (k ∷ []) [])
marks_single k true = λ i j d less within. absurd (omega (arith, less, within))
marks_single k false = λ i j d less within. absurd (omega (arith, within))

sets_grow : (k : ℕ) (b : Bool) → k ≤ cond b (k + 1) k
sets_grow k true = omega arith
sets_grow k false = omega arith

condition_within : (k : ℕ) (f : FormulaTree) (b : Bool) → SetsBelow k f → SetsBelow (cond b (k + 1) k) (cond b (conj f (Fin k false)) f)
condition_within k f true below = let less : k < k + 1 = omega arith in sets_conj (k + 1) f (Fin k false) (sets_weaker k (k + 1) (omega arith) f below) less
condition_within k f false below = below

starts_one : (s : ℕ) (starts : List ℕ) (b : Bool) → AllPairs (λ p q. p ≢ q) starts → AllPairs (λ p q. p ≢ q) (cond b (s ∷ []) starts)
starts_one s starts true differ = λ i j d less within. absurd (omega (arith, less, within))
starts_one s starts false differ = differ

starts_within : (s : ℕ) (starts : List ℕ) (b : Bool) → All (λ p. p < s) starts → All (λ p. p < s + 1) (cond b (s ∷ []) starts)
starts_within s starts true within = All-from_recursion (λ p. p < s + 1) (s ∷ []) (omega arith, tt)
starts_within s starts false within = λ k d less. let low = within k d less in omega (arith, low)

kind_edge : (a : Automaton) → IsWellFormed a → (e : LabelledEdge) → Kind a e → IsEdgeOf (with_sink a) e
kind_edge a formed e (inl old) =
    let edge = All-contains (IsEdgeOf a) a.edges e formed.edges old in
    let wide = sets_grow a.sets (is_met_unmarked a.formula) in
    record {
      from = omega (arith, edge.from);
      to = omega (arith, edge.to);
      label = edge.label;
      marks = λ k d within. let low = edge.marks k d within in omega (arith, low, wide);
      marks_rise = edge.marks_rise;
    }
kind_edge a formed e (inr (inl new)) = subst (IsEdgeOf (with_sink a)) new.2 (record {
  from = omega (arith, new.1);
  to = omega arith;
  label = label_of_below (length a.names) (λ v. not (list_any (λ (d : LabelledEdge). truth_on d.label v) (edges_from new.0 a.edges)));
  marks = λ k d within. absurd (omega (arith, within));
  marks_rise = λ i j d less within. absurd (omega (arith, within));
})
kind_edge a formed e (inr (inr last)) = subst (IsEdgeOf (with_sink a)) last (record {
  from = omega arith;
  to = omega arith;
  label = tt;
  marks = marks_within a.sets (is_met_unmarked a.formula);
  marks_rise = marks_single a.sets (is_met_unmarked a.formula);
})

pub with_sink_formed : (a : Automaton) → IsWellFormed a → IsWellFormed (with_sink a)
with_sink_formed a formed = record {
  names_differ = formed.names_differ;
  starts_differ = starts_one a.states a.starts (length a.starts == 0) formed.starts_differ;
  starts = starts_within a.states a.starts (length a.starts == 0) formed.starts;
  in_order = climbs_in_order 0 (with_sink a).edges (climbs_rows (filled_edges a) (filled_own a) 0 0 a.states (loop a ∷ []) (omega arith) (omega arith, tt));
  edges = each_there (IsEdgeOf (with_sink a)) (with_sink a).edges (λ e there. kind_edge a formed e (kind a e there));
  formula = condition_within a.sets a.formula (is_met_unmarked a.formula) formed.formula;
}

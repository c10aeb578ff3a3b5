-- The automaton that the canonical text of a well-formed automaton spells describes that automaton, with each label in its
-- canonical form.
use Rattle.std.proofs.Common.{◌≡◌, ◌≢◌, ◌==◌, ◌<◌, ◌≤◌, ◌+◌, ℕ, Bool, true, false, cond, List, [], ◌∷◌, length, filter, map, get_or, refl, sym, ap, ◌∙◌, arith, AllPairs, Option, All}
use Rattle.std.proofs.lemmas.Bool.{eqb-true}
use Rattle.std.proofs.lemmas.List.{append-nil}
use Rattle.std.proofs.lemmas.List.Elements.{recursion_from_All}
use Rattle.std.specs.Prelude.{flat_map}
use Rattle.std.specs.List.{AllByRecursion, enumerate_from, range_with_len}
use Rattle.aut_base.proofs.canonical.CanonicalAutomata.{relabelled}
use Rattle.aut_base.specs.Automaton.{LabelledEdge, Automaton, IsEdgeOf, IsWellFormed}
use Rattle.aut_base.specs.Formula.{FormulaTree}
use Rattle.aut_base.specs.Label.{LabelTree}
use Rattle.hoa_reader.proofs.description.LabelsInRange.{numbers_are_below}
use Rattle.hoa_reader.proofs.description.StatesInRange.{edges_of, tree_edges_from}
use Rattle.hoa_reader.specs.Described.{tree_edge_of, tree_edges_of, below, described, meanings_of}
use Rattle.hoa_reader.specs.inner.Numbers.{after_all, marks_in_order, only_state, without_repeats}
use Rattle.hoa_parser.specs.Raw.{Written, WrittenState}
use Rattle.hoa_reader.specs.Validity.{AcceptanceLine, acceptance_of, used_states}
use Rattle.hoa_writer.proofs.round_trip.CanonicalLines.{acceptance_found, names_found, starts_found, states_found}
use Rattle.hoa_writer.proofs.round_trip.CanonicalTrees.{expanded_written}
use Rattle.aut_base.proofs.order.Ordered.{Pairs, filter_map_of, flat_map_same, map_flat_map, one_in_range, pairs_from, pairs_unmap}
use Rattle.hoa_writer.proofs.text.InOrder.{in_order_already, no_repeats, number_by_number}
use Rattle.aut_base.specs.CanonicalLabel.{canonical, canonical_label}
use Rattle.hoa_writer.specs.CanonicalWritten.{canonical_edge, canonical_state, canonical_written}
use Rattle.aut_base.proofs.lists.AllByRecursion.{AllByRecursion-weaker}

-- what has to hold of an edge of the state q: its marks are in the order of the sets
abbrev Stands : ℕ → ℕ → LabelledEdge → Type 0
Stands q sets e = (e.from ≡ q) × (marks_in_order sets e.marks ≡ e.marks)

abbrev tree_edge_with : ℕ → LabelTree → ℕ → List ℕ → LabelledEdge
tree_edge_with from l to marks = record { from = from; label = l; to = to; marks = marks }

same_tree_edge : (from from' to : ℕ) (l l' : LabelTree) (marks marks' : List ℕ) → from ≡ from' → l ≡ l' → marks ≡ marks' → tree_edge_with from l to marks ≡ tree_edge_with from' l' to marks'
same_tree_edge from from' to l l' marks marks' p q r = cc

tree_edge_back : (w : Written) (a : Automaton) (q i : ℕ) (e : LabelledEdge) → Stands q (acceptance_of w).sets e
    → tree_edge_of w (canonical_state a q) i (canonical_edge (length a.names) e) ≡ relabelled (length a.names) e
tree_edge_back w a q i e h =
    same_tree_edge q e.from e.to _ (canonical_label (length a.names) e.label) (marks_in_order (acceptance_of w).sets e.marks) e.marks
    (sym h.0) (expanded_written (meanings_of w) (canonical_label (length a.names) e.label)) h.1

tree_edges_back : (w : Written) (a : Automaton) (q i : ℕ) (es : List LabelledEdge) → AllByRecursion (Stands q (acceptance_of w).sets) es
    → map (λ p. tree_edge_of w (canonical_state a q) p.0 p.1) (enumerate_from i (map (canonical_edge (length a.names)) es)) ≡ map (relabelled (length a.names)) es
tree_edges_back w a q i [] all = refl
tree_edges_back w a q i (e ∷ es) all =
    ap (λ x. x ∷ map (λ p. tree_edge_of w (canonical_state a q) p.0 p.1) (enumerate_from (i + 1) (map (canonical_edge (length a.names)) es))) (tree_edge_back w a q i e all.0)
    ∙ ap (λ xs. relabelled (length a.names) e ∷ xs) (tree_edges_back w a q (i + 1) es all.1)

-- the state q, and its edges
state_at : (a : Automaton) (q : ℕ) → q < a.states → filter (λ (s : WrittenState). s.number == q) (map (canonical_state a) (range_with_len 0 a.states)) ≡ canonical_state a q ∷ []
state_at a q l =
    filter_map_of (λ (s : WrittenState). s.number == q) (canonical_state a) (range_with_len 0 a.states)
    ∙ ap (map (canonical_state a)) (one_in_range 0 a.states q (omega arith) (omega (arith, l)))

kept_too : (q sets : ℕ) (e : LabelledEdge) (es : List LabelledEdge) (b : Bool) → (e.from == q) ≡ b → marks_in_order sets e.marks ≡ e.marks → AllByRecursion (Stands q sets) es
    → AllByRecursion (Stands q sets) (cond b (e ∷ es) es)
kept_too q sets e es true is h all = ((eqb-true e.from q is, h), all)
kept_too q sets e es false is h all = all

ours_stand : (q sets : ℕ) (es : List LabelledEdge) → AllByRecursion (λ (e : LabelledEdge). marks_in_order sets e.marks ≡ e.marks) es
    → AllByRecursion (Stands q sets) (filter (λ (e : LabelledEdge). e.from == q) es)
ours_stand q sets [] all = tt
ours_stand q sets (e ∷ es) all = kept_too q sets e (filter (λ (e : LabelledEdge). e.from == q) es) (e.from == q) refl all.0 (ours_stand q sets es all.1)

state_back : (a : Automaton) (name : Option (List ℕ)) (q : ℕ) → q < a.states → AllByRecursion (λ (e : LabelledEdge). marks_in_order a.sets e.marks ≡ e.marks) a.edges
    → tree_edges_from (canonical_written a name) q ≡ map (relabelled (length a.names)) (filter (λ (e : LabelledEdge). e.from == q) a.edges)
state_back a name q l marks =
    let w = canonical_written a name in
    let es = filter (λ (e : LabelledEdge). e.from == q) a.edges in
    let sets : a.sets ≡ (acceptance_of w).sets = sym (ap (λ (line : AcceptanceLine). line.sets) (acceptance_found a name)) in
    let stand : AllByRecursion (Stands q (acceptance_of w).sets) es =
    AllByRecursion-weaker (Stands q a.sets) (Stands q (acceptance_of w).sets) es (λ e h. (h.0, ap (λ n. marks_in_order n e.marks) (sym sets) ∙ h.1)) (ours_stand q a.sets a.edges marks) in
    ap (flat_map (tree_edges_of w)) (state_at a q l) ∙ (append-nil (tree_edges_of w (canonical_state a q)) ∙ tree_edges_back w a q 0 es stand)

marks_kept : (sets : ℕ) (es : List LabelledEdge) → AllByRecursion (λ (e : LabelledEdge). All (λ mark. mark < sets) e.marks) es
    → AllByRecursion (λ (e : LabelledEdge). AllPairs (λ x y. x < y) e.marks) es
    → AllByRecursion (λ (e : LabelledEdge). marks_in_order sets e.marks ≡ e.marks) es
marks_kept sets [] all rise = tt
marks_kept sets (e ∷ es) all rise =
    (in_order_already sets e.marks (pairs_from (λ x y. x < y) e.marks rise.0) (recursion_from_All (λ mark. mark < sets) e.marks all.0), marks_kept sets es all.1 rise.1)

edges_back : (a : Automaton) (name : Option (List ℕ)) → IsWellFormed a → edges_of (canonical_written a name) ≡ map (relabelled (length a.names)) a.edges
edges_back a name h =
    let w = canonical_written a name in
    let n = a.states in
    let new = relabelled (length a.names) in
    let ours : ℕ → List LabelledEdge = λ q. filter (λ (e : LabelledEdge). e.from == q) a.edges in
    let tree_edges = recursion_from_All (IsEdgeOf a) a.edges h.edges in
    let marks : AllByRecursion (λ (e : LabelledEdge). marks_in_order a.sets e.marks ≡ e.marks) a.edges =
    marks_kept a.sets a.edges (AllByRecursion-weaker (IsEdgeOf a) (λ (e : LabelledEdge). All (λ mark. mark < a.sets) e.marks) a.edges (λ e k. k.marks) tree_edges)
    (AllByRecursion-weaker (IsEdgeOf a) (λ (e : LabelledEdge). AllPairs (λ x y. x < y) e.marks) a.edges (λ e k. k.marks_rise) tree_edges) in
    let order : Pairs (λ x y. x ≤ y) (map (λ (e : LabelledEdge). e.from) a.edges) =
    pairs_from (λ x y. x ≤ y) (map (λ (e : LabelledEdge). e.from) a.edges) (λ i j d l m. h.in_order i j d (omega (arith, l)) m) in
    ap (λ xs. flat_map (tree_edges_from w) (below (get_or xs 0 (after_all (used_states w))))) (states_found a name)
    ∙ (flat_map_same (tree_edges_from w) (λ q. map new (ours q)) (below n)
    (AllByRecursion-weaker (λ q. q < n) (λ q. tree_edges_from w q ≡ map new (ours q)) (below n) (λ q l. state_back a name q l marks) (numbers_are_below n))
    ∙ (map_flat_map new ours (below n)
    ∙ ap (map new) (number_by_number (λ (e : LabelledEdge). e.from) n a.edges (pairs_unmap (λ x y. x ≤ y) (λ (e : LabelledEdge). e.from) a.edges order)
    (AllByRecursion-weaker (IsEdgeOf a) (λ (e : LabelledEdge). e.from < n) a.edges (λ e k. k.from) tree_edges))))

only_ones : (starts : List ℕ) → map only_state (map (λ s. s ∷ []) starts) ≡ starts
only_ones [] = refl
only_ones (s ∷ ss) = ap (λ xs. s ∷ xs) (only_ones ss)

starts_back : (a : Automaton) (name : Option (List ℕ)) → IsWellFormed a → (described (canonical_written a name)).starts ≡ a.starts
starts_back a name h =
    ap (λ groups. without_repeats (map only_state groups)) (starts_found a name)
    ∙ (ap without_repeats (only_ones a.starts) ∙ no_repeats a.starts (pairs_from (λ p q. p ≢ q) a.starts h.starts_differ))

abbrev automaton_with : List (List ℕ) → List ℕ → ℕ → List LabelledEdge → ℕ → FormulaTree → Automaton
automaton_with names starts states edges sets f = record { names = names; starts = starts; states = states; edges = edges; sets = sets; formula = f }

same_automaton : (names names' : List (List ℕ)) (starts starts' : List ℕ) (states states' : ℕ) (edges edges' : List LabelledEdge) (sets sets' : ℕ) (f f' : FormulaTree) → names ≡ names'
    → starts ≡ starts' → states ≡ states' → edges ≡ edges' → sets ≡ sets' → f ≡ f' → automaton_with names starts states edges sets f ≡ automaton_with names' starts' states' edges' sets' f'
same_automaton names names' starts starts' states states' edges edges' sets sets' f f' p q r s t u = cc

pub canonical_describes : (a : Automaton) (name : Option (List ℕ)) → IsWellFormed a → described (canonical_written a name) ≡ canonical a
canonical_describes a name h =
    let w = canonical_written a name in
    let line = acceptance_found a name in
    same_automaton _ a.names _ a.starts _ a.states _ (map (relabelled (length a.names)) a.edges) _ a.sets _ a.formula
    (names_found a name) (starts_back a name h) (ap (λ xs. get_or xs 0 (after_all (used_states w))) (states_found a name)) (edges_back a name h)
    (ap (λ (l : AcceptanceLine). l.sets) line) (ap (λ (l : AcceptanceLine). l.formula) line)

-- A well-formed automaton stays so with its copies, and its condition has no Fin.
use Rattle.std.proofs.Common.{◌≡◌, ◌+◌, ◌*◌, ◌<◌, ◌≤◌, ℕ, suc, false, List, [], ◌∷◌, AllPairs, Contains, ap, arith, filter, flat_map, length, map, refl, subst, sym, ⊎_elim}
use Rattle.std.specs.List.{AllByRecursion, range_with_len, sum_by}
use Rattle.std.proofs.lemmas.List.Elements.{All-nil, All-weaker}
use Rattle.std.proofs.Math.Nat.{mul-le-mul_right}
use Rattle.aut_base.proofs.lists.AllByRecursion.{AllByRecursion-map, AllByRecursion-weaker}
use Rattle.aut_base.proofs.lists.Members.{each_there, from_map, there_cases}
use Rattle.aut_base.proofs.order.Ordered.{range_within}
use Rattle.aut_base.proofs.order.Rising.{increases_kept, increases_moved, increases_range, increasing, risen, Rises, rises_each, rises_kept, rises_moved, rises_then, rising}
use Rattle.aut_base.specs.Automaton.{Automaton, IsEdgeOf, IsWellFormed, LabelledEdge}
use Rattle.aut_base.specs.Formula.{FormulaTree, SetsBelow}
use Rattle.acc_forms.specs.Atoms.{has_fin}
use Rattle.acc_forms.specs.Terms.{literal_formula, terms}
use Rattle.acc_forms.specs.declared.literal.Literal.{Literal}
use Rattle.acc_forms.specs.declared.literal.Literal.TheVariants.{Inf}
use Rattle.fin_removal.proofs.CopiedEdges.{Enters, Stays, Within, comes_from, edge_bounds}
use Rattle.fin_removal.specs.Copies.{copied, copies_from, copy_edges, main_edges, marks_in, owned, owned_sets, sets_of, term_copies}
use Rattle.fin_removal.proofs.Parts.{allows, edge_in, enter, state_in, stay}
use Rattle.fin_removal.specs.Meeting.{meets_at, literal_places}
use Rattle.fin_removal.specs.declared.term_copy.TermCopy.{TermCopy}
use Rattle.fin_removal.proofs.Conditions.{HasNoFin, below_parts, no_fin_parts, of_terms_holds}
use Rattle.fin_removal.proofs.CopiedPaths.{copies_of}
use Rattle.fin_removal.proofs.CopyMarks.{marks_below}
use Rattle.fin_removal.proofs.CopyNumbers.{is_among}
use Rattle.fin_removal.proofs.TermCopies.{copy_of}

-- what holds of the sets of each copy holds of the literals of the condition
owned_each : (P : FormulaTree → Type 0) (ts : List (List Literal))
    → ((copy : TermCopy) → Contains (term_copies ts) copy → (set : ℕ) → set < copy.first + literal_places copy.infs → P (FormulaTree.Inf set false))
    → AllByRecursion (λ term. AllByRecursion (λ l. P (literal_formula l)) term) (owned_sets ts)
owned_each P ts each = AllByRecursion-map (λ term. AllByRecursion (λ l. P (literal_formula l)) term) owned (term_copies ts) (each_copy (term_copies ts) each)
  where
    each_copy : (cs : List TermCopy) → ((copy : TermCopy) → Contains cs copy → (set : ℕ) → set < copy.first + literal_places copy.infs → P (FormulaTree.Inf set false))
        → AllByRecursion (λ copy. AllByRecursion (λ l. P (literal_formula l)) (owned copy)) cs
    each_copy [] each = tt
    each_copy (k ∷ ks) each = (
      AllByRecursion-map (λ l. P (literal_formula l)) (λ set. Inf set false) (range_with_len k.first (literal_places k.infs))
          (AllByRecursion-weaker (λ x. (k.first ≤ x) × (x < k.first + literal_places k.infs)) (λ x. P (FormulaTree.Inf x false)) (range_with_len k.first (literal_places k.infs))
          (λ x h. each k (0, omega arith, refl) x h.1) (range_within k.first (literal_places k.infs))),
      each_copy ks (λ copy there. each copy (suc there.0, omega (arith, there.1), there.2)),
    )

pub copied_no_fin : (a : Automaton) → has_fin (copied a).formula ≡ false
copied_no_fin a = of_terms_holds HasNoFin no_fin_parts (owned_sets (terms a.formula)) (owned_each HasNoFin (terms a.formula) (λ copy there set within. refl))

copied_below : (a : Automaton) → SetsBelow (copied a).sets (copied a).formula
copied_below a =
    let sets = sum_by sets_of (terms a.formula) in
    of_terms_holds (SetsBelow sets) (below_parts sets) (owned_sets (terms a.formula)) (owned_each (SetsBelow sets) (terms a.formula) (λ copy there set within.
    let among = is_among 1 0 (terms a.formula) copy there in
    omega (arith, within, among.sets_to)))

-- the edges in order
main_from : (n : ℕ) (copies : List TermCopy) (e d : LabelledEdge) → Contains (main_edges n copies e) d → d.from ≡ e.from
main_from n copies e d there = ⊎_elim
    (λ (same : stay e ≡ d). ap (λ (f : LabelledEdge). f.from) (sym same))
    (λ (other : Contains (map (enter n e) copies) d). let at = from_map (enter n e) copies d other in ap (λ (f : LabelledEdge). f.from) (sym at.2))
    (there_cases (stay e) (map (enter n e) copies) d there)

copies_rise : (n : ℕ) (edges : List LabelledEdge) → Rises 0 n edges → (number first : ℕ) (ts : List (List Literal))
    → Rises (number * n) ((number + length ts) * n) (flat_map (copy_edges n edges) (copies_from number first ts))
copies_rise n edges r number first [] = tt
copies_rise n edges r number first (t ∷ ts) =
    let k : TermCopy = copy_of number first t in
    let far : number + 1 + length ts ≡ number + length (t ∷ ts) = omega arith in
    let low : number * n + 0 ≡ number * n = omega arith in
    let high : number * n + n ≡ (number + 1) * n = omega arith in
    let kept = rises_kept (λ (e : LabelledEdge). allows k e.marks) 0 n edges r in
    let here : Rises (number * n) ((number + 1) * n) (copy_edges n edges k) =
    subst (λ h. Rises (number * n) h (copy_edges n edges k)) high
    (subst (λ l. Rises l (number * n + n) (copy_edges n edges k)) low (rises_moved (edge_in n k) (number * n) (λ e. refl) 0 n (filter (λ (e : LabelledEdge). allows k e.marks) edges) kept)) in
    let up : (number + 1) * n ≤ (number + 1 + length ts) * n = mul-le-mul_right n (let e : number + 1 ≤ number + 1 + length ts = omega arith in e) in
    subst (λ m. Rises (number * n) (m * n) (flat_map (copy_edges n edges) (copies_from number first (t ∷ ts)))) far
    (rises_then (number * n) ((number + 1) * n) ((number + 1 + length ts) * n) (copy_edges n edges k) (flat_map (copy_edges n edges) (copies_from (number + 1) (first + sets_of t) ts))
    (omega (arith, high)) up here (copies_rise n edges r (number + 1) (first + sets_of t) ts))

edges_rise : (a : Automaton) → IsWellFormed a → Rises 0 a.states a.edges
edges_rise a formed = risen a.states a.edges formed.in_order (All-weaker (IsEdgeOf a) (λ e. e.from < a.states) (λ e h. h.from) a.edges formed.edges) 0 (λ d some. omega arith)

copied_rise : (a : Automaton) → IsWellFormed a → Rises 0 (copied a).states (copied a).edges
copied_rise a formed =
    let r = edges_rise a formed in
    let one : 1 * a.states ≡ a.states = omega arith in
    let up : 1 * a.states ≤ (1 + length (terms a.formula)) * a.states = mul-le-mul_right a.states (let e : 1 ≤ 1 + length (terms a.formula) = omega arith in e) in
    rises_then 0 a.states (copied a).states (flat_map (main_edges a.states (copies_of a)) a.edges) (flat_map (copy_edges a.states a.edges) (copies_of a)) (omega arith) (omega (arith, up))
    (rises_each (main_edges a.states (copies_of a)) (main_from a.states (copies_of a)) 0 a.states a.edges r)
    (subst (λ l. Rises l (copied a).states (flat_map (copy_edges a.states a.edges) (copies_of a))) one (copies_rise a.states a.edges r 1 0 (terms a.formula)))

-- the numbers of states
in_copies : (a : Automaton) (number q : ℕ) → number < 1 + length (terms a.formula) → q < a.states → state_in a.states number q < (copied a).states
in_copies a number q below within =
    let up : (number + 1) * a.states ≤ (1 + length (terms a.formula)) * a.states = mul-le-mul_right a.states (let e : number + 1 ≤ 1 + length (terms a.formula) = omega arith in e) in
    omega (arith, up, within)

in_main : (a : Automaton) (q : ℕ) → q < a.states → q < (copied a).states
in_main a q within = omega (arith, in_copies a 0 q (omega arith) within)

no_marks : (a : Automaton) (from to : ℕ) (e : LabelledEdge) → IsEdgeOf a e → from < (copied a).states → to < (copied a).states
    → IsEdgeOf (copied a) (record { from = from; label = e.label; to = to; marks = [] })
no_marks a from to e bounds below_from below_to =
    record { from = below_from; to = below_to; label = bounds.label; marks = All-nil (λ mark. mark < (copied a).sets); marks_rise = λ i j d order within. absurd (omega (arith, within)) }

marks_climb : (copy : TermCopy) (marks : List ℕ) → AllPairs (λ m n. m < n) (marks_in copy marks)
marks_climb copy marks = increasing (copy.first + 0) (marks_in copy marks)
    (increases_moved copy.first 0 _ (increases_kept (λ s. meets_at copy.infs s marks) 0 (range_with_len 0 (literal_places copy.infs)) (increases_range 0 (literal_places copy.infs))))

edge_whole : (a : Automaton) → IsWellFormed a → (f : LabelledEdge) → Contains (copied a).edges f → IsEdgeOf (copied a) f
edge_whole a formed f there = ⊎_elim
    (λ (s : Stays a f).
    let bounds = edge_bounds a formed s.edge s.there in
    subst (IsEdgeOf (copied a)) s.is (no_marks a s.edge.from s.edge.to s.edge bounds (in_main a s.edge.from bounds.from) (in_main a s.edge.to bounds.to)))
    (⊎_elim
    (λ (s : Enters a (copies_of a) f).
    let bounds = edge_bounds a formed s.edge s.there in
    let among = is_among 1 0 (terms a.formula) s.copy s.listed in
    subst (IsEdgeOf (copied a)) s.is (no_marks a s.edge.from (state_in a.states s.copy.number s.edge.to) s.edge bounds (in_main a s.edge.from bounds.from)
    (in_copies a s.copy.number s.edge.to among.number_to bounds.to)))
    (λ (s : Within a (copies_of a) f).
    let bounds = edge_bounds a formed s.edge s.there in
    let among = is_among 1 0 (terms a.formula) s.copy s.listed in
    let sets = among.sets_to in
    subst (IsEdgeOf (copied a)) s.is (record {
      from = in_copies a s.copy.number s.edge.from among.number_to bounds.from;
      to = in_copies a s.copy.number s.edge.to among.number_to bounds.to;
      label = bounds.label;
      marks = All-weaker (λ x. x < s.copy.first + literal_places s.copy.infs) (λ x. x < (copied a).sets) (λ x h. omega (arith, h, sets)) (marks_in s.copy s.edge.marks)
          (marks_below s.copy s.edge.marks (literal_places s.copy.infs));
      marks_rise = marks_climb s.copy s.edge.marks;
    })))
    (comes_from a (copies_of a) f there)

pub copied_well_formed : (a : Automaton) → IsWellFormed a → IsWellFormed (copied a)
copied_well_formed a formed = record {
  names_differ = formed.names_differ;
  starts_differ = formed.starts_differ;
  starts = All-weaker (λ p. p < a.states) (λ p. p < (copied a).states) (in_main a) a.starts formed.starts;
  in_order = rising 0 (copied a).states (copied a).edges (copied_rise a formed);
  edges = each_there (IsEdgeOf (copied a)) (copied a).edges (edge_whole a formed);
  formula = copied_below a;
}

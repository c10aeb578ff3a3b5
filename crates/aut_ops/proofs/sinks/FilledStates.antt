-- The links of a state with its link to the sink are the edges of the definition.
use Rattle.std.proofs.Common.{◌≡◌, ◌∙◌, ◌↔◌, ◌==◌, ◌+◌, ℕ, Bool, true, false, cond, if◌then◌else◌, IsTrue, List, [], ◌∷◌, ◌++◌, All, ap, append-nil, append_assoc, filter, length, map, subst, sym}
use Rattle.std.proofs.lemmas.List.Elements.{All-filter, All-weaker}
use Rattle.std.specs.List.{range_with_len}
use Rattle.std.specs.Prelude.{flat_map}
use Rattle.aut_base.proofs.lists.Lists.{flat_map-range_more}
use Rattle.aut_base.specs.Automaton.{LabelledEdge}
use Rattle.aut_base.specs.Formula.{FormulaTree}
use Rattle.aut_ops.proofs.sinks.Completions.{loop}
use Rattle.aut_core.proofs.Following.{stand_append, stand_itself, stand_kept, stand_push}
use Rattle.aut_core.specs.Links.{StandFor}
use Rattle.aut_core.proofs.Growth.{kept_edges}
use Rattle.aut_core.specs.SymbolicAutomata.{SymbolicAutomaton, IsWellFormedSymbolic, IsLinkOf, automaton_of, edge_of}
use Rattle.aut_core.specs.Surveys.{edges_from}
use Rattle.aut_core.specs.declared.link.Link.{Link}
use Rattle.label_guards.specs.Guards.{IsGuardOf, IsNeverMet}
use Rattle.label_guards.specs.Store.{Has, Keeps, Store, label_in}
use Rattle.label_guards.specs.declared.guard.Guard.{Guard}
use Rattle.aut_ops.proofs.links.Labels.{label_always, never_is}
use Rattle.aut_base.proofs.order.Ordered.{filter_map_of}
use Rattle.aut_ops.specs.Completion.{gap_edges, missing_label, with_sink}
use Rattle.aut_ops.specs.inner.Parts.{filled_edges, sink_marks}
use Rattle.aut_ops.specs.Labels.{is_never}

-- whether there are letters that meet no edge, by the guard of these letters
pub gap_is : (t : Store) (gap : Guard) (n : ℕ) (es : List LabelledEdge) (b : Bool) → (IsTrue b ↔ IsNeverMet t gap) → t.names ≡ n → label_in t gap ≡ missing_label n es
    → is_never n (missing_label n es) ≡ b
gap_is t gap n es b is names label = sym (never_is t gap b is ∙ (ap (λ m. is_never m (label_in t gap)) names ∙ ap (is_never n) label))

pub both_rows : (s t : Store) (links row new : List Link) → Keeps s t → All (λ l. Has s l.guard) links → All (λ l. Has s l.guard) row → new ≡ links ++ row
    → StandFor t new (map (edge_of s) links ++ map (edge_of s) row)
both_rows s t links row new keeps first second is =
    stand_append t links row new (map (edge_of s) links) (map (edge_of s) row) (stand_kept s t links (map (edge_of s) links) keeps (stand_itself s links first))
    (stand_kept s t row (map (edge_of s) row) keeps (stand_itself s row second)) is

pub without_gap : (t : Store) (new : List Link) (n state sink : ℕ) (before es : List LabelledEdge) → is_never n (missing_label n es) ≡ true → StandFor t new (before ++ es)
    → StandFor t new (before ++ (es ++ gap_edges n state sink es))
without_gap t new n state sink before es never so_far =
    let none : gap_edges n state sink es ≡ [] = ap (λ (b : Bool). cond b [] (record { from = state; label = missing_label n es; to = sink; marks = [] } ∷ [])) never in
    subst (StandFor t new) (ap (λ fs. before ++ fs) (sym (append-nil es) ∙ ap (λ fs. es ++ fs) (sym none))) so_far

pub with_gap : (t : Store) (links new : List Link) (gap : Guard) (n state sink : ℕ) (marks : List ℕ) (before es : List LabelledEdge) → is_never n (missing_label n es) ≡ false
    → StandFor t links (before ++ es) → Has t gap → label_in t gap ≡ missing_label n es → marks ≡ [] → new ≡ links ++ record { from = state; guard = gap; to = sink; marks = marks } ∷ []
    → StandFor t new (before ++ (es ++ gap_edges n state sink es))
with_gap t links new gap n state sink marks before es some so_far has label unmarked pushed =
    let edge : LabelledEdge = record { from = state; label = missing_label n es; to = sink; marks = [] } in
    let one : gap_edges n state sink es ≡ edge ∷ [] = ap (λ (b : Bool). cond b [] (edge ∷ [])) some in
    let e : edge_of t (record { from = state; guard = gap; to = sink; marks = marks }) ≡ edge = λ i. record { from = state; label = label i; to = sink; marks = unmarked i } in
    subst (StandFor t new) (append_assoc before es (edge ∷ []) ∙ ap (λ fs. before ++ (es ++ fs)) (sym one))
    (stand_push t links new (record { from = state; guard = gap; to = sink; marks = marks }) (before ++ es) edge so_far has e pushed)

pub links_have : (a : SymbolicAutomaton) → IsWellFormedSymbolic a → All (λ l. Has a.store l.guard) a.links
links_have a core = All-weaker (IsLinkOf a) (λ (l : Link). Has a.store l.guard) (λ l h. h.guard) a.links core.parts.links

-- the links that leave a state
pub row_have : (a : SymbolicAutomaton) (s : Store) (q : ℕ) (row : List Link) → IsWellFormedSymbolic a → Keeps a.store s → row ≡ filter (λ l. l.from == q) a.links → All (λ l. Has s l.guard) row
row_have a s q row core keeps is =
    subst (All (λ (l : Link). Has s l.guard)) (sym is)
    (All-filter (λ (l : Link). l.from == q) (λ (l : Link). Has s l.guard) a.links
    (All-weaker (λ (l : Link). Has a.store l.guard) (λ (l : Link). Has s l.guard) (λ l h. keeps.has l.guard h) a.links (links_have a core)))

pub row_edges : (a : SymbolicAutomaton) (s : Store) (q : ℕ) (row : List Link) → IsWellFormedSymbolic a → Keeps a.store s → row ≡ filter (λ l. l.from == q) a.links
    → map (edge_of s) row ≡ edges_from q (automaton_of a).edges
row_edges a s q row core keeps is =
    ap (map (edge_of s)) is ∙ (sym (filter_map_of (λ (e : LabelledEdge). e.from == q) (edge_of s) a.links) ∙ ap (edges_from q) (kept_edges a.links keeps (links_have a core)))

-- another state
pub state_more : (a : SymbolicAutomaton) (s t : Store) (links new row : List Link) (q sink : ℕ) → sink ≡ a.states → IsWellFormedSymbolic a → Keeps a.store s → row ≡ filter (λ l. l.from == q) a.links
    → StandFor s links (flat_map (filled_edges (automaton_of a)) (range_with_len 0 q))
    → StandFor t new (map (edge_of s) links ++ (map (edge_of s) row ++ gap_edges s.names q sink (map (edge_of s) row)))
    → StandFor t new (flat_map (filled_edges (automaton_of a)) (range_with_len 0 (q + 1)))
state_more a s t links new row q sink at core keeps is so_far filled =
    let names : s.names ≡ length a.names = keeps.names ∙ core.parts.store_names in
    let es : map (edge_of s) row ≡ edges_from q (automaton_of a).edges = row_edges a s q row core keeps is in
    let whole : map (edge_of s) row ++ gap_edges s.names q sink (map (edge_of s) row) ≡ filled_edges (automaton_of a) q = λ i. es i ++ gap_edges (names i) q (at i) (es i) in
    subst (StandFor t new) (ap (λ fs. fs ++ (map (edge_of s) row ++ gap_edges s.names q sink (map (edge_of s) row))) so_far.edges
    ∙ (ap (λ fs. flat_map (filled_edges (automaton_of a)) (range_with_len 0 q) ++ fs) whole ∙ sym (flat_map-range_more (filled_edges (automaton_of a)) q))) filled

-- the parts of an automaton with a sink
pub record IsSunk (a c : SymbolicAutomaton) : Type 0 where
  pub is : automaton_of c ≡ with_sink (automaton_of a)
  pub has : All (λ l. Has c.store l.guard) c.links
  pub names : c.store.names ≡ length a.names

pub sunk : (a : SymbolicAutomaton) (s t : Store) (names : List (List ℕ)) (old starts : List ℕ) (sink sets : ℕ) (links new : List Link) (always : Guard) (marks : List ℕ)
    (formula : FormulaTree) → IsWellFormedSymbolic a
    → s ≡ a.store → sink ≡ a.states → names ≡ a.names → old ≡ a.starts → starts ≡ (if length old == 0 then sink ∷ [] else old)
    → t.names ≡ s.names → StandFor t links (flat_map (filled_edges (automaton_of a)) (range_with_len 0 a.states)) → IsGuardOf t (λ on. true) always → marks ≡ sink_marks (automaton_of a)
    → new ≡ links ++ record { from = sink; guard = always; to = sink; marks = marks } ∷ [] → sets ≡ (with_sink (automaton_of a)).sets → formula ≡ (with_sink (automaton_of a)).formula
    → IsSunk a (record { names = names; starts = starts; states = sink + 1; links = new; sets = sets; formula = formula; store = t })
sunk a s t names old starts sink sets links new always marks formula core base at same_names first same_starts kept so_far is marked pushed same_sets same_formula =
    let e : edge_of t (record { from = sink; guard = always; to = sink; marks = marks }) ≡ loop (automaton_of a) =
    λ i. record { from = at i; label = label_always t always is i; to = at i; marks = marked i } in
    let all = stand_push t links new (record { from = sink; guard = always; to = sink; marks = marks }) (flat_map (filled_edges (automaton_of a)) (range_with_len 0 a.states))
    (loop (automaton_of a)) so_far is.has e pushed in
    record {
      is = λ i. record {
        names = same_names i;
        starts = (same_starts ∙ (λ j. if length (first j) == 0 then at j ∷ [] else first j)) i;
        states = at i + 1;
        edges = all.edges i;
        sets =
            same_sets i;
        formula = same_formula i;
      };
      has = all.has;
      names = kept ∙ (ap (λ (r : Store). r.names) base ∙ core.parts.store_names);
    }

-- The links of states, the guards of the links that leave a set, and the edges that leave it.
use Rattle.std.proofs.Common.{◌≡◌, ◌∙◌, ◌+◌, ◌<◌, ◌==◌, ℕ, All, List, [], ◌∷◌, ◌++◌, Some, ap, filter, get_or, length, map, refl}
use Rattle.std.proofs.Common.{slice_get, subst, sym, take}
use Rattle.std.proofs.lemmas.List.{map-append}
use Rattle.std.proofs.lemmas.List.Elements.{All-contains, All-filter}
use Rattle.aut_base.proofs.lists.Members.{each_there, from_filter, from_flat_map, from_map, read_has}
use Rattle.aut_base.proofs.lists.Steps.{flat_map_on}
use Rattle.aut_base.specs.Automaton.{Automaton, LabelledEdge}
use Rattle.aut_core.specs.SymbolicAutomata.{SymbolicAutomaton, IsWellFormedSymbolic, IsLinkOf, automaton_of, edge_of}
use Rattle.aut_core.specs.Surveys.{edges_from}
use Rattle.aut_core.specs.declared.link.Link.{Link}
use Rattle.aut_base.proofs.order.Ordered.{filter_map_of}
use Rattle.label_guards.specs.Store.{Has, HasPlace, Store, label_in}
use Rattle.letter_classes.specs.SetClasses.{guards_from, set_edges, set_labels}

-- what holds of each link holds of the links of a state
pub row_link : (c : SymbolicAutomaton) → IsWellFormedSymbolic c → (state i : ℕ) (row : List Link) (l : Link) → row ≡ filter (λ l. l.from == state) c.links → i < length row
    → l ≡ get_or row i l → IsLinkOf c l
row_link c core state i row l e within at = read_has (IsLinkOf c) row i l (subst (All (IsLinkOf c)) (sym e) (All-filter (λ l. l.from == state) (IsLinkOf c) c.links core.parts.links)) within at

pub row_guard : (c : SymbolicAutomaton) → IsWellFormedSymbolic c → (state i : ℕ) (row : List Link) (l : Link) (s : Store) → row ≡ filter (λ l. l.from == state) c.links → i < length row
    → l ≡ get_or row i l → s ≡ c.store
    → HasPlace s l.guard.place
row_guard c core state i row l s e within at same = subst (λ (t : Store). HasPlace t l.guard.place) (sym same) (row_link c core state i row l e within at).guard

-- the edges of the first k states and of the next
pub set_edges_on : (b : Automaton) (set : List ℕ) (k state : ℕ) → slice_get set k ≡ Some state → set_edges b (take k set) ++ edges_from state b.edges ≡ set_edges b (take (k + 1) set)
set_edges_on b set k state at = flat_map_on (λ q. edges_from q b.edges) set k state at

row_labels : (c : SymbolicAutomaton) (row : List Link) → map (label_in c.store) (map (λ (l : Link). l.guard) row) ≡ map (λ (e : LabelledEdge). e.label) (map (edge_of c.store) row)
row_labels c [] = refl
row_labels c (l ∷ row) = ap (λ ts. label_in c.store l.guard ∷ ts) (row_labels c row)

pub guards_labels : (c : SymbolicAutomaton) (qs : List ℕ) → map (label_in c.store) (guards_from c qs) ≡ set_labels (automaton_of c) qs
guards_labels c [] = refl
guards_labels c (q ∷ qs) =
    let row : List Link = filter (λ l. l.from == q) c.links in
    let first : map (label_in c.store) (map (λ (l : Link). l.guard) row) ≡ map (λ (e : LabelledEdge). e.label) (edges_from q (automaton_of c).edges) =
    row_labels c row ∙ ap (map (λ (e : LabelledEdge). e.label)) (sym (filter_map_of (λ (e : LabelledEdge). e.from == q) (edge_of c.store) c.links)) in
    map-append (label_in c.store) (map (λ (l : Link). l.guard) row) (guards_from c qs)
    ∙ (ap (λ ts. ts ++ map (label_in c.store) (guards_from c qs)) first ∙ (ap (λ ts. map (λ (e : LabelledEdge). e.label) (edges_from q (automaton_of c).edges) ++ ts) (guards_labels c qs)
    ∙ sym (map-append (λ (e : LabelledEdge). e.label) (edges_from q (automaton_of c).edges) (set_edges (automaton_of c) qs))))

pub guards_has : (c : SymbolicAutomaton) → IsWellFormedSymbolic c → (qs : List ℕ) → All (Has c.store) (guards_from c qs)
guards_has c core qs = each_there (Has c.store) (guards_from c qs) (λ g there.
    let from = from_flat_map (λ q. map (λ (l : Link). l.guard) (filter (λ l. l.from == q) c.links)) qs g there in
    let link = from_map (λ (l : Link). l.guard) (filter (λ l. l.from == from.0) c.links) g from.2 in
    let is = All-contains (IsLinkOf c) c.links link.0 core.parts.links (from_filter (λ l. l.from == from.0) c.links link.0 link.1).0 in
    subst (Has c.store) link.2 is.guard)

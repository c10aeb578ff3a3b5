-- The lines of a state are those of the edges that leave it.
use Rattle.std.proofs.Common.{◌≡◌, ◌==◌, ◌+◌, ◌∙◌, ℕ, sym, ap, refl, List, [], ◌∷◌, ◌++◌, map, filter, take, length, get_or, All, subst, ◌<◌, ◌≤◌}
use Rattle.std.proofs.lemmas.List.{append_assoc, take_all}
use Rattle.std.proofs.lemmas.List.Elements.{All-filter}
use Rattle.std.specs.Fmt.{decimal}
use Rattle.std.specs.List.{flat_map, range_with_len}
use Rattle.std.specs.Prelude.{codes}
use Rattle.aut_base.proofs.lists.Lists.{flat_map-range_more}
use Rattle.aut_base.proofs.order.Ordered.{filter_map_of}
use Rattle.aut_base.specs.Automaton.{Automaton, LabelledEdge}
use Rattle.aut_core.specs.SymbolicAutomata.{SymbolicAutomaton, IsLinkOf, automaton_of, edge_of}
use Rattle.aut_core.specs.declared.link.Link.{Link}
use Rattle.aut_base.specs.Text.{line}
use Rattle.hoa_writer.specs.CanonicalText.{edge_line, state_lines}
use Rattle.hoa_writer.specs.inner.Lines.{link_line}
use Rattle.label_guards.specs.Store.{Has, Store}

links_written : (s : Store) (ls : List Link) → flat_map (edge_line s.names) (map (edge_of s) ls) ≡ flat_map (link_line s) ls
links_written s [] = refl
links_written s (l ∷ ls) = ap (λ text. link_line s l ++ text) (links_written s ls)

-- an edge that leaves a state has a guard of the store
pub link_has_guard : (c : SymbolicAutomaton) (q i : ℕ) (ls : List Link) (l : Link) → All (IsLinkOf c) c.links → ls ≡ filter (λ k. k.from == q) c.links → i < length ls → l ≡ get_or ls i l
    → Has c.store l.guard
link_has_guard c q i ls l all same within is =
    let mine : All (IsLinkOf c) ls = subst (All (IsLinkOf c)) (sym same) (All-filter (λ k. k.from == q) (IsLinkOf c) c.links all) in
    (subst (IsLinkOf c) (sym is) (mine i l within)).guard

-- the lines that are written of a state's edges are those that its edges have in the definition
pub edges_written : (c : SymbolicAutomaton) (q i : ℕ) (ls : List Link) (old new : List ℕ) → length c.names ≡ c.store.names → ls ≡ filter (λ k. k.from == q) c.links → length ls ≤ i
    → new ≡ old ++ flat_map (link_line c.store) (take i ls) → new ≡ old ++ flat_map (edge_line (length c.names)) (filter (λ e. e.from == q) (automaton_of c).edges)
edges_written c q i ls old new names same end so =
    let edges : flat_map (edge_line c.store.names) (filter (λ (e : LabelledEdge). e.from == q) (map (edge_of c.store) c.links)) ≡ flat_map (link_line c.store) (filter (λ k. k.from == q) c.links) =
    ap (flat_map (edge_line c.store.names)) (filter_map_of (λ (e : LabelledEdge). e.from == q) (edge_of c.store) c.links) ∙ links_written c.store (filter (λ k. k.from == q) c.links) in
    so ∙ ap (λ ks. old ++ flat_map (link_line c.store) ks) (take_all i ls end ∙ same) ∙ ap (λ text. old ++ text) (sym edges)
    ∙ ap (λ n. old ++ flat_map (edge_line n) (filter (λ (e : LabelledEdge). e.from == q) (automaton_of c).edges)) (sym names)

-- another state
pub state_written : (a : Automaton) (q : ℕ) (old now step new : List ℕ) → now ≡ old ++ flat_map (state_lines a) (range_with_len 0 q) → step ≡ now ++ line (codes "State: " ++ decimal q)
    → new ≡ step ++ flat_map (edge_line (length a.names)) (filter (λ e. e.from == q) a.edges) → new ≡ old ++ flat_map (state_lines a) (range_with_len 0 (q + 1))
state_written a q old now step new so head edges =
    let text = flat_map (edge_line (length a.names)) (filter (λ e. e.from == q) a.edges) in
    let lines = flat_map (state_lines a) (range_with_len 0 q) in
    edges ∙ (ap (λ t. t ++ text) (head ∙ ap (λ t. t ++ line (codes "State: " ++ decimal q)) so)
    ∙ (append_assoc (old ++ lines) (line (codes "State: " ++ decimal q)) text
    ∙ (append_assoc old lines (state_lines a q) ∙ ap (λ t. old ++ t) (sym (flat_map-range_more (state_lines a) q)))))

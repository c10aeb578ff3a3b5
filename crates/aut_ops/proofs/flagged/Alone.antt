-- Automata in memory that are restricted to flagged states: their links are the edges of the definition.
use Rattle.std.proofs.Common.{◌≡◌, ◌∙◌, ◌<◌, ◌≤◌, ℕ, Bool, List, [], ◌∷◌, All, ap, arith, filter, get_or, length, map, refl, subst, sym, take}
use Rattle.std.proofs.lemmas.List.{length-map, take_all}
use Rattle.std.proofs.lemmas.List.Elements.{All-filter, All-head, All-map, All-tail, All-weaker}
use Rattle.std.proofs.lemmas.List.FromFn.{get_or-map-range_with_len}
use Rattle.std.proofs.lemmas.Simd.{map-map}
use Rattle.std.specs.List.{range_with_len}
use Rattle.aut_base.proofs.lists.Lists.{map-filter}
use Rattle.aut_base.specs.Automaton.{Automaton, LabelledEdge}
use Rattle.aut_core.specs.SymbolicAutomata.{AreSymbolicParts, SymbolicAutomaton, IsWellFormedSymbolic, IsLinkOf, automaton_of, edge_of}
use Rattle.aut_core.specs.declared.link.Link.{Link}
use Rattle.label_guards.specs.Store.{Has, Store}
use Rattle.aut_ops.proofs.flagged.Between.{between_formed}
use Rattle.aut_ops.proofs.sinks.FilledStates.{links_have}
use Rattle.aut_ops.proofs.links.Linked.{parts_for}
use Rattle.aut_ops.proofs.flagged.Trimmed.{alone_formed}
use Rattle.aut_ops.specs.Satisfiable.{between, is_flagged, is_satisfiable, passable_arcs}
use Rattle.aut_ops.specs.inner.Parts.{arc_of, is_kept_edge, renumbered_edge}
use Rattle.aut_ops.specs.Trimming.{IsReachedSize, flagged_before, renumbered}
use Rattle.aut_ops.specs.declared.reached.ReachedSize.{ReachedSize}
use Rattle.graph_walk.specs.Reach.{AreReachFlags}
use Rattle.aut_ops.specs.inner.Renumbering.{link_arc, link_passable, link_stays, new_link, new_number}

-- the edges of the links that are kept
pub edges_staying : (c : SymbolicAutomaton) (flags : List Bool) → map (edge_of c.store) (filter (link_stays c flags) c.links) ≡ (between flags (automaton_of c)).edges
edges_staying c flags = map-filter (edge_of c.store) (is_kept_edge (length c.names) flags) c.links

module _ (flags : List Bool) (ranks : List ℕ) (is : ranks ≡ map (flagged_before flags) (range_with_len 0 (length flags))) where
  pub number_is : (q : ℕ) → q < length flags → new_number ranks q ≡ flagged_before flags q
  number_is q within = ap (λ (ns : List ℕ). get_or ns q 0) is ∙ get_or-map-range_with_len (flagged_before flags) 0 (length flags) q q 0 within (omega arith)

  pub numbers_are : (ps : List ℕ) → All (λ p. p < length flags) ps → map (new_number ranks) ps ≡ map (flagged_before flags) ps
  numbers_are [] within = refl
  numbers_are (p ∷ ps) within =
      ap (λ n. n ∷ map (new_number ranks) ps) (number_is p (All-head (λ q. q < length flags) p ps within))
      ∙ ap (λ ns. flagged_before flags p ∷ ns) (numbers_are ps (All-tail (λ q. q < length flags) p ps within))

  pub edges_are : (s : Store) (links : List Link) → All (λ (l : Link). l.from < length flags) links → All (λ (l : Link). l.to < length flags) links
      → map (edge_of s) (map (new_link ranks) links) ≡ map (renumbered_edge flags) (map (edge_of s) links)
  edges_are s [] from to = refl
  edges_are s (l ∷ ls) from to =
      let begins = number_is l.from (All-head (λ (m : Link). m.from < length flags) l ls from) in
      let ends = number_is l.to (All-head (λ (m : Link). m.to < length flags) l ls to) in
      let e : LabelledEdge = edge_of s l in
      let same : edge_of s (new_link ranks l) ≡ renumbered_edge flags e = λ i. record { from = begins i; label = e.label; to = ends i; marks = l.marks } in
      ap (λ (d : LabelledEdge). d ∷ map (edge_of s) (map (new_link ranks) ls)) same
      ∙ ap (λ ds. renumbered_edge flags e ∷ ds) (edges_are s ls (All-tail (λ (m : Link). m.from < length flags) l ls from) (All-tail (λ (m : Link). m.to < length flags) l ls to))

-- links leave states of the automaton
pub links_from_states : (c : SymbolicAutomaton) → IsWellFormedSymbolic c → (n : ℕ) → n ≡ c.states → (p : Link → Bool) → All (λ l. l.from < n) (filter p c.links)
links_from_states c core n is p = All-filter p (λ (l : Link). l.from < n) c.links (All-weaker (IsLinkOf c) (λ (l : Link). l.from < n) (λ l link. omega (arith, link.from, is)) c.links core.parts.links)

pub links_to_states : (c : SymbolicAutomaton) → IsWellFormedSymbolic c → (n : ℕ) → n ≡ c.states → (p : Link → Bool) → All (λ l. l.to < n) (filter p c.links)
links_to_states c core n is p = All-filter p (λ (l : Link). l.to < n) c.links (All-weaker (IsLinkOf c) (λ (l : Link). l.to < n) (λ l link. omega (arith, link.to, is)) c.links core.parts.links)

pub starts_states : (c : SymbolicAutomaton) → IsWellFormedSymbolic c → (n : ℕ) → n ≡ c.states → (p : ℕ → Bool) → All (λ q. q < n) (filter p c.starts)
starts_states c core n is p = All-filter p (λ q. q < n) c.starts (All-weaker (λ q. q < c.states) (λ q. q < n) (λ q less. omega (arith, less, is)) c.starts core.parts.starts)

-- the arcs of the links with satisfiable labels
pub passable_links : (c : SymbolicAutomaton) (arcs : List (ℕ × ℕ)) (i : ℕ) → length c.links ≤ i → arcs ≡ map link_arc (filter (link_passable c) (take i c.links))
    → arcs ≡ passable_arcs (automaton_of c)
passable_links c arcs i end so_far =
    so_far ∙ (ap (λ ls. map link_arc (filter (link_passable c) ls)) (take_all i c.links end)
    ∙ (sym (map-map arc_of (edge_of c.store) (filter (link_passable c) c.links)) ∙ ap (map arc_of) (map-filter (edge_of c.store) (is_satisfiable (length c.names)) c.links)))

-- the parts of the automaton x
pub record MakesOf (x : Automaton) (made : SymbolicAutomaton) : Type 0 where
  pub is : automaton_of made ≡ x
  pub parts : AreSymbolicParts made

-- the restriction to flagged states, which keep their numbers
pub kept_alone : (c : SymbolicAutomaton) (flags : List Bool) (starts : List ℕ) (states : ℕ) (links : List Link) → IsWellFormedSymbolic c → starts ≡ filter (is_flagged flags) c.starts
    → states ≡ c.states
    → links ≡ filter (link_stays c flags) c.links → MakesOf (between flags (automaton_of c)) (record c { starts = starts; states = states; links = links })
kept_alone c flags starts states links core starts_are states_are links_are =
    let made : SymbolicAutomaton = record c { starts = starts; states = states; links = links } in
    let edges : map (edge_of c.store) links ≡ (between flags (automaton_of c)).edges = ap (map (edge_of c.store)) links_are ∙ edges_staying c flags in
    let is : automaton_of made ≡ between flags (automaton_of c) =
    λ i. record { names = c.names; starts = starts_are i; states = states_are i; edges = edges i; sets = c.sets; formula = c.formula } in
    record {
      is = is;
      parts = parts_for made (between flags (automaton_of c)) is (between_formed (automaton_of c) core.well_formed flags) core.parts.few core.parts.store_names
          (subst (All (λ (l : Link). Has c.store l.guard)) (sym links_are) (All-filter (link_stays c flags) (λ (l : Link). Has c.store l.guard) c.links (links_have c core)));
    }

-- the same with renumbered states
pub numbered_alone : (c : SymbolicAutomaton) (flags : List Bool) (ranks flagged starts : List ℕ) (states : ℕ) (staying links : List Link) → IsWellFormedSymbolic c → length flags ≡ c.states
    → ranks ≡ map (flagged_before flags) (range_with_len 0 (length flags)) → flagged ≡ filter (is_flagged flags) c.starts → starts ≡ map (new_number ranks) flagged
    → states ≡ flagged_before flags (length flags)
    → staying ≡ filter (link_stays c flags) c.links → links ≡ map (new_link ranks) staying
    → MakesOf (renumbered flags (between flags (automaton_of c))) (record c { starts = starts; states = states; links = links })
numbered_alone c flags ranks flagged starts states staying links core size ranks_are flagged_are starts_are states_are staying_are links_are =
    let made : SymbolicAutomaton = record c { starts = starts; states = states; links = links } in
    let kept = filter (link_stays c flags) c.links in
    let new : links ≡ map (new_link ranks) kept = links_are ∙ ap (map (new_link ranks)) staying_are in
    let edges : map (edge_of c.store) links ≡ (renumbered flags (between flags (automaton_of c))).edges = ap (map (edge_of c.store)) new
    ∙ (edges_are flags ranks ranks_are c.store kept (links_from_states c core (length flags) size (link_stays c flags)) (links_to_states c core (length flags) size (link_stays c flags))
    ∙ ap (map (renumbered_edge flags)) (edges_staying c flags)) in
    let within = starts_states c core (length flags) size (is_flagged flags) in
    let begins = starts_are ∙ (ap (map (new_number ranks)) flagged_are ∙ numbers_are flags ranks ranks_are (filter (is_flagged flags) c.starts) within) in
    let is : automaton_of made ≡ renumbered flags (between flags (automaton_of c)) =
    λ i. record { names = c.names; starts = begins i; states = (states_are ∙ ap (flagged_before flags) size) i; edges = edges i; sets = c.sets; formula = c.formula } in
    let there : All (λ (l : Link). Has c.store l.guard) (map (new_link ranks) kept) = All-map (λ (l : Link). Has c.store l.guard) (new_link ranks) kept
    (All-filter (link_stays c flags) (λ (l : Link). Has c.store l.guard) c.links (links_have c core)) in
    record {
      is = is;
      parts = parts_for made (renumbered flags (between flags (automaton_of c))) is (alone_formed (automaton_of c) core.well_formed flags) core.parts.few core.parts.store_names
          (subst (All (λ (l : Link). Has c.store l.guard)) (sym new) there);
    }

-- the numbers of states and links that are kept
pub reached_size : (c : SymbolicAutomaton) (flags : List Bool) (size : ReachedSize) → AreReachFlags c.states (passable_arcs (automaton_of c)) c.starts flags
    → size.states ≡ flagged_before flags (length flags)
    → size.edges ≡ length (filter (link_stays c flags) c.links) → IsReachedSize (automaton_of c) size
reached_size c flags size reached states edges = record {
  trimmed = renumbered flags (between flags (automaton_of c));
  is_trimmed = record { flags = flags; reached = reached; is = refl };
  states = states ∙ ap (flagged_before flags) reached.size;
  edges = edges ∙ (sym (length-map (filter (link_stays c flags) c.links) (edge_of c.store))
      ∙ (ap (λ (es : List LabelledEdge). length es) (edges_staying c flags) ∙ sym (length-map (between flags (automaton_of c)).edges (renumbered_edge flags))));
}

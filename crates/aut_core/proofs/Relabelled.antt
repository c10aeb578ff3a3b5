-- An automaton over other names, with its guards in another store, is well formed, and is deterministic or complete as before.
use Rattle.std.proofs.Common.{◌≡◌, ◌∙◌, ◌↔◌, ◌<◌, ◌≤◌, ℕ, Bool, IsTrue, List, All, AllPairs, Contains, ap, arith, get_or, length, map, refl, subst, sym}
use Rattle.std.proofs.lemmas.List.{get_or-map, length-map}
use Rattle.std.proofs.lemmas.List.Elements.{All-contains, All-weaker}
use Rattle.std.proofs.lemmas.Simd.{map-map}
use Rattle.aut_base.proofs.canonical.CanonicalAutomata.{labels_below}
use Rattle.aut_base.proofs.lists.Members.{from_map, there_map}
use Rattle.aut_base.proofs.order.AllPairsOf.{pairs_map}
use Rattle.aut_base.specs.Automaton.{Automaton, IsEdgeOf, IsWellFormed, LabelledEdge}
use Rattle.aut_base.specs.Label.{AllBelow}
use Rattle.aut_base.specs.LabelLaws.{LabelsBelow}
use Rattle.aut_base.specs.Word.{NameSet}
use Rattle.aut_base.specs.declared.limit.TheConstants.{MOST_NAMES}
use Rattle.label_guards.specs.Store.{Has, Store}
use Rattle.aut_core.specs.SymbolicAutomata.{AreSymbolicParts, IsLinkOf, IsWellFormedSymbolic, SymbolicAutomaton, automaton_of, edge_of}
use Rattle.aut_core.specs.Deterministic.{AreApart, IsComplete, IsDeterministic, is_met}
use Rattle.aut_core.specs.Index.{IsRowStart}
use Rattle.aut_core.specs.Kept.{IsIndexed}
use Rattle.aut_core.specs.Links.{StandFor}
use Rattle.aut_core.specs.OtherNames.{over_names}
use Rattle.aut_core.specs.declared.link.Link.{Link}
use Rattle.aut_core.proofs.Made.{parts_are_well_formed}
use Rattle.aut_core.proofs.OtherNames.{AreAmong, over_edge, over_own, over_parts, over_says, over_well_formed}

-- Edges over the new names are met by the same letters.

module _ (a : Automaton) (names : List (List ℕ)) (among : AreAmong a.names names) (below : LabelsBelow a) where
  met_at : (k : ℕ) (e : LabelledEdge) → k < length a.edges → (x : NameSet) → is_met names x (over_edge a.names names (get_or a.edges k e)) ≡ is_met a.names x (get_or a.edges k e)
  met_at k e within x = over_says a.names names among (get_or a.edges k e).label (below k e within) x

  met_in : (e : LabelledEdge) → Contains a.edges e → (x : NameSet) → is_met names x (over_edge a.names names e) ≡ is_met a.names x e
  met_in e there x = over_says a.names names among e.label (All-contains (λ d. AllBelow (length a.names) d.label) a.edges e below there) x

  pub deterministic_over : IsDeterministic a ↔ IsDeterministic (over_names names a)
  deterministic_over = (
    λ d. record {
      start = d.start;
      edges = pairs_map (λ e f. e.from ≡ f.from → AreApart names e f) (over_edge a.names names) a.edges (λ i j e less within same x first second.
          d.edges i j e less within same x (sym (met_at i e (omega (arith, less, within)) x) ∙ first) (sym (met_at j e within x) ∙ second));
    },
    λ d. record {
      start = d.start;
      edges = λ i j e less within same x first second.
          unmapped d.edges i j e less within same x (met_at i e (omega (arith, less, within)) x ∙ first) (met_at j e within x ∙ second);
    },
  )
    where
      unmapped : AllPairs (λ e f. e.from ≡ f.from → AreApart names e f) (map (over_edge a.names names) a.edges)
          → AllPairs (λ e f. e.from ≡ f.from → AreApart names (over_edge a.names names e) (over_edge a.names names f)) a.edges
      unmapped all i j e less within =
          let f : LabelledEdge → LabelledEdge = over_edge a.names names in
          let first : get_or (map f a.edges) i (f e) ≡ f (get_or a.edges i e) = get_or-map f a.edges i e (f e) (omega (arith, less, within)) in
          let second : get_or (map f a.edges) j (f e) ≡ f (get_or a.edges j e) = get_or-map f a.edges j e (f e) within in
          subst (λ (d : LabelledEdge). d.from ≡ (f (get_or a.edges j e)).from → AreApart names d (f (get_or a.edges j e))) first
          (subst (λ (d : LabelledEdge). (get_or (map f a.edges) i (f e)).from ≡ d.from → AreApart names (get_or (map f a.edges) i (f e)) d) second
          (all i j (f e) less (omega (arith, within, length-map a.edges f))))

  pub complete_over : IsComplete a ↔ IsComplete (over_names names a)
  complete_over = (
    λ d. record {
      start = d.start;
      edges = λ q less x.
          (let on = d.edges q less x in
          record {
            edge = over_edge a.names names on.edge;
            is_edge = there_map (over_edge a.names names) a.edges on.edge on.is_edge;
            from = on.from;
            meets = met_in on.edge on.is_edge x ∙ on.meets;
          });
    },
    λ d. record {
      start = d.start;
      edges = λ q less x.
          (let on = d.edges q less x in
          let found = from_map (over_edge a.names names) a.edges on.edge on.is_edge in
          record {
            edge = found.0;
            is_edge = found.1;
            from = ap (λ (e : LabelledEdge). e.from) found.2 ∙ on.from;
            meets = sym (met_in found.0 found.1 x) ∙ (ap (is_met names x) found.2 ∙ on.meets);
          });
    },
  )

-- The links leave the same states.

begins_like : (old new : List Link) (state place : ℕ) → map (λ (l : Link). l.from) new ≡ map (λ (l : Link). l.from) old → IsRowStart old state place → IsRowStart new state place
begins_like old new state place same begins = record {
  within = omega (arith, begins.within, size);
  before = λ k d less. omega (arith, begins.before k d less, at k d (omega (arith, less, begins.within, size)));
  behind = λ k d later within. omega (arith, begins.behind k d later (omega (arith, within, size)), at k d within);
}
  where
    size : length new ≡ length old
    size = sym (length-map new (λ (l : Link). l.from)) ∙ (ap length same ∙ length-map old (λ (l : Link). l.from))

    at : (k : ℕ) (d : Link) → k < length new → (get_or new k d).from ≡ (get_or old k d).from
    at k d within =
        sym (get_or-map (λ (l : Link). l.from) new k d 0 within)
        ∙ (ap (λ (ns : List ℕ). get_or ns k 0) same ∙ get_or-map (λ (l : Link). l.from) old k d 0 (omega (arith, within, size)))

-- The automaton of the new links is the old one over these names.
pub relabelled_is : (c : SymbolicAutomaton) (names over : List (List ℕ)) (t : Store) (links : List Link) → over ≡ names → StandFor t links (over_names names (automaton_of c)).edges
    → automaton_of (record c { names = over; store = t; links = links }) ≡ over_names names (automaton_of c)
relabelled_is c names over t links is stand = λ i. record (over_names names (automaton_of c)) { names = is i; edges = stand.edges i }

-- Copies of its links stand for its edges over its own names.
pub own_stand : (c : SymbolicAutomaton) (names : List (List ℕ)) (t : Store) (links : List Link) → IsWellFormedSymbolic c → names ≡ c.names → t ≡ c.store → links ≡ c.links
    → StandFor t links (over_names names (automaton_of c)).edges
own_stand c names t links core same stored linked =
    let own : StandFor c.store c.links (over_names c.names (automaton_of c)).edges = record {
      has = All-weaker (IsLinkOf c) (λ l. Has c.store l.guard) (λ l is. is.guard) c.links core.parts.links;
      edges = sym (ap (λ (a : Automaton). a.edges) (over_own c core));
    } in
    let copied : record c { names = names; store = t; links = links } ≡ c = λ i. record c { names = same i; store = stored i; links = linked i } in
    subst (λ (k : SymbolicAutomaton). StandFor k.store k.links (over_names k.names (automaton_of c)).edges) (sym copied) own

-- The index and the flags of the automaton stay right.
pub kept_over : (c : SymbolicAutomaton) (names : List (List ℕ)) (t : Store) (links : List Link) (rows : List ℕ) (deterministic complete : Bool) → AreAmong c.names names → length names ≤ MOST_NAMES
    → t.names ≡ length names → StandFor t links (over_names names (automaton_of c)).edges → IsIndexed c rows deterministic complete
    → IsIndexed (record c { names = names; store = t; links = links }) rows deterministic complete
kept_over c names t links rows deterministic complete among few count stand kept =
    let a = automaton_of c in
    let new : SymbolicAutomaton = record c { names = names; store = t; links = links } in
    let same : automaton_of new ≡ over_names names a = relabelled_is c names names t links refl stand in
    let formed : IsWellFormed (automaton_of new) = subst IsWellFormed (sym same) (over_well_formed a names among kept.core.well_formed) in
    let below = labels_below a kept.core.well_formed in
    let parts : AreSymbolicParts new = over_parts c new names kept.core among few same count stand.has in
    let rise : All (λ (l : Link). AllPairs (λ m n. m < n) l.marks) links = λ k d within.
    (let edge : IsEdgeOf (automaton_of new) (edge_of t (get_or links k d)) = subst (IsEdgeOf (automaton_of new)) (get_or-map (edge_of t) links k d (edge_of t d) within)
    (formed.edges k (edge_of t d) (omega (arith, within, length-map links (edge_of t)))) in
    edge.marks_rise) in
    let from : map (λ (l : Link). l.from) links ≡ map (λ (l : Link). l.from) c.links =
    sym (map-map (λ (e : LabelledEdge). e.from) (edge_of t) links) ∙ (ap (map (λ (e : LabelledEdge). e.from)) stand.edges
    ∙ (map-map (λ (e : LabelledEdge). e.from) (over_edge c.names names) a.edges ∙ map-map (λ (e : LabelledEdge). e.from) (edge_of c.store) c.links)) in
    record {
      core = parts_are_well_formed new parts among.differ rise;
      index = record { count = kept.index.count; begins = λ state within. begins_like c.links links state (get_or rows state 0) from (kept.index.begins state within) };
      deterministic = subst (λ (x : Automaton). IsTrue deterministic ↔ IsDeterministic x) (sym same) (along kept.deterministic (deterministic_over a names among below));
      complete = subst (λ (x : Automaton). IsTrue complete ↔ IsComplete x) (sym same) (along kept.complete (complete_over a names among below));
    }
  where
    along : {P Q R : Type 0} → P ↔ Q → Q ↔ R → P ↔ R
    along f g = (λ p. g.0 (f.0 p), λ r. f.1 (g.1 r))

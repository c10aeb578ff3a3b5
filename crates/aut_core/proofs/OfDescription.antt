-- The automaton of a description, made of its parts.
use Rattle.std.proofs.Common.{◌≡◌, ◌↔◌, ◌∙◌, ◌≤◌, ℕ, List, All, ap, arith, get_or, length, map, refl, subst, sym}
use Rattle.std.proofs.lemmas.List.{get_or-map, length-map}
use Rattle.std.proofs.lemmas.Simd.{map-map}
use Rattle.aut_base.proofs.canonical.CanonicalAutomata as automata
use Rattle.aut_base.proofs.canonical.LabelLaws.{canonical_accepts_the_same}
use Rattle.aut_base.specs.Acceptance.{Accepts}
use Rattle.aut_base.specs.Automaton.{Automaton, IsWellFormed, LabelledEdge, automaton, labelled_edge}
use Rattle.aut_base.specs.CanonicalLabel.{canonical, canonical_label}
use Rattle.aut_base.specs.Formula.{FormulaTree, formula_tree}
use Rattle.aut_base.specs.Label.{AllBelow}
use Rattle.aut_base.specs.declared.description.Description.{Description}
use Rattle.aut_base.specs.declared.description.Edge.{Edge}
use Rattle.aut_base.specs.declared.limit.TheConstants.{MOST_NAMES}
use Rattle.label_guards.specs.Store.{Has, Store}
use Rattle.aut_core.specs.SymbolicAutomata.{AreSymbolicParts, SymbolicAutomaton, automaton_of, edge_of}
use Rattle.aut_core.specs.OtherNames.{AcceptTheSame}
use Rattle.aut_core.specs.declared.link.Link.{Link}
use Rattle.aut_core.proofs.Made.{parts_from}

-- the propositions of the labels are among the store's
pub labels_below : (d : Description) (n : ℕ) (es : List Edge) → IsWellFormed (automaton d) → n ≡ length d.names → es ≡ d.edges → All (λ e. AllBelow n (labelled_edge e).label) es
labels_below d n es formed count same = subst (λ xs. All (λ e. AllBelow n (labelled_edge e).label) xs) (sym same) (λ k e within.
    let edge = subst (λ (t : LabelledEdge). AllBelow (length d.names) t.label) (get_or-map labelled_edge d.edges k e (labelled_edge e) within)
    (formed.edges k (labelled_edge e) (omega (arith, within, length-map d.edges labelled_edge))).label in
    subst (λ m. AllBelow m (labelled_edge (get_or d.edges k e)).label) (sym count) edge)

-- the parts that were made for a description
pub record AreOf (d : Description) (c : SymbolicAutomaton) : Type 0 where
  pub names : c.names ≡ d.names
  pub starts : c.starts ≡ d.starts
  pub states : c.states ≡ d.states
  pub edges : map (edge_of c.store) c.links ≡ map (λ e. record (labelled_edge e) { label = canonical_label c.store.names (labelled_edge e).label }) d.edges
  pub sets : c.sets ≡ d.sets
  pub formula : c.formula ≡ formula_tree d.formula
  pub store : c.store.names ≡ length d.names
  pub has : All (λ l. Has c.store l.guard) c.links

pub are_of : (d : Description) (names : List (List ℕ)) (starts : List ℕ) (links : List Link) (formula : FormulaTree) (es : List Edge) (s t : Store) → names ≡ d.names → starts ≡ d.starts
    → formula ≡ formula_tree d.formula → s.names ≡ length d.names → es ≡ d.edges → t.names ≡ s.names → All (λ l. Has t l.guard) links
    → map (edge_of t) links ≡ map (λ e. record (labelled_edge e) { label = canonical_label s.names (labelled_edge e).label }) es
    → AreOf d (record { names = names; starts = starts; states = d.states; links = links; sets = d.sets; formula = formula; store = t })
are_of d names starts links formula es s t same_names same_starts same_formula count same kept has edges = record {
  names = same_names;
  starts = same_starts;
  states = refl;
  edges = edges ∙ ((λ i. map (λ (e : Edge). record (labelled_edge e) { label = canonical_label (sym kept i) (labelled_edge e).label }) (same i)));
  sets = refl;
  formula = same_formula;
  store = kept ∙ count;
  has = has;
}

pub described : (d : Description) (c : SymbolicAutomaton) → AreOf d c → automaton_of c ≡ canonical (automaton d)
described d c of =
    let edges : map (edge_of c.store) c.links ≡ map (λ (e : LabelledEdge). record e { label = canonical_label (length d.names) e.label }) (map labelled_edge d.edges) =
    of.edges ∙ (ap (λ n. map (λ (e : Edge). record (labelled_edge e) { label = canonical_label n (labelled_edge e).label }) d.edges) of.store
    ∙ sym (map-map (λ (e : LabelledEdge). record e { label = canonical_label (length d.names) e.label }) labelled_edge d.edges)) in
    λ i. record { names = of.names i; starts = of.starts i; states = of.states i; edges = edges i; sets = of.sets i; formula = of.formula i }

pub described_parts : (d : Description) (c : SymbolicAutomaton) → length d.names ≤ MOST_NAMES → IsWellFormed (automaton d) → AreOf d c → AreSymbolicParts c
described_parts d c few formed of =
    parts_from c (subst IsWellFormed (sym (described d c of)) ((canonical_accepts_the_same (automaton d)).well_formed formed)) (omega (arith, few, ap length of.names))
    (of.store ∙ sym (ap length of.names)) of.has

pub described_accepts : (d : Description) (c : SymbolicAutomaton) → IsWellFormed (automaton d) → AreOf d c → AcceptTheSame (automaton_of c) (automaton d)
described_accepts d c formed of u v = subst (λ (a : Automaton). Accepts a u v ↔ Accepts (automaton d) u v) (sym (described d c of))
    ((canonical_accepts_the_same (automaton d)).accepts (automata.labels_below (automaton d) formed) u v)

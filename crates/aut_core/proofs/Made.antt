-- Automata made of parts that fit together are well formed, and have canonical labels.
use Rattle.std.proofs.Common.{◌≡◌, ◌≢◌, ◌∙◌, ◌<◌, ◌≤◌, List, [], ◌∷◌, All, AllPairs, ap, arith, get_or, length, map, refl, subst, sym}
use Rattle.std.proofs.lemmas.List.{get_or-map, length-map}
use Rattle.aut_base.specs.declared.limit.TheConstants.{MOST_NAMES}
use Rattle.std.proofs.lemmas.List.Elements.{All-map}
use Rattle.std.proofs.lemmas.Simd.{map-map}
use Rattle.std.specs.List.Sorted.{IsNonDecreasing}
use Rattle.aut_base.proofs.canonical.CanonicalBelow.{label_of_below}
use Rattle.aut_base.proofs.canonical.CanonicalTruth.{label_of-same, truth_on-label_of}
use Rattle.aut_base.specs.Automaton.{IsEdgeOf, IsWellFormed, LabelledEdge}
use Rattle.aut_base.specs.CanonicalLabel.{canonical_label}
use Rattle.aut_base.specs.Label.{AllBelow, LabelTree}
use Rattle.aut_base.specs.Valuation.{holds_in}
use Rattle.label_guards.specs.Store.{Has, Store, label_at, label_in, outcome}
use Rattle.label_guards.specs.declared.guard.Guard.{Guard}
use Rattle.aut_core.specs.SymbolicAutomata.{AreSymbolicParts, SymbolicAutomaton, IsWellFormedSymbolic, automaton_of, edge_of}
use Rattle.aut_core.specs.declared.link.Link.{Link}

pub label_in_below : (s : Store) (g : Guard) → AllBelow s.names (label_in s g)
unfolding label_at
label_in_below s g = label_of_below s.names _

-- the label of a guard is its own canonical form
pub label_in_settled : (s : Store) (g : Guard) → canonical_label s.names (label_in s g) ≡ label_in s g
unfolding label_at
label_in_settled s g = label_of-same s.names _ _ (truth_on-label_of s.names (λ v. outcome s.nodes (holds_in v) g.place))

settled_edges : (s : Store) (links : List Link) → map (λ (e : LabelledEdge). record e { label = canonical_label s.names e.label }) (map (edge_of s) links) ≡ map (edge_of s) links
settled_edges s [] = refl
settled_edges s (l ∷ ls) =
    ap (λ (t : LabelTree). record { from = l.from; label = t; to = l.to; marks = l.marks } ∷ map (λ (e : LabelledEdge). record e { label = canonical_label s.names e.label })
    (map (edge_of s) ls)) (label_in_settled s l.guard)
    ∙ ap (λ (es : List LabelledEdge). edge_of s l ∷ es) (settled_edges s ls)

pub parts_are_well_formed : (c : SymbolicAutomaton) → AreSymbolicParts c → AllPairs (λ a b. a ≢ b) c.names → All (λ (l : Link). AllPairs (λ m n. m < n) l.marks) c.links → IsWellFormedSymbolic c
parts_are_well_formed c parts differ rise = record {
  parts = parts;
  well_formed = record {
    names_differ = differ;
    starts_differ = parts.starts_differ;
    starts = parts.starts;
    in_order = subst IsNonDecreasing (sym (map-map (λ (e : LabelledEdge). e.from) (edge_of c.store) c.links)) parts.in_order;
    edges = All-map (IsEdgeOf (automaton_of c)) (edge_of c.store) c.links (λ k d within.
        let link = parts.links k d within in
        record {
          from = link.from;
          to = link.to;
          label = subst (λ n. AllBelow n (label_in c.store (get_or c.links k d).guard)) parts.store_names (label_in_below c.store (get_or c.links k d).guard);
          marks = link.marks;
          marks_rise = rise k d within;
        });
    formula = parts.formula;
  };
  settled = ap (λ (es : List LabelledEdge). record (automaton_of c) { edges = es })
      (subst (λ n. map (λ (e : LabelledEdge). record e { label = canonical_label n e.label }) (map (edge_of c.store) c.links) ≡ map (edge_of c.store) c.links) parts.store_names
      (settled_edges c.store c.links));
}

-- The parts of a well-formed automaton whose guards are in its store.
pub parts_from : (c : SymbolicAutomaton) → IsWellFormed (automaton_of c) → length c.names ≤ MOST_NAMES → c.store.names ≡ length c.names → All (λ l. Has c.store l.guard) c.links → AreSymbolicParts c
parts_from c formed few store_names has = record {
  few = few;
  store_names = store_names;
  starts_differ = formed.starts_differ;
  starts = formed.starts;
  in_order = subst IsNonDecreasing (map-map (λ (e : LabelledEdge). e.from) (edge_of c.store) c.links) formed.in_order;
  links = λ k d within.
      let edge : IsEdgeOf (automaton_of c) (edge_of c.store (get_or c.links k d)) = subst (IsEdgeOf (automaton_of c)) (get_or-map (edge_of c.store) c.links k d (edge_of c.store d) within)
      (formed.edges k (edge_of c.store d) (omega (arith, within, length-map c.links (edge_of c.store)))) in
      record { from = edge.from; guard = has k d within; to = edge.to; marks = edge.marks };
  formula = formed.formula;
}

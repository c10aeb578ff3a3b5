-- An automaton with its labels in canonical form, or with further names, accepts the same words.
use Rattle.std.proofs.Common.{◌≡◌, ◌↔◌, ℕ, false, List, [], ◌∷◌, ◌++◌, length, map, refl, sym, ap, subst}
use Rattle.std.proofs.lemmas.List.Elements.{All-contains, All-map, All-weaker}
use Rattle.std.proofs.lemmas.List.Folds.{map_fixed}
use Rattle.std.specs.FinSet.{contains}
use Rattle.std.specs.List.Sorted.{IsNonDecreasing}
use Rattle.std.specs.Option.{option_map_or}
use Rattle.aut_base.specs.Acceptance.{Accepts}
use Rattle.aut_base.specs.Automaton.{LabelledEdge, Automaton, IsEdgeOf, IsWellFormed}
use Rattle.aut_base.specs.CanonicalLabel.{canonical, canonical_label}
use Rattle.aut_base.specs.Label.{AllBelow, LabelTree, holds_at}
use Rattle.aut_base.specs.LabelLaws.{LabelsBelow}
use Rattle.aut_base.specs.Word.{NameSet}
use Rattle.aut_base.proofs.canonical.CanonicalBelow.{canonical_label_below}
use Rattle.aut_base.proofs.canonical.CanonicalLabels.{canonical_label-twice}
use Rattle.aut_base.proofs.canonical.CanonicalTruth.{canonical_label_keeps_truth, truth_below}
use Rattle.aut_base.proofs.runs.OtherEdges.{other_labels_accept, relabelled_accepts}
use Rattle.aut_base.proofs.lists.Lists.{slice_get-append_left}

-- the edge with its label in canonical form, in an automaton of this many names
abbrev pub relabelled : ℕ → LabelledEdge → LabelledEdge
relabelled n e = record e { label = canonical_label n e.label }

pub labels_below : (a : Automaton) → IsWellFormed a → LabelsBelow a
labels_below a formed = All-weaker (IsEdgeOf a) (λ e. AllBelow (length a.names) e.label) (λ e h. h.label) a.edges formed.edges

pub canonical_accepts_the_same : (a : Automaton) → LabelsBelow a → (u v : List NameSet) → Accepts (canonical a) u v ↔ Accepts a u v
canonical_accepts_the_same a below = other_labels_accept a a.names (λ e. canonical_label (length a.names) e.label)
    (λ e x there. canonical_label_keeps_truth (length a.names) e.label (holds_at a.names x) (All-contains (λ d. AllBelow (length a.names) d.label) a.edges e below there))

pub other_names_play_no_part : (a : Automaton) (others : List (List ℕ)) → LabelsBelow a → (u v : List NameSet) → Accepts (record a { names = a.names ++ others }) u v ↔ Accepts a u v
other_names_play_no_part a others below =
    relabelled_accepts a (record a { names = a.names ++ others }) (λ e. e) (record {
      edges = sym (map_fixed (λ (e : LabelledEdge). e) a.edges (λ k d within. refl));
      starts = refl;
      formula = refl;
      from = λ e. refl;
      to = λ e. refl;
      marks = λ e. refl;
      says = λ e x there. truth_below (length a.names) (holds_at (a.names ++ others) x) (holds_at a.names x) e.label (All-contains (λ d. AllBelow (length a.names) d.label) a.edges e below there)
          (λ i less. ap (λ o. option_map_or (contains x) o false) (slice_get-append_left a.names others i less));
    })

pub canonical_is_well_formed : (a : Automaton) → IsWellFormed a → IsWellFormed (canonical a)
canonical_is_well_formed a formed = record {
  names_differ = formed.names_differ;
  starts_differ = formed.starts_differ;
  starts = formed.starts;
  in_order = subst IsNonDecreasing (froms (length a.names) a.edges) formed.in_order;
  edges = All-map (IsEdgeOf (canonical a)) (relabelled (length a.names)) a.edges
      (All-weaker (IsEdgeOf a) (λ e. IsEdgeOf (canonical a) (relabelled (length a.names) e))
      (λ e h. record { from = h.from; to = h.to; label = canonical_label_below (length a.names) e.label; marks = h.marks; marks_rise = h.marks_rise }) a.edges formed.edges);
  formula = formed.formula;
}
  where
    froms : (n : ℕ) (es : List LabelledEdge) → map (λ (e : LabelledEdge). e.from) es ≡ map (λ (e : LabelledEdge). e.from) (map (relabelled n) es)
    froms n [] = refl
    froms n (e ∷ es) = ap (λ xs. e.from ∷ xs) (froms n es)

twice : (n : ℕ) (es : List LabelledEdge) → map (relabelled n) (map (relabelled n) es) ≡ map (relabelled n) es
twice n [] = refl
twice n (e ∷ es) =
    let first : relabelled n (relabelled n e) ≡ relabelled n e = ap (λ (l : LabelTree). record e { label = l }) (canonical_label-twice n e.label) in
    let rest = twice n es in
    cc

pub canonical-twice : (a : Automaton) → canonical (canonical a) ≡ canonical a
canonical-twice a = ap (λ (es : List LabelledEdge). record a { edges = es }) (twice (length a.names) a.edges)

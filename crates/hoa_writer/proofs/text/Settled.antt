-- An automaton and its canonical form have one canonical text.
use Rattle.std.proofs.Common.{◌≡◌, ◌==◌, ◌∙◌, ℕ, List, [], ◌∷◌, ◌++◌, length, map, filter, ap, refl}
use Rattle.std.specs.Fmt.{decimal}
use Rattle.std.specs.List.{flat_map, range_with_len}
use Rattle.std.specs.Prelude.{Option, codes}
use Rattle.aut_base.proofs.canonical.CanonicalAutomata.{relabelled}
use Rattle.aut_base.proofs.canonical.CanonicalTruth.{cubes_same, truth_on-label_of}
use Rattle.aut_base.proofs.order.Ordered.{filter_map_of}
use Rattle.aut_base.specs.Automaton.{Automaton, LabelledEdge}
use Rattle.aut_base.specs.CanonicalLabel.{canonical, canonical_label}
use Rattle.aut_base.specs.Label.{LabelTree}
use Rattle.aut_base.specs.LabelText.{cubes_text, label_text}
use Rattle.aut_base.specs.Valuation.{truth_on}
use Rattle.aut_base.specs.Text.{line}
use Rattle.hoa_writer.specs.CanonicalText.{canonical_text, edge_line, header_lines, marks_text, state_lines}

text_of_label : (n : ℕ) (t : LabelTree) → label_text n (canonical_label n t) ≡ label_text n t
text_of_label n t = ap cubes_text (cubes_same 0 n (truth_on (canonical_label n t)) (truth_on t) (truth_on-label_of n (truth_on t)))

text_of_edge : (n : ℕ) (e : LabelledEdge) → edge_line n (relabelled n e) ≡ edge_line n e
text_of_edge n e = ap (λ text. line (codes "[" ++ (text ++ (codes "] " ++ (decimal e.to ++ marks_text e.marks))))) (text_of_label n e.label)

text_of_edges : (n : ℕ) (es : List LabelledEdge) → flat_map (edge_line n) (map (relabelled n) es) ≡ flat_map (edge_line n) es
text_of_edges n [] = refl
text_of_edges n (e ∷ es) = ap (λ text. text ++ flat_map (edge_line n) (map (relabelled n) es)) (text_of_edge n e) ∙ ap (λ text. edge_line n e ++ text) (text_of_edges n es)

text_of_state : (a : Automaton) (q : ℕ) → state_lines (canonical a) q ≡ state_lines a q
text_of_state a q =
    let n = length a.names in
    let first = line (codes "State: " ++ decimal q) in
    ap (λ es. first ++ flat_map (edge_line n) es) (filter_map_of (λ (e : LabelledEdge). e.from == q) (relabelled n) a.edges)
    ∙ ap (λ text. first ++ text) (text_of_edges n (filter (λ e. e.from == q) a.edges))

text_of_states : (a : Automaton) (qs : List ℕ) → flat_map (state_lines (canonical a)) qs ≡ flat_map (state_lines a) qs
text_of_states a [] = refl
text_of_states a (q ∷ qs) = ap (λ text. text ++ flat_map (state_lines (canonical a)) qs) (text_of_state a q) ∙ ap (λ text. state_lines a q ++ text) (text_of_states a qs)

pub canonical_form_has_the_same_text : (a : Automaton) (name : Option (List ℕ)) → canonical_text (canonical a) name ≡ canonical_text a name
canonical_form_has_the_same_text a name =
    ap (λ text. header_lines a name ++ (line (codes "--BODY--") ++ (text ++ line (codes "--END--")))) (text_of_states a (range_with_len 0 a.states))

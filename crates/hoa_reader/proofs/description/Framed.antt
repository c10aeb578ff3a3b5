-- The edges that are described, by what they share.
use Rattle.std.proofs.Common.{◌≡◌, ◌==◌, ◌++◌, ◌∙◌, ℕ, true, List, All, ap, filter, length, map, subst, sym}
use Rattle.std.proofs.lemmas.Bool.{and_parts}
use Rattle.std.specs.Prelude.{flat_map}
use Rattle.std.specs.List.{AllByRecursion, enumerate_from, list_all}
use Rattle.std.specs.Option.{option_map_or}
use Rattle.aut_base.specs.Automaton.{LabelledEdge}
use Rattle.aut_base.specs.Label.{AllBelow}
use Rattle.hoa_parser.specs.Raw.{Written, WrittenEdge, WrittenState}
use Rattle.hoa_reader.proofs.description.WellFormed.{valid_labels}
use Rattle.hoa_reader.specs.Described.{Meaning, below, expanded, letter_label, meanings_of}
use Rattle.hoa_reader.proofs.description.StatesInRange.{edges_of}
use Rattle.hoa_reader.specs.inner.Numbers.{marks_in_order, only_state}
use Rattle.hoa_reader.specs.Validity.{marks_below, written_names}
use Rattle.hoa_reader.specs.declared.elaborate.edges.Shared.{Shared}
use Rattle.hoa_reader.specs.declared.elaborate.frame.Frame.{Frame}
use Rattle.hoa_reader.specs.inner.Frames.{IsFrameOf, IsSharedBy}
use Rattle.hoa_reader.specs.inner.TreeEdges.{HasLabelsBelow, edges_for}

-- the edges of a state, by all that they depend on
abbrev edges_by : List Meaning → ℕ → ℕ → WrittenState → List LabelledEdge
edges_by ms names sets s = map (λ (p : ℕ × WrittenEdge). record {
  from = s.number;
  label = option_map_or (expanded ms) s.label (option_map_or (expanded ms) p.1.label (letter_label names p.0));
  to = only_state p.1.to;
  marks = marks_in_order sets (s.marks ++ p.1.marks);
}) (enumerate_from 0 s.edges)

abbrev all_by : (WrittenState → List LabelledEdge) → List WrittenState → ℕ → List LabelledEdge
all_by of_state states count = flat_map (λ q. flat_map of_state (filter (λ (s : WrittenState). s.number == q) states)) (below count)

pub framed_edges : (w : Written) (f : Frame) (x : Shared) → IsFrameOf w f → IsSharedBy f w.items x → edges_for x w.states f.states ≡ edges_of w
framed_edges w f x of by = λ i. all_by (edges_by (by.meanings i) ((by.count ∙ of.count) i) ((by.sets ∙ of.sets) i)) w.states (of.states i)

-- the marks of the states are below the number of sets
pub framed_marks : (w : Written) (f : Frame) (x : Shared) → IsFrameOf w f → IsSharedBy f w.items x → list_all (marks_below x.sets) w.states ≡ true
framed_marks w f x of by = ap (λ n. list_all (marks_below n) w.states) (by.sets ∙ of.sets) ∙ (and_parts _ _ of.valid.1.1.1.1.1.1.1.1.0).1

-- and the labels of their edges speak of the names
pub framed_labels : (w : Written) (f : Frame) (x : Shared) → IsFrameOf w f → IsSharedBy f w.items x → All (HasLabelsBelow x (length (written_names w))) w.states
framed_labels w f x of by =
    let n = length (written_names w) in
    let T : List Meaning → ℕ → ℕ → Type 0 = λ ms names sets.
    All (λ (s : WrittenState). AllByRecursion (λ (e : LabelledEdge). AllBelow n e.label) (edges_by ms names sets s)) w.states in
    subst (λ ms. T ms x.names x.sets) (sym by.meanings)
    (subst (λ names. T (meanings_of w) names x.sets) (sym (by.count ∙ of.count)) (subst (T (meanings_of w) n) (sym (by.sets ∙ of.sets)) (valid_labels w of.valid)))

-- What rules ask of one group of states and of one state, named since proofs go over them one by one, and what they ask of all labels, in two parts.
use Rattle.std.proofs.Common.{◌≡◌, ◌∙◌, ℕ, Bool, ◌&&◌, ◌||◌, ◌==◌, List, [], ◌∷◌, ◌++◌, ap, is_none, length, map, refl}
use Rattle.std.proofs.lemmas.List.Folds.{list_all-append}
use Rattle.std.specs.List.{list_all}
use Rattle.std.specs.Prelude.{flat_map, is_some, option_to_list}
use Rattle.hoa_parser.specs.Raw.{RawTree, WrittenEdge, WrittenState}
use Rattle.hoa_reader.specs.Validity.{AliasLine, no_edge_labelled}

abbrev pub is_one_state : List ℕ → Bool
is_one_state states = length states == 1

abbrev pub state_labels : WrittenState → List RawTree
state_labels s = option_to_list s.label ++ flat_map (λ (e : WrittenEdge). option_to_list e.label) s.edges

abbrev pub labels_one_way : WrittenState → Bool
labels_one_way s = no_edge_labelled s || (is_none s.label && list_all (λ (e : WrittenEdge). is_some e.label) s.edges)

all_of_lines : (p : RawTree → Bool) (lines : List AliasLine) → list_all p (map (λ (line : AliasLine). line.label) lines) ≡ list_all (λ (line : AliasLine). p line.label) lines
all_of_lines p [] = refl
all_of_lines p (line ∷ lines) = ap (λ b. p line.label && b) (all_of_lines p lines)

pub all_labels : (p : RawTree → Bool) (lines : List AliasLine) (labels : List RawTree)
    → list_all p (map (λ (line : AliasLine). line.label) lines ++ labels) ≡ (list_all (λ (line : AliasLine). p line.label) lines && list_all p labels)
all_labels p lines labels =
    list_all-append p (map (λ (line : AliasLine). line.label) lines) labels ∙ ap (λ b. b && list_all p labels) (all_of_lines p lines)

-- The marks of one state and of one edge, where all are below a number.
use Rattle.std.proofs.Common.{◌≡◌, ◌<◌, ◌∙◌, ℕ, Bool, true, List, length, get_or, map, sym, ap}
use Rattle.std.proofs.lemmas.Bool.{and_parts}
use Rattle.std.proofs.lemmas.List.Folds.{list_all-map}
use Rattle.std.specs.List.{list_all}
use Rattle.aut_base.proofs.lists.Lists.{slice_get-at}
use Rattle.aut_base.proofs.lists.Members.{all_passes_at}
use Rattle.hoa_parser.specs.Raw.{WrittenEdge, written_edge, written_state}
use Rattle.hoa_parser.specs.declared.raw.RawEdge.{RawEdge}
use Rattle.hoa_parser.specs.declared.raw.RawState.{RawState}
use Rattle.hoa_reader.specs.Validity.{marks_below, numbers_below}

pub one_marks_below : (n : ℕ) (edges : List RawEdge) (i : ℕ) (edge : RawEdge) → list_all (λ (e : WrittenEdge). numbers_below n e.marks) (map written_edge edges) ≡ true
    → i < length edges → edge ≡ get_or edges i edge → numbers_below n edge.ends.marks ≡ true
one_marks_below n edges i edge below l is =
    let Below : RawEdge → Bool = λ e. numbers_below n e.ends.marks in
    all_passes_at Below edges i edge (slice_get-at edges i edge l is) (sym (list_all-map (λ (e : WrittenEdge). numbers_below n e.marks) written_edge edges) ∙ below)

pub marks_of_edges : (n : ℕ) (state : RawState) (edges : List RawEdge) → marks_below n (written_state state) ≡ true → edges ≡ state.edges
    → list_all (λ (e : WrittenEdge). numbers_below n e.marks) (map written_edge edges) ≡ true
marks_of_edges n state edges below same =
    ap (λ (es : List RawEdge). list_all (λ (e : WrittenEdge). numbers_below n e.marks) (map written_edge es)) same ∙ (and_parts _ _ below).1

pub edge_marks_below : (n : ℕ) (state : RawState) (edges : List RawEdge) (i : ℕ) (edge : RawEdge) → marks_below n (written_state state) ≡ true → edges ≡ state.edges → i < length edges
    → edge ≡ get_or edges i edge → numbers_below n edge.ends.marks ≡ true
edge_marks_below n state edges i edge below same l is = one_marks_below n edges i edge (marks_of_edges n state edges below same) l is

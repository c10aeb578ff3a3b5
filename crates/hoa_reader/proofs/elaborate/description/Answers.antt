use Rattle.std.proofs.Common.{◌≡◌, ◌≢◌, ◌∙◌, ℕ, List, AllPairs, ap, get_or, map, subst, sym}
use Rattle.std.specs.List.{list_all}
use Rattle.std.specs.Prelude.{filter_map}
use Rattle.aut_base.specs.Automaton.{labelled_edge}
use Rattle.hoa_parser.specs.Raw.{written, written_item, written_state}
use Rattle.hoa_parser.specs.declared.raw.Item.{Item}
use Rattle.hoa_parser.specs.declared.raw.RawState.{RawState}
use Rattle.hoa_reader.proofs.description.Framed.{framed_edges, framed_marks}
use Rattle.hoa_reader.proofs.validity.NamesDiffer.{valid_names}
use Rattle.hoa_reader.proofs.description.StatesInRange.{edges_of}
use Rattle.hoa_reader.specs.Validity.{acceptance_item, marks_below}
use Rattle.hoa_reader.specs.inner.Frames.{IsSharedBy}
use Rattle.hoa_reader.specs.inner.Headers.{first_names}
use Rattle.hoa_reader.specs.inner.PickedOut.{no_acceptance}
use Rattle.hoa_reader.specs.inner.TreeEdges.{edges_for}
use Rattle.hoa_reader.proofs.elaborate.description.Goals as goal

pub names_of-requires : goal.names_of-requires
names_of-requires c =
    let P : List (List ℕ) → Type 0 = λ names. AllPairs (λ a b. a ≢ b) names in
    let same = c.names_of-texts.ensures ∙ ap (λ (is : List Item). first_names (map written_item is)) c.as_slice-items.ensures in
    subst P (sym same) (valid_names (written c.args.raw.now) c.requires.valid)

pub edges_of-requires-clause-marks : goal.edges_of-requires-clause-marks
edges_of-requires-clause-marks c =
    let shared = c.in_ok-shared.shared in
    let by = subst (λ (is : List Item). IsSharedBy c.args.frame (map written_item is) shared) c.as_slice-items.ensures c.in_ok-shared.ensures in
    ap (λ (ss : List RawState). list_all (marks_below shared.sets) (map written_state ss)) c.as_slice.ensures
    ∙ framed_marks (written c.args.raw.now) c.args.frame shared c.requires by

pub returns : goal.returns
returns c =
    let w = written c.args.raw.now in
    let f = c.args.frame in
    let shared = c.in_ok-shared.shared in
    let items = c.as_slice-items.ensures in
    let by = subst (λ (is : List Item). IsSharedBy f (map written_item is) shared) items c.in_ok-shared.ensures in
    let edges : map labelled_edge c.in_ok-edges.edges ≡ edges_of w = c.in_ok-edges.ensures
    ∙ (ap (λ (ss : List RawState). edges_for shared (map written_state ss) f.states) c.as_slice.ensures ∙ framed_edges w f shared c.requires by) in
    let names = c.in_ok-names.ensures ∙ (c.names_of-texts.ensures ∙ ap (λ (is : List Item). first_names (map written_item is)) items) in
    let formula = c.in_ok-formula.ensures
    ∙ ap (λ (is : List Item). (get_or (filter_map acceptance_item (map written_item is)) 0 no_acceptance).formula) items in
    λ i. record { names = names i; starts = c.requires.starts i; states = c.requires.states i; edges = edges i; sets = c.requires.sets i; formula = formula i }

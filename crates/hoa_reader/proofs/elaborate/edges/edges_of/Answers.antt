use Rattle.std.proofs.Common.{◌++◌, ◌<◌, ◌∙◌, List, ap, arith, length, map, sym}
use Rattle.aut_base.proofs.lists.Members.{all_passes_at}
use Rattle.aut_base.specs.Automaton.{LabelledEdge}
use Rattle.hoa_parser.specs.Raw.{written_state}
use Rattle.hoa_reader.proofs.labels.LinkedEdges.{edges_of_one}
use Rattle.hoa_reader.proofs.labels.StatePlaces.{found}
use Rattle.hoa_reader.specs.Validity.{marks_below}
use Rattle.hoa_reader.specs.inner.TreeEdges.{edges_for, tree_edges_for}
use Rattle.hoa_reader.proofs.elaborate.edges.edges_of.Goals as goal

pub add_edges-requires-clause-marks : goal.add_edges-requires-clause-marks
add_edges-requires-clause-marks c =
    let ws = map written_state c.args.states.now in
    let items = c.in_ok-places.places.items in
    let within : c.numbers.number < length items = grind (arith, c.numbers-test.true, c.len-number-end.ensures) in
    let at = found c.args.states.now items c.args.count c.numbers.number c.in-Some.place c.index.result.now c.index-states-place.result
    c.in_ok-places.ensures.len c.in_ok-places.ensures.place
    within c.index.ensures c.in-Some.is c.index-states-place.is in
    ap (marks_below c.args.shared.now.sets) at.is
    ∙ all_passes_at (marks_below c.args.shared.now.sets) ws c.in-Some.place at.one.state at.one.there c.requires.marks

pub numbers-preserved : goal.numbers-preserved
numbers-preserved c =
    let x = c.args.shared.now in
    let ws = map written_state c.args.states.now in
    let n = c.numbers.number in
    let items = c.in_ok-places.places.items in
    let within : n < length items = grind (arith, c.numbers-test.true, c.len-number-end.ensures) in
    let at = found c.args.states.now items c.args.count n c.in-Some.place c.index.result.now c.index-states-place.result c.in_ok-places.ensures.len
    c.in_ok-places.ensures.place
    within c.index.ensures c.in-Some.is c.index-states-place.is in
    c.in_ok-add_edges.ensures
    ∙ ap (λ (es : List LabelledEdge). es ++ tree_edges_for x (written_state c.index-states-place.result)) c.numbers.invariant
    ∙ ap (λ s. edges_for x ws n ++ tree_edges_for x s) at.is
    ∙ sym (edges_of_one x ws n c.in-Some.place at.one)

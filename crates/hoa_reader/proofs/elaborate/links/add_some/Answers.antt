use Rattle.std.proofs.Common.{◌++◌, ◌+◌, ◌∙◌, List, ap, arith, map, subst, sym}
use Rattle.std.specs.List.{AllByRecursion}
use Rattle.aut_base.specs.Automaton.{LabelledEdge}
use Rattle.aut_base.specs.Label.{AllBelow}
use Rattle.aut_core.specs.SymbolicAutomata.{edge_of}
use Rattle.hoa_parser.specs.Raw.{written_edge, written_state}
use Rattle.hoa_reader.proofs.labels.LinkedEdges.{AreOnTheWay, all_linked, edges_from, link_more, next_edge, no_edge}
use Rattle.hoa_reader.proofs.labels.MarksBelow.{one_marks_below}
use Rattle.hoa_reader.specs.inner.TreeEdges.{label_for, settled, tree_edge_for, tree_edges_at}
use Rattle.hoa_reader.proofs.elaborate.links.add_some.Goals as goal

pub link_of-requires-clause-names : goal.link_of-requires-clause-names
link_of-requires-clause-names c = c.written.invariant.names ∙ c.requires.names

pub link_of-requires-clause-marks : goal.link_of-requires-clause-marks
link_of-requires-clause-marks c =
    one_marks_below c.args.shared.now.sets c.args.edges.now c.written.edge-index c.edge-item.result c.requires.marks c.written-test.true c.edge-item.is

pub link_of-requires-clause-below : goal.link_of-requires-clause-below
link_of-requires-clause-below c =
    let x = c.args.shared.now in
    let state = c.args.state.now in
    let edge = c.edge-item.result in
    let n = c.args.guards.now.names in
    let here = c.written.invariant in
    let next = next_edge x state c.args.edges.now c.args.first c.written.edge-index edge c.written-test.true c.edge-item.is in
    let all = subst (AllByRecursion (λ (e : LabelledEdge). AllBelow n e.label)) next here.below in
    subst (λ m. AllBelow m (label_for x (written_state state) c.written.letter (written_edge edge))) (sym here.names)
    (subst (λ i. AllBelow n (label_for x (written_state state) i (written_edge edge))) (sym here.letter) all.0)

pub written-preserved : goal.written-preserved
written-preserved c =
    let x = c.args.shared.now in
    let state = c.args.state.now in
    let edges = c.args.edges.now in
    let edge = c.edge-item.result in
    let i = c.written.edge-index in
    let first = c.args.first in
    let n = c.args.guards.now.names in
    let here = c.written.invariant in
    let next = next_edge x state edges first i edge c.written-test.true c.edge-item.is in
    let all : List LabelledEdge = map (edge_of c.args.guards.now) c.args.links.now
    ++ map (settled n) (tree_edges_at x (written_state state) first (map written_edge edges)) in
    record {
      letter = omega (arith, here.letter);
      names = c.link_of.ensures.keeps.names ∙ here.names;
      below = (subst (AllByRecursion (λ (e : LabelledEdge). AllBelow n e.label)) next here.below).1;
      way = link_more c.written.guards c.link_of.new.guards c.written.links c.push.new.self c.in_ok-new.new
          (settled n (tree_edge_for x (written_state state) (first + i) (written_edge edge)))
          (map (settled n) (edges_from x state edges first (i + 1))) all
          (subst (λ (es : List LabelledEdge). AreOnTheWay c.written.guards c.written.links (map (settled n) es) all) next here.way)
          c.link_of.ensures.keeps c.in_ok-new.ensures.has
          (c.in_ok-new.ensures.edge ∙ ap (λ m. settled m (tree_edge_for x (written_state state) c.written.letter (written_edge edge))) here.names
          ∙ ap (λ j. settled n (tree_edge_for x (written_state state) j (written_edge edge))) here.letter) c.in_ok-push.ensures.ok;
    }

pub returns-clause-stand : goal.returns-clause-stand
returns-clause-stand c =
    let x = c.args.shared.now in
    let state = c.args.state.now in
    let edges = c.args.edges.now in
    let n = c.args.guards.now.names in
    let all : List LabelledEdge = map (edge_of c.args.guards.now) c.args.links.now
    ++ map (settled n) (tree_edges_at x (written_state state) c.args.first (map written_edge edges)) in
    let none = no_edge x state edges c.args.first c.written.edge-index (omega (arith, c.written-test.false)) in
    all_linked c.written.guards c.written.links all
    (subst (λ (es : List LabelledEdge). AreOnTheWay c.written.guards c.written.links (map (settled n) es) all) none c.written.invariant.way)

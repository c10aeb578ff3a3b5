use Rattle.std.proofs.Common.{◌++◌, List, map, subst, sym}
use Rattle.std.proofs.lemmas.Bool.{and_parts}
use Rattle.std.proofs.lemmas.Result.{on_ok_weaker}
use Rattle.std.specs.List.{AllByRecursion}
use Rattle.aut_base.specs.Automaton.{LabelledEdge}
use Rattle.aut_base.specs.Label.{AllBelow}
use Rattle.aut_core.specs.Links.{StandFor}
use Rattle.aut_core.specs.SymbolicAutomata.{edge_of}
use Rattle.hoa_parser.specs.Raw.{written_edge, written_state}
use Rattle.hoa_parser.specs.declared.raw.RawEdge.{RawEdge}
use Rattle.hoa_reader.proofs.labels.MarksBelow.{marks_of_edges}
use Rattle.hoa_reader.specs.inner.TreeEdges.{settled, tree_edges_at}
use Rattle.hoa_reader.proofs.elaborate.links.add_links.Goals as goal

pub add_some-requires-clause-own : goal.add_some-requires-clause-own
add_some-requires-clause-own c = (and_parts _ _ c.requires.marks).0

pub add_some-requires-clause-marks : goal.add_some-requires-clause-marks
add_some-requires-clause-marks c = marks_of_edges c.args.shared.now.sets c.args.state.now c.as_slice-edges.result.now c.requires.marks c.as_slice-edges.ensures

pub add_some-requires-clause-below : goal.add_some-requires-clause-below
add_some-requires-clause-below c =
    let n = c.args.guards.now.names in
    subst (λ (es : List RawEdge). AllByRecursion (λ (e : LabelledEdge). AllBelow n e.label)
    (tree_edges_at c.args.shared.now (written_state c.args.state.now) 0 (map written_edge es))) (sym c.as_slice-edges.ensures) c.requires.below

pub returns-clause-stand : goal.returns-clause-stand
returns-clause-stand c =
    let before = map (edge_of c.args.guards.now) c.args.links.now in
    on_ok_weaker c.add_some.result
    (λ stand. subst (λ (es : List RawEdge). StandFor c.add_some.new.guards c.add_some.new.links
    (before ++ map (settled c.args.guards.now.names) (tree_edges_at c.args.shared.now (written_state c.args.state.now) 0 (map written_edge es))))
    c.as_slice-edges.ensures stand) c.add_some.ensures.stand

use Rattle.std.proofs.Common.{◌≡◌, ◌++◌, ◌∙◌, [], true, All, List, ap, arith, map, refl, subst, sym}
use Rattle.std.specs.List.{list_all}
use Rattle.std.specs.Prelude.{flat_map}
use Rattle.aut_base.specs.Automaton.{LabelledEdge}
use Rattle.aut_core.specs.Links.{StandFor}
use Rattle.aut_core.specs.SymbolicAutomata.{edge_of}
use Rattle.aut_core.specs.declared.link.Link.{Link}
use Rattle.hoa_parser.specs.Raw.{written_state}
use Rattle.hoa_parser.specs.declared.raw.RawState.{RawState}
use Rattle.hoa_reader.proofs.labels.LinkedEdges.{AreOnTheWay, link_block, parts_below, parts_pass, states_left}
use Rattle.hoa_reader.specs.Validity.{marks_below}
use Rattle.hoa_reader.specs.inner.Links.{CanBeLinked}
use Rattle.hoa_reader.specs.inner.TreeEdges.{HasLabelsBelow, settled, tree_edges_for}
use Rattle.hoa_reader.proofs.elaborate.links.links_in_blocks.Goals as goal

pub left-init : goal.left-init
left-init c =
    let x = c.args.shared.now in
    let n = c.args.guards.now.names in
    let edges : List RawState → List LabelledEdge = λ ss. map (settled n) (flat_map (tree_edges_for x) (map written_state ss)) in
    let none : c.from_vec-links.result ≡ [] = c.from_vec-links.ensures ∙ c.in_ok-with_capacity.ensures.items in
    let all = c.in_ok-blocks.ensures in
    record {
      names = refl;
      marks = ap (λ (ss : List RawState). list_all (marks_below x.sets) (map written_state ss)) all ∙ c.requires.linked.marks;
      below = subst (λ (ss : List RawState). All (HasLabelsBelow x n) (map written_state ss)) (sym all) c.requires.linked.below;
      way = subst (λ (ls : List Link). AreOnTheWay c.args.guards.now ls (map (settled n) (flat_map (tree_edges_for x) (states_left c.in_ok-blocks.blocks))) (edges c.args.states))
          (sym none) (record { has = λ k d l. absurd (omega (arith, l)); edges = ap edges all });
    }

pub add_all-requires-clause-linked : goal.add_all-requires-clause-linked
add_all-requires-clause-linked c =
    let x = c.args.shared.now in
    let n = c.args.guards.now.names in
    let here = c.left.invariant in
    let block = c.in-Some.block in
    let rest = c.next.new.self in
    let marks = subst (λ (bs : List (List RawState)). list_all (marks_below x.sets) (states_left bs) ≡ true) c.in-Some.ensures here.marks in
    let below = subst (λ (bs : List (List RawState)). All (HasLabelsBelow x n) (states_left bs)) c.in-Some.ensures here.below in
    subst (λ (ss : List RawState). CanBeLinked x c.left.guards.names (map written_state ss)) (sym c.as_slice.ensures)
    (record {
      known = c.requires.linked.known;
      names = here.names ∙ c.requires.linked.names;
      marks = (parts_pass (marks_below x.sets) block rest marks).0;
      below = subst (λ m. All (HasLabelsBelow x m) (map written_state block)) (sym here.names) (parts_below (HasLabelsBelow x n) block rest below).0;
    })

pub left-preserved : goal.left-preserved
left-preserved c =
    let x = c.args.shared.now in
    let n = c.args.guards.now.names in
    let here = c.left.invariant in
    let block = c.in-Some.block in
    let rest = c.next.new.self in
    let at = c.in-Some.ensures in
    let all = map (settled n) (flat_map (tree_edges_for x) (map written_state c.args.states)) in
    let edges : List RawState → List LabelledEdge = λ ss. flat_map (tree_edges_for x) (map written_state ss) in
    let before = map (edge_of c.left.guards) c.left.links in
    record {
      names = c.add_all.ensures.names ∙ here.names;
      marks = (parts_pass (marks_below x.sets) block rest
          (subst (λ (bs : List (List RawState)). list_all (marks_below x.sets) (states_left bs) ≡ true) at here.marks)).1;
      below = (parts_below (HasLabelsBelow x n) block rest
          (subst (λ (bs : List (List RawState)). All (HasLabelsBelow x n) (states_left bs)) at here.below)).1;
      way = link_block x n c.left.guards c.add_all.new.guards c.left.links c.add_all.new.links block rest all
          (subst (λ (bs : List (List RawState)). AreOnTheWay c.left.guards c.left.links (map (settled n) (flat_map (tree_edges_for x) (states_left bs))) all) at here.way)
          (subst (λ m. StandFor c.add_all.new.guards c.add_all.new.links (before ++ map (settled m) (edges block))) here.names
          (subst (λ (ss : List RawState). StandFor c.add_all.new.guards c.add_all.new.links (before ++ map (settled c.left.guards.names) (edges ss))) c.as_slice.ensures
          c.in_ok-add_all.ensures.stand));
    }

use Rattle.std.proofs.Common.{◌≡◌, ◌++◌, ◌∷◌, ◌∙◌, [], true, All, List, ap, arith, map, refl, subst, sym}
use Rattle.std.proofs.lemmas.Bool.{and_parts}
use Rattle.std.specs.List.{list_all}
use Rattle.std.specs.Prelude.{flat_map}
use Rattle.std.specs.Vec.Iter.{into_iter_items}
use Rattle.aut_base.proofs.lists.Members.{all_of_second}
use Rattle.aut_base.specs.Automaton.{LabelledEdge}
use Rattle.aut_core.specs.Links.{StandFor}
use Rattle.aut_core.specs.SymbolicAutomata.{edge_of}
use Rattle.aut_core.specs.declared.link.Link.{Link}
use Rattle.hoa_parser.specs.Raw.{written_state}
use Rattle.hoa_parser.specs.declared.raw.RawState.{RawState}
use Rattle.hoa_reader.proofs.labels.LinkedEdges.{AreOnTheWay, link_state}
use Rattle.hoa_reader.specs.Validity.{marks_below}
use Rattle.hoa_reader.specs.inner.TreeEdges.{HasLabelsBelow, settled, tree_edges_for}
use Rattle.hoa_reader.proofs.elaborate.links.links_one_by_one.Goals as goal

pub states-init : goal.states-init
states-init c =
    let x = c.args.shared.now in
    let n = c.args.guards.now.names in
    let all = c.into_iter-state-iterator.ensures.into_iter_gives.0 ∙ c.into_vec-state-items.ensures in
    let none : c.from_vec-links.result ≡ [] = c.from_vec-links.ensures ∙ c.in_ok-with_capacity.ensures.items in
    let edges : List RawState → List LabelledEdge = λ ss. map (settled n) (flat_map (tree_edges_for x) (map written_state ss)) in
    record {
      names = refl;
      marks = ap (λ (ss : List RawState). list_all (marks_below x.sets) (map written_state ss)) all ∙ c.requires.linked.marks;
      below = subst (λ (ss : List RawState). All (HasLabelsBelow x n) (map written_state ss)) (sym all) c.requires.linked.below;
      way = subst (λ (ls : List Link). AreOnTheWay c.args.guards.now ls (edges (into_iter_items c.into_iter-state-iterator.result)) (edges c.args.states))
          (sym none) (record { has = λ k d l. absurd (omega (arith, l)); edges = ap edges all });
    }

pub add_many-requires-clause-below : goal.add_many-requires-clause-below
add_many-requires-clause-below c =
    let x = c.args.shared.now in
    let here = c.states.invariant in
    let state = written_state c.in-Some.state in
    let all = subst (λ (ss : List RawState). All (HasLabelsBelow x c.args.guards.now.names) (map written_state ss)) c.in-Some.ensures.steps.0 here.below in
    subst (λ m. HasLabelsBelow x m state) (sym here.names) (all 0 state (omega arith))

pub states-preserved : goal.states-preserved
states-preserved c =
    let x = c.args.shared.now in
    let n = c.args.guards.now.names in
    let here = c.states.invariant in
    let state = written_state c.in-Some.state in
    let rest = map written_state (into_iter_items c.next.new.self) in
    let at = c.in-Some.ensures.steps.0 in
    let all = map (settled n) (flat_map (tree_edges_for x) (map written_state c.args.states)) in
    let before = map (edge_of c.states.guards) c.states.links in
    record {
      names = c.add_many.ensures.names ∙ here.names;
      marks = (and_parts _ _ (subst (λ (ss : List RawState). list_all (marks_below x.sets) (map written_state ss) ≡ true) at here.marks)).1;
      below = all_of_second (HasLabelsBelow x n) (state ∷ []) rest (subst (λ (ss : List RawState). All (HasLabelsBelow x n) (map written_state ss)) at here.below);
      way = link_state x n c.states.guards c.add_many.new.guards c.states.links c.add_many.new.links state rest all
          (subst (λ (ss : List RawState). AreOnTheWay c.states.guards c.states.links (map (settled n) (flat_map (tree_edges_for x) (map written_state ss))) all) at here.way)
          (subst (λ m. StandFor c.add_many.new.guards c.add_many.new.links (before ++ map (settled m) (tree_edges_for x state))) here.names
          c.in_ok-add_many.ensures.stand);
    }

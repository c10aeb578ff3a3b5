use Rattle.std.proofs.Common.{◌≡◌, ◌∷◌, ◌+◌, ◌++◌, ◌∙◌, true, List, ap, arith, length, map, subst, sym}
use Rattle.std.proofs.lemmas.Bool.{and_parts}
use Rattle.std.proofs.lemmas.List.{length-append, length-map, map-append}
use Rattle.std.proofs.lemmas.List.Folds.{list_all-append}
use Rattle.std.specs.List.{AllByRecursion, list_all}
use Rattle.aut_base.proofs.lists.AllByRecursion.{AllByRecursion-left, AllByRecursion-right}
use Rattle.aut_base.specs.Automaton.{LabelledEdge}
use Rattle.aut_base.specs.Label.{AllBelow}
use Rattle.aut_core.specs.Links.{StandFor}
use Rattle.aut_core.specs.SymbolicAutomata.{edge_of}
use Rattle.hoa_parser.specs.Raw.{WrittenEdge, written_edge, written_state}
use Rattle.hoa_parser.specs.declared.raw.RawEdge.{RawEdge}
use Rattle.hoa_reader.proofs.labels.LinkedEdges.{AreOnTheWay, edges_left, edges_parted, left_edges, link_some}
use Rattle.hoa_reader.specs.Validity.{numbers_below}
use Rattle.hoa_reader.specs.inner.TreeEdges.{settled, tree_edges_at, tree_edges_for}
use Rattle.hoa_reader.proofs.elaborate.links.add_many.Goals as goal

pub add_some-requires-clause-below : goal.add_some-requires-clause-below
add_some-requires-clause-below c =
    let x = c.args.shared.now in
    let s = written_state c.args.state in
    let n = c.args.guards.now.names in
    let here = c.left.invariant in
    let edges = c.as_slice-edges.result.now in
    let rest = c.next.new.self in
    let Below : List LabelledEdge → Type 0 = AllByRecursion (λ (e : LabelledEdge). AllBelow n e.label) in
    let at = c.in-Some.ensures ∙ ap (λ (b : List RawEdge). b ∷ rest) (sym c.as_slice-edges.ensures) in
    let all : Below (tree_edges_at x s c.left.first (edges_left (edges ∷ rest))) =
    subst (λ (bs : List (List RawEdge)). Below (tree_edges_at x s c.left.first (edges_left bs))) at here.below in
    subst (λ m. AllByRecursion (λ (e : LabelledEdge). AllBelow m e.label) (tree_edges_at x s c.left.first (map written_edge edges))) (sym here.names)
    (AllByRecursion-left (λ (e : LabelledEdge). AllBelow n e.label) (tree_edges_at x s c.left.first (map written_edge edges))
    (tree_edges_at x s (c.left.first + length edges) (edges_left rest)) (subst Below (edges_parted x s c.left.first edges rest) all))

pub left-preserved : goal.left-preserved
left-preserved c =
    let x = c.args.shared.now in
    let s = written_state c.args.state in
    let n = c.args.guards.now.names in
    let first = c.left.first in
    let here = c.left.invariant in
    let edges = c.as_slice-edges.result.now in
    let rest = c.next.new.self in
    let Below : List LabelledEdge → Type 0 = AllByRecursion (λ (e : LabelledEdge). AllBelow n e.label) in
    let at = c.in-Some.ensures ∙ ap (λ (b : List RawEdge). b ∷ rest) (sym c.as_slice-edges.ensures) in
    let parted = edges_parted x s first edges rest in
    let mine = tree_edges_at x s first (map written_edge edges) in
    let later = tree_edges_at x s (first + length edges) (edges_left rest) in
    let all = map (edge_of c.args.guards.now) c.args.links.now ++ map (settled n) (tree_edges_for x s) in
    let before = map (edge_of c.left.guards) c.left.links in
    let long = ap (λ (bs : List (List RawEdge)). length (edges_left bs)) at ∙ (ap length (left_edges edges rest)
    ∙ (length-append (map written_edge edges) (edges_left rest) ∙ ap (λ k. k + length (edges_left rest)) (length-map edges written_edge))) in
    let count = here.count in
    record {
      names = c.add_some.ensures.names ∙ here.names;
      count = omega (arith, long, count);
      marks = (and_parts _ _ (sym (list_all-append (λ (e : WrittenEdge). numbers_below x.sets e.marks) (map written_edge edges) (edges_left rest))
          ∙ (ap (list_all (λ (e : WrittenEdge). numbers_below x.sets e.marks)) (sym (left_edges edges rest))
          ∙ subst (λ (bs : List (List RawEdge)). list_all (λ (e : WrittenEdge). numbers_below x.sets e.marks) (edges_left bs) ≡ true) at here.marks))).1;
      below = AllByRecursion-right (λ (e : LabelledEdge). AllBelow n e.label) mine later
          (subst Below parted (subst (λ (bs : List (List RawEdge)). Below (tree_edges_at x s first (edges_left bs))) at here.below));
      way = link_some c.left.guards c.add_some.new.guards c.left.links c.add_some.new.links (map (settled n) mine) (map (settled n) later) all
          (subst (λ (es : List LabelledEdge). AreOnTheWay c.left.guards c.left.links es all) (ap (map (settled n)) parted ∙ map-append (settled n) mine later)
          (subst (λ (bs : List (List RawEdge)). AreOnTheWay c.left.guards c.left.links (map (settled n) (tree_edges_at x s first (edges_left bs))) all) at here.way))
          (subst (λ m. StandFor c.add_some.new.guards c.add_some.new.links (before ++ map (settled m) mine)) here.names c.in_ok-add_some.ensures.stand);
    }

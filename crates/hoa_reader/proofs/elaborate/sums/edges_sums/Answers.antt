use Rattle.std.proofs.Common.{◌≡◌, ◌∙◌, ◌+◌, List, ap, drop, map, subst, sym}
use Rattle.std.proofs.lemmas.List.{drop_all}
use Rattle.aut_base.proofs.lists.Lists.{drop-at}
use Rattle.hoa_parser.specs.Raw.{written_edge}
use Rattle.hoa_parser.specs.declared.raw.RawEdge.{RawEdge}
use Rattle.hoa_reader.proofs.counting.BodySums.{Fits, beside_fits, beside_in_turn, edges_begin, nothing_fits, with_nothing}
use Rattle.hoa_reader.specs.declared.elaborate.sums.Sums.{Sums}
use Rattle.hoa_reader.specs.inner.Sums.{beside, edge_sums, edges_sums, nothing}
use Rattle.hoa_reader.proofs.elaborate.sums.edges_sums.Goals as goal

abbrev all_of : List RawEdge → Sums
all_of edges = edges_sums (map written_edge edges)

pub edges-init : goal.edges-init
edges-init c = record {
  fits = subst Fits (sym c.nothing-all.ensures) nothing_fits;
  sums = ap (λ a. beside a (all_of c.args.edges.now)) c.nothing-all.ensures ∙ edges_begin (map written_edge c.args.edges.now);
}

pub edges-preserved : goal.edges-preserved
edges-preserved c =
    let edges = c.args.edges.now in
    let i = c.edges.edge-index in
    let edge = c.edge-item.result in
    let split : all_of (drop i edges) ≡ beside (edge_sums (written_edge edge)) (all_of (drop (i + 1) edges)) = ap all_of (drop-at edges i edge c.edges-test.true c.edge-item.is) in
    let now : c.beside-all.result ≡ beside c.edges.all (edge_sums (written_edge edge)) = c.beside-all.ensures ∙ ap (beside c.edges.all) c.edge_sums.ensures in
    record {
      fits = subst Fits (sym now) (beside_fits c.edges.all (edge_sums (written_edge edge)));
      sums = ap (λ a. beside a (all_of (drop (i + 1) edges))) now ∙ beside_in_turn c.edges.all (edge_sums (written_edge edge)) (all_of (drop (i + 1) edges))
          ∙ ap (beside c.edges.all) (sym split) ∙ c.edges.invariant.sums;
    }

pub returns : goal.returns
returns c =
    let gone : all_of (drop c.edges.edge-index c.args.edges.now) ≡ nothing = ap all_of (drop_all c.edges.edge-index c.args.edges.now c.edges-test.false) in
    sym (with_nothing c.edges.all c.edges.invariant.fits) ∙ ap (beside c.edges.all) (sym gone) ∙ c.edges.invariant.sums

use Rattle.std.proofs.Common.{◌≡◌, ◌+◌, ◌∙◌, map, drop, List, ℕ, ap, sym, arith}
use Rattle.std.proofs.lemmas.List.Sums.{sum_by-cons}
use Rattle.std.specs.Prelude.{sum_by}
use Rattle.hoa_parser.specs.Raw.{written_edge, written_state}
use Rattle.hoa_reader.specs.inner.Weighing.{edge_counted, state_counted}
use Rattle.hoa_parser.specs.declared.raw.RawEdge.{RawEdge}
use Rattle.hoa_reader.proofs.elaborate.counts.left_after.Goals as goal
use Rattle.aut_base.proofs.lists.Lists.{drop-at}
use Rattle.hoa_reader.proofs.elaborate.counts.left_after.Goals.{After-edge_count-count}

-- with the edge counted, what is left is that of those behind it
counted : (c : After-edge_count-count) → c.edges.left + state_counted c.args.known.now (written_state c.args.state.now) ≡ c.args.most + (c.edge_count-count.result
    + sum_by (edge_counted c.args.known.now (written_state c.args.state.now)) (map written_edge (drop (c.edges.edge-index + 1) c.args.state.now.edges)))
counted c =
    let s = written_state c.args.state.now in
    let edges = c.args.state.now.edges in
    let i = c.edges.edge-index in
    let edge = c.edge-item.result in
    let S : List RawEdge → ℕ = λ es. sum_by (edge_counted c.args.known.now s) (map written_edge es) in
    let here : c.edge_count-count.result ≡ edge_counted c.args.known.now s (written_edge edge) = c.edge_count-count.ensures s c.state_weight-own.ensures in
    let slice = c.as_slice-edge-items.ensures in
    let rest : S (drop i c.as_slice-edge-items.result.now) ≡ edge_counted c.args.known.now s (written_edge edge) + S (drop (i + 1) c.as_slice-edge-items.result.now) =
    ap S (drop-at c.as_slice-edge-items.result.now i edge c.edges-test.true c.edge-item.is)
    ∙ sum_by-cons (edge_counted c.args.known.now s) (written_edge edge) (map written_edge (drop (i + 1) c.as_slice-edge-items.result.now)) in
    let left : S (drop i edges) ≡ S (drop i c.as_slice-edge-items.result.now) = ap (λ (es : List RawEdge). S (drop i es)) (sym slice) in
    let next : S (drop (i + 1) edges) ≡ S (drop (i + 1) c.as_slice-edge-items.result.now) = ap (λ (es : List RawEdge). S (drop (i + 1) es)) (sym slice) in
    let before : c.edges.left + state_counted c.args.known.now s ≡ c.args.most + S (drop i edges) = c.edges.invariant in
    omega (arith, here, rest, left, next, before)

pub returns-then-count-left : goal.returns-then-count-left
returns-then-count-left c = omega (arith, counted (goal.at.returns-then-count-left c).After-edge_count-count, c.if-count-left.true)

pub edges-preserved : goal.edges-preserved
edges-preserved c = omega (arith, counted (goal.at.edges-preserved c).After-edge_count-count, c.if-count-left.false)

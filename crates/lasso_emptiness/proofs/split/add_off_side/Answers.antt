use Rattle.std.proofs.Common.{◌≡◌, ◌∙◌, false, sym}
use Rattle.std.proofs.lemmas.Bool.{true≢false}
use Rattle.lasso_emptiness.specs.declared.live.EdgeRef.{EdgeRef}
use Rattle.lasso_emptiness.specs.inner.Edges.{marks_of, on_side}
use Rattle.lasso_emptiness.proofs.components.Picking.{picks_more, picks_skip}
use Rattle.lasso_emptiness.proofs.split.add_off_side.Goals as goal

pub edges-preserved : goal.edges-preserved
edges-preserved c =
    picks_more (λ (e : EdgeRef). on_side c.args.side.set c.args.side.neg (marks_of c.args.links.now e) ≡ false) c.args.edges.now c.args.off.now c.edges.edge-index c.edges-test.true
    c.edges.off c.push.new.self c.edges.invariant (sym c.has_edge.ensures ∙ c.if-has_edge.false) c.in_ok-push.ensures.ok

pub edges-preserved-then-has_edge : goal.edges-preserved-then-has_edge
edges-preserved-then-has_edge c =
    picks_skip (λ (e : EdgeRef). on_side c.args.side.set c.args.side.neg (marks_of c.args.links.now e) ≡ false) c.args.edges.now c.args.off.now c.edges.edge-index c.edges-test.true
    c.edges.off c.edges.invariant (λ off. true≢false (sym c.if-has_edge.true ∙ c.has_edge.ensures ∙ off))

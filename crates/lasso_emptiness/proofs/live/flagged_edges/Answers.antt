use Rattle.std.proofs.Common.{◌≡◌, ◌∙◌, [], false, get_or, sym, true}
use Rattle.std.proofs.lemmas.Bool.{true≢false}
use Rattle.lasso_emptiness.specs.declared.live.EdgeRef.{EdgeRef}
use Rattle.lasso_emptiness.proofs.components.Picking.{picks_more, picks_skip}
use Rattle.lasso_emptiness.proofs.live.flagged_edges.Goals as goal

pub edges-preserved : goal.edges-preserved
edges-preserved c =
    picks_more (λ (e : EdgeRef). get_or c.args.flags.now e.from false ≡ true) c.args.edges.now [] c.edges.edge-index c.edges-test.true c.edges.flagged c.push.new.self c.edges.invariant
    c.if-not-flags-edge.false c.in_ok-push.ensures.ok

pub edges-preserved-then-not-flags-edge : goal.edges-preserved-then-not-flags-edge
edges-preserved-then-not-flags-edge c =
    picks_skip (λ (e : EdgeRef). get_or c.args.flags.now e.from false ≡ true) c.args.edges.now [] c.edges.edge-index c.edges-test.true c.edges.flagged c.edges.invariant
    (λ flag. true≢false (sym flag ∙ c.if-not-flags-edge.true))

use Rattle.std.proofs.Common.{◌≡◌, ◌∙◌, false, sym, subst}
use Rattle.std.specs.List.{All}
use Rattle.std.proofs.lemmas.List.{take_all}
use Rattle.std.proofs.lemmas.List.Elements.{All-more}
use Rattle.lasso_emptiness.specs.inner.Edges.{marks_of, on_side}
use Rattle.lasso_emptiness.specs.declared.live.EdgeRef.{EdgeRef}
use Rattle.lasso_emptiness.proofs.side.SetLiteral.one_of.Goals as goal

pub edges-preserved : goal.edges-preserved
edges-preserved c =
    All-more (λ (e : EdgeRef). on_side c.args.self.set c.args.self.neg (marks_of c.args.links.now e) ≡ false) c.args.edges.now c.edges.edge-index _ c.edges-test.true c.edges.invariant
    (sym c.has_edge.ensures ∙ c.if-has_edge.false)

pub returns : goal.returns
returns c =
    subst (All (λ (e : EdgeRef). on_side c.args.self.set c.args.self.neg (marks_of c.args.links.now e) ≡ false)) (take_all c.edges.edge-index c.args.edges.now c.edges-test.false) c.edges.invariant

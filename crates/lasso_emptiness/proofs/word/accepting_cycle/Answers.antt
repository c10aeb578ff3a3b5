use Rattle.std.proofs.Common.{List, subst}
use Rattle.std.specs.List.{Contains}
use Rattle.std.proofs.lemmas.Result.{IfOk-weaker}
use Rattle.aut_base.specs.Formula.{formula_tree}
use Rattle.lasso_emptiness.specs.declared.live.EdgeRef.{EdgeRef}
use Rattle.lasso_emptiness.specs.inner.Tours.{IsTour}
use Rattle.lasso_emptiness.specs.inner.Trails.{IsAccepting}
use Rattle.lasso_emptiness.proofs.components.Searching.{accepting_tour}
use Rattle.lasso_emptiness.proofs.word.accepting_cycle.Goals as goal

pub returns : goal.returns
returns c =
    let f = formula_tree c.args.condition.now in
    IfOk-weaker c.tour.result (IsTour c.args.edges.now c.as_slice.result.now) (IsAccepting c.args.links.now (Contains c.args.edges.now) f)
    (λ cycle tour. accepting_tour c.args.links.now c.args.edges.now c.in_ok-needed.needed cycle f c.in_ok-needed.ensures
    (subst (λ (es : List EdgeRef). IsTour c.args.edges.now es cycle) c.as_slice.ensures tour))
    c.tour.ensures

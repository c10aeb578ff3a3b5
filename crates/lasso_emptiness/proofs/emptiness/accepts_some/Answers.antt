use Rattle.std.proofs.Common.{subst, sym}
use Rattle.lasso_emptiness.specs.inner.Live.{ArePassable}
use Rattle.lasso_emptiness.proofs.trails.Carried.{some_accepted}
use Rattle.lasso_emptiness.proofs.emptiness.accepts_some.Goals as goal

pub returns : goal.returns
returns c =
    let a = c.args.a.now in
    let are = subst (ArePassable a) (sym c.as_slice.ensures) c.in_ok-passable.ensures in
    some_accepted a c.well_formedness.ensures c.as_slice.result.now c.in_ok-found.found c.is_some.result are c.is_some.ensures c.in_ok-found.ensures

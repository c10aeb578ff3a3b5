use Rattle.std.proofs.Common.{take}
use Rattle.lasso_emptiness.specs.inner.Splits.{AddsOff}
use Rattle.lasso_emptiness.proofs.split.add_off_side.Given as goal

abbrev pub invariant-edges : goal.invariant-edges
invariant-edges l = AddsOff l.links l.side.set l.side.neg (take l.edge-index l.edges) l.fn.off l.off

-- None of the edges so far satisfies the literal.
use Rattle.std.proofs.Common.{◌≡◌, false, take}
use Rattle.std.specs.List.{All}
use Rattle.lasso_emptiness.specs.inner.Edges.{marks_of, on_side}
use Rattle.lasso_emptiness.proofs.side.SetLiteral.one_of.Given as goal

abbrev pub invariant-edges : goal.invariant-edges
invariant-edges l = All (λ e. on_side l.self.set l.self.neg (marks_of l.links e) ≡ false) (take l.edge-index l.edges)

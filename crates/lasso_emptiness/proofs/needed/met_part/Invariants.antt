-- None of the parts so far is met.
use Rattle.std.proofs.Common.{◌≡◌, drop, map}
use Rattle.std.specs.List.{list_any}
use Rattle.aut_base.specs.Formula.{formula_list, met}
use Rattle.lasso_emptiness.specs.inner.Edges.{marks_of}
use Rattle.lasso_emptiness.proofs.needed.met_part.Given as goal

abbrev pub invariant-parts : goal.invariant-parts
invariant-parts l =
    list_any (met (map (marks_of l.links) l.edges)) (drop l.place (formula_list l.parts)) ≡ list_any (met (map (marks_of l.links) l.edges)) (formula_list l.parts)

use Rattle.std.proofs.Common.{◌≡◌, ◌&&◌, [], not}
use Rattle.safra_trees.specs.inner.Names.{names_where}
use Rattle.safra_trees.specs.inner.Passes.{flag}
use Rattle.safra_trees.proofs.passes.least_covered.Given as goal

abbrev pub invariant-names : goal.invariant-names
invariant-names l = names_where (λ y. flag l.stay y && not (flag l.own y)) l.name ≡ []

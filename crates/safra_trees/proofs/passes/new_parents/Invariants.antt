use Rattle.std.proofs.Common.{◌≡◌, map}
use Rattle.safra_trees.specs.Flat.{at}
use Rattle.safra_trees.specs.inner.Names.{names_where}
use Rattle.safra_trees.specs.inner.Claims.{grown_parent}
use Rattle.safra_trees.specs.inner.Passes.{flag}
use Rattle.safra_trees.proofs.passes.new_parents.Given as goal

abbrev pub invariant-names : goal.invariant-names
invariant-names l = l.made.items ≡ map (λ y. at l.ranks (grown_parent l.parents y)) (names_where (flag l.stay) l.name)

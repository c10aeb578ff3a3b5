use Rattle.std.proofs.Common.{◌≡◌, ◌<◌, ◌≤◌, ℕ, length}
use Rattle.safra_trees.specs.Flat.{at}
use Rattle.safra_trees.specs.inner.Claims.{grown_parent}
use Rattle.safra_trees.specs.inner.Passes.{AreOwners}
use Rattle.safra_trees.proofs.passes.owners.Given as goal

abbrev pub invariant-names : goal.invariant-names
invariant-names l = record {
  size : length l.owners.items ≡ l.name;
  low : (x : ℕ) → x < l.name → at l.owners.items x ≤ x;
  owners : AreOwners l.own (grown_parent l.parents) l.name l.owners.items;
}

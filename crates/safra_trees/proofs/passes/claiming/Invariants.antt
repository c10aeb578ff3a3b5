use Rattle.std.proofs.Common.{◌≡◌, ◌||◌, ◌<◌, ℕ, drop, length}
use Rattle.safra_trees.specs.inner.Names.{has}
use Rattle.safra_trees.specs.inner.Passes.{flag}
use Rattle.safra_trees.proofs.passes.claiming.Given as goal

abbrev pub invariant-claims : goal.invariant-claims
invariant-claims l = record {
  size : length l.own.items ≡ l.size;
  own : (y : ℕ) → y < l.size → (flag l.own.items y || has (drop l.claim-index l.claims) y) ≡ has l.claims y;
}

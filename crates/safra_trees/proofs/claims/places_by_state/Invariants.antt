use Rattle.std.proofs.Common.{◌≡◌, ◌<◌, ◌≤◌, ℕ, All, drop, length}
use Rattle.safra_trees.specs.Flat.{at}
use Rattle.safra_trees.specs.inner.Claims.{owner_in}
use Rattle.safra_trees.specs.inner.Slices.{states_in}
use Rattle.safra_trees.proofs.claims.places_by_state.Given as goal

abbrev pub invariant-states : goal.invariant-states
invariant-states l = record {
  size : length l.found.items ≡ l.count;
  below : All (λ x. x ≤ l.none) l.found.items;
  places : (s : ℕ) → s < l.count → owner_in (at l.found.items s) (drop l.place (states_in l.tree)) (drop l.place l.tree.places.now) s ≡ owner_in l.none (states_in l.tree) l.tree.places.now s;
}

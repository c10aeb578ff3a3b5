use Rattle.std.proofs.Common.{◌≡◌, ◌+◌, ◌<◌, ◌≤◌, ℕ, All, drop, length}
use Rattle.safra_trees.specs.Flat.{at}
use Rattle.safra_trees.specs.inner.Claims.{claim}
use Rattle.safra_trees.proofs.claims.claims.Given as goal

abbrev pub invariant-moves : goal.invariant-moves
invariant-moves l = record {
  size : length l.claims.items ≡ length l.places;
  below : All (λ c. c ≤ length l.order + length l.order) l.claims.items;
  claims : (s : ℕ) → s < length l.places → claim l.order (at l.places) s (drop l.one-index l.moves) (at l.claims.items s)
      ≡ claim l.order (at l.places) s l.moves (length l.order + length l.order);
}

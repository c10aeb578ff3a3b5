use Rattle.std.proofs.Common.{◌≡◌, ◌||◌, ◌<◌, ℕ, drop, length}
use Rattle.std.specs.List.{list_any}
use Rattle.safra_trees.specs.inner.Passes.{ends_at, flag}
use Rattle.safra_trees.proofs.passes.surviving.Given as goal

abbrev pub invariant-claims : goal.invariant-claims
invariant-claims l = record {
  size : length l.stay.items ≡ length l.owners;
  stay : (y : ℕ) → y < length l.owners → (flag l.stay.items y || list_any (ends_at l.owners y) (drop l.claim-index l.claims)) ≡ list_any (ends_at l.owners y) l.claims;
}

use Rattle.std.proofs.Common.{◌≡◌, filter, length, map, nat_lt}
use Rattle.safra_trees.specs.Flat.{at, is_high, is_low}
use Rattle.safra_trees.specs.inner.Names.{names_where}
use Rattle.safra_trees.proofs.passes.new_places.Given as goal

abbrev pub invariant-states : goal.invariant-states
invariant-states l = record {
  low : l.low.items ≡ filter (is_low l.narrow) (names_where (λ s. nat_lt (at l.claims s) (length l.owners)) l.state);
  rest : l.rest.items ≡ filter (is_high l.narrow) (names_where (λ s. nat_lt (at l.claims s) (length l.owners)) l.state);
  places : l.places.items ≡ map (λ s. at l.ranks (at l.owners (at l.claims s))) (names_where (λ s. nat_lt (at l.claims s) (length l.owners)) l.state);
}

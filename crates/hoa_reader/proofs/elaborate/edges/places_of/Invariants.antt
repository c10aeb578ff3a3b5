use Rattle.std.proofs.Common.{◌≡◌, ◌<◌, map, take, length, get_or, ℕ, None}
use Rattle.hoa_reader.specs.inner.TreeEdges.{IsPlace}
use Rattle.hoa_parser.specs.Raw.{written_state}
use Rattle.hoa_reader.proofs.elaborate.edges.places_of.Given as goal

abbrev pub invariant-states : goal.invariant-states
invariant-states l = record {
  at : l.place ≡ l.state-index;
  len : length l.places.items ≡ l.count;
  place : (q : ℕ) → q < l.count → IsPlace (map written_state (take l.state-index l.states)) q (get_or l.places.items q None);
}

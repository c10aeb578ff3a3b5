use Rattle.std.proofs.Common.{◌≡◌, ◌==◌, true, map, take, ℕ}
use Rattle.std.specs.BTreeSet as tree
use Rattle.std.specs.List.{list_any}
use Rattle.std.specs.Ordering.{nat_cmp}
use Rattle.hoa_parser.specs.Raw.{written_state}
use Rattle.hoa_reader.specs.Validity.{all_differ}
use Rattle.hoa_reader.proofs.elaborate.rules.none_repeats.Given as goal

abbrev pub invariant-states : goal.invariant-states
invariant-states l = record {
  differ : all_differ ◌==◌ (map (λ s. s.number) (map written_state (take l.state-index l.states))) ≡ true;
  seen : (q : ℕ) → tree.contains nat_cmp l.seen q ≡ list_any (λ x. x == q) (map (λ s. s.number) (map written_state (take l.state-index l.states)));
}

use Rattle.std.proofs.Common.{◌≡◌, ◌&&◌, map}
use Rattle.std.specs.List.{range_with_len}
use Rattle.aut_ops.specs.Satisfiable.{is_flagged}
use Rattle.aut_ops.proofs.pruning.both.Given as goal

abbrev pub invariant-places : goal.invariant-places
invariant-places l = l.flags ≡ map (λ place. is_flagged l.first place && is_flagged l.second place) (range_with_len 0 l.place)

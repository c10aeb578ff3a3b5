use Rattle.std.proofs.Common.{◌≡◌, map, take}
use Rattle.degeneralise.specs.inner.Parts.{state_at}
use Rattle.degeneralise.proofs.links.first_levels.Given as goal

abbrev pub invariant-starts : goal.invariant-starts
invariant-starts l = l.found ≡ map (λ start. state_at l.k start 0) (take l.start-index l.start-items)

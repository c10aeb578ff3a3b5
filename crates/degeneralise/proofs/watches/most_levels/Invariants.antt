use Rattle.std.proofs.Common.{◌≡◌, take}
use Rattle.degeneralise.specs.Buchi.{most_levels}
use Rattle.degeneralise.proofs.watches.most_levels.Given as goal

abbrev pub invariant-watches : goal.invariant-watches
invariant-watches l = l.most ≡ most_levels (take l.watch-index l.watch-items)

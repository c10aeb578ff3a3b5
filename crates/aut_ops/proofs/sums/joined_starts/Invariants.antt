use Rattle.std.proofs.Common.{◌≡◌, ◌+◌, ◌++◌, map, take}
use Rattle.aut_ops.proofs.sums.joined_starts.Given as goal

abbrev pub invariant-others : goal.invariant-others
invariant-others l = l.all ≡ l.starts ++ map (λ start. start + l.by) (take l.start-index l.others)

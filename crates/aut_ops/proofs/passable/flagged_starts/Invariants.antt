use Rattle.std.proofs.Common.{◌≡◌, filter, take}
use Rattle.aut_ops.specs.Satisfiable.{is_flagged}
use Rattle.aut_ops.proofs.passable.flagged_starts.Given as goal

abbrev pub invariant-starts : goal.invariant-starts
invariant-starts l = l.new ≡ filter (is_flagged l.flags) (take l.start-index l.starts)

use Rattle.std.proofs.Common.{◌-◌, length}
use Rattle.aut_core.proofs.Rows.{IsInRow}
use Rattle.aut_core.proofs.link.row_end.Given as goal

abbrev pub invariant-links : goal.invariant-links
invariant-links l = IsInRow l.links l.state l.start l.end

abbrev pub decreases-links : goal.decreases-links
decreases-links l = length l.links - l.end

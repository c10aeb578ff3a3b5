use Rattle.std.proofs.Common.{◌<◌}
use Rattle.std.specs.List.{All}
use Rattle.base_rows.proofs.graphs.starts.Given as goal

abbrev pub invariant-nodes : goal.invariant-nodes
invariant-nodes l = All (λ p. p < l.nodes) l.starts

use Rattle.std.proofs.Common.{◌≡◌, ◌++◌}
use Rattle.aut_core.proofs.JoinedNames.{lacking}
use Rattle.aut_core.proofs.join.names_of_both.Given as goal

abbrev pub invariant-others : goal.invariant-others
invariant-others l = l.names ≡ l.a ++ lacking l.a l.b l.name-index

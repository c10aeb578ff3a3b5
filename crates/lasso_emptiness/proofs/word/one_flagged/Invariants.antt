use Rattle.std.proofs.Common.{◌≡◌, false, get_or, take}
use Rattle.std.specs.List.{All}
use Rattle.lasso_emptiness.proofs.word.one_flagged.Given as goal

abbrev pub invariant-states : goal.invariant-states
invariant-states l = All (λ p. get_or l.flags p false ≡ false) (take l.state-index l.states)

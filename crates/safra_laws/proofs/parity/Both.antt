-- Accepting runs and odd priorities, by way of green names.
use Rattle.safra_laws.proofs.backward.Accepted.{green_is_accepted}
use Rattle.safra_laws.proofs.forward.Runs.{accepted_is_green}
use Rattle.safra_laws.proofs.parity.GreenIsOdd.{green_is_odd}
use Rattle.safra_laws.proofs.parity.OddIsGreen.{odd_is_green}
use Rattle.safra_laws.specs.Language.{AcceptedIsOdd, OddIsAccepted}
use Rattle.safra_laws.specs.Rounds.{tree_after}
use Rattle.safra_trees.specs.Trees.{first_tree}

pub accepted_is_odd : AcceptedIsOdd
accepted_is_odd n most p t round es tree rooted below path returns few some = green_is_odd n most t round tree few (accepted_is_green n p t round es tree rooted below path returns some)

pub odd_is_accepted : OddIsAccepted
odd_is_accepted n most starts stem round returns odd = green_is_accepted n starts stem round returns (odd_is_green n most (tree_after n (first_tree n starts) stem) round odd)

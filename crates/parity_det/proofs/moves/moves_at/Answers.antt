use Rattle.std.proofs.Common.{All, subst, sym}
use Rattle.std.proofs.lemmas.Result.{IfOk-weaker}
use Rattle.letter_classes.specs.Taken.{reads_at}
use Rattle.parity_det.proofs.EdgeMoves.{moves_within}
use Rattle.safra_trees.specs.Events.{IsMoveInRange}
use Rattle.parity_det.proofs.moves.moves_at.Goals as goal

pub returns-clause-within : goal.returns-clause-within
returns-clause-within c =
    let a = c.args.a.now in
    IfOk-weaker c.taken_at.result _ _ (λ moves is. subst (All (IsMoveInRange a.states)) (sym is) (moves_within a c.well_formedness.ensures c.args.set.now (reads_at a c.args.number)))
    c.taken_at.ensures

use Rattle.std.proofs.Common.{subst, sym}
use Rattle.std.proofs.lemmas.Result.{IfOk-weaker}
use Rattle.aut_base.specs.Automaton.{Automaton}
use Rattle.aut_core.specs.SymbolicAutomata.{automaton_of}
use Rattle.aut_core.specs.OtherNames.{AcceptTheSame}
use Rattle.aut_ops.proofs.flagged.Useful.{useful_accepts}
use Rattle.aut_ops.specs.Pruning.{AreUseful}
use Rattle.aut_ops.proofs.pruning.prune.Goals as goal

pub returns-clause-accepts : goal.returns-clause-accepts
returns-clause-accepts c =
    let b = automaton_of c.args.b.now in
    let useful = subst (AreUseful b) (sym c.as_slice.ensures) c.in_ok-useful.ensures in
    IfOk-weaker c.flagged_in_place.result _ _
    (λ made e. subst (λ (x : Automaton). AcceptTheSame x b) (sym e) (useful_accepts b c.well_formedness.ensures.well_formed c.as_slice.result.now useful c.requires.formula)) c.flagged_in_place.ensures

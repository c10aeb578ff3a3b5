use Rattle.std.proofs.Common.{arith, get_or}
use Rattle.std.proofs.lemmas.Option.{slice_get-get_or}
use Rattle.aut_core.specs.SymbolicAutomata.{automaton_of}
use Rattle.letter_classes.proofs.ReadEdges.{all_states, state_more}
use Rattle.letter_classes.specs.Taken.{reads_at}
use Rattle.letter_classes.proofs.taken.taken_at.Goals as goal

pub set-preserved : goal.set-preserved
set-preserved g c =
    let a = c.args.a.now in
    state_more g.T.Taking.taken (reads_at a c.args.number) (automaton_of a) c.args.set.now c.set.state-index (get_or c.args.set.now c.set.state-index 0) c.set.found c.push_taken.new.found
    (slice_get-get_or c.args.set.now c.set.state-index 0 c.set-test.true) c.set.invariant c.in_ok-push_taken.ensures

pub returns : goal.returns
returns g c =
    let a = c.args.a.now in
    all_states g.T.Taking.taken (reads_at a c.args.number) (automaton_of a) c.args.set.now c.set.state-index c.set.found (omega (arith, c.set-test.false)) c.set.invariant

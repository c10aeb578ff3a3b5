use Rattle.aut_core.specs.SymbolicAutomata.{automaton_of}
use Rattle.hoa_writer.proofs.text.Lines.{state_written}
use Rattle.hoa_writer.proofs.write.push_states.Goals as goal

pub states-preserved : goal.states-preserved
states-preserved c =
    state_written (automaton_of c.args.a.now) c.states.state c.args.out.now c.states.out c.push_numbered.new.out c.push_links.new.out c.states.invariant c.in_ok-push_numbered.ensures
    c.in_ok-push_links.ensures

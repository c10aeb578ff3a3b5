use Rattle.std.proofs.Common.{◌≡◌, take}
use Rattle.aut_core.specs.SymbolicAutomata.{automaton_of}
use Rattle.letter_classes.specs.SetClasses.{set_edges}
use Rattle.letter_classes.specs.Taken.{reads_at, taken_of}
use Rattle.letter_classes.proofs.taken.taken_at.Given as goal

abbrev pub invariant-set : goal.invariant-set
invariant-set g l = l.found ≡ taken_of g.T.Taking.taken (reads_at l.fn.a l.fn.number) (set_edges (automaton_of l.fn.a) (take l.state-index l.set))

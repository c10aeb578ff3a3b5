use Rattle.aut_core.specs.SymbolicAutomata.{automaton_of}
use Rattle.plan_meaning.proofs.filters.Beside.{complement_within}
use Rattle.plan_meaning.proofs.complements.keep_complement.Goals as goal

pub returns-in_ok-complement-clause-kept : goal.returns-in_ok-complement-clause-kept
returns-in_ok-complement-clause-kept c =
    let made = c.in_ok-complement.ensures in
    record { complements = made.complements; shape = made.shape; names = made.names; sets = made.size.1; within = complement_within (automaton_of c.args.b.now) made.within }

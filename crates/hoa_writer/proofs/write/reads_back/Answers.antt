use Rattle.std.proofs.Common.{◌<◌, ◌^◌, arith, subst}
use Rattle.std.specs.Option.{option_copied}
use Rattle.aut_core.specs.SymbolicAutomata.{automaton_of}
use Rattle.hoa_writer.proofs.round_trip.ReadBack.{text_reads_back}
use Rattle.hoa_writer.proofs.write.reads_back.Goals as goal

pub returns : goal.returns
returns c =
    let few = c.well_formedness.ensures.parts.few in
    text_reads_back (automaton_of c.args.a.now) (option_copied c.args._name) c.well_formedness.ensures.well_formed (subst (λ n. n < 2 ^ 32) c.states.ensures c.fits.ensures)
    (subst (λ n. n < 2 ^ 32) c.sets.ensures c.fits-2.ensures) (omega (arith, few))

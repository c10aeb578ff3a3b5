use Rattle.std.proofs.Common.{◌∙◌, ap, subst, sym}
use Rattle.aut_base.specs.Automaton.{Automaton}
use Rattle.aut_core.specs.SymbolicAutomata.{automaton_of}
use Rattle.aut_core.specs.OtherNames.{AcceptTheSame}
use Rattle.degeneralise.proofs.BuchiLaw.{buchi_accepts_the_same, states_are}
use Rattle.degeneralise.proofs.buchi.to_buchi.Goals as goal

pub returns-clause-accepts : goal.returns-clause-accepts
returns-clause-accepts c =
    let a : Automaton = automaton_of c.args.a.now in
    subst (λ (b : Automaton). AcceptTheSame b a) (sym c.in_ok-made.ensures.made) (buchi_accepts_the_same a c.well_formedness.ensures.well_formed)

pub returns-clause-states : goal.returns-clause-states
returns-clause-states c = ap (λ (b : Automaton). b.states) c.in_ok-made.ensures.made ∙ states_are (automaton_of c.args.a.now)

use Rattle.std.proofs.Common.{subst}
use Rattle.aut_base.specs.Automaton.{Automaton}
use Rattle.aut_core.specs.SymbolicAutomata.{automaton_of}
use Rattle.parity_det.proofs.ParityLaws.{made_within, same_through}
use Rattle.parity_det.specs.Determinisation.{IsDeterminisation}
use Rattle.parity_det.proofs.form.parity.Goals as goal

pub returns-clause-accepts : goal.returns-clause-accepts
returns-clause-accepts c =
    same_through (automaton_of c.in_ok-determinise.field-0) (automaton_of c.in_ok-buchi.buchi) (automaton_of c.args.a.now) c.in_ok-determinise.ensures.accepts c.in_ok-buchi.ensures.accepts

pub returns-clause-within : goal.returns-clause-within
returns-clause-within c =
    let made = automaton_of c.in_ok-determinise.field-0 in
    let is = subst (λ (b : Automaton). IsDeterminisation b made) c.in_ok-buchi.ensures.shape c.in_ok-determinise.ensures.shape in
    made_within (automaton_of c.args.a.now) made is c.in_ok-buchi.ensures.within (λ many. (let none = c.in_ok-buchi.ensures.passed_terms many in cc))

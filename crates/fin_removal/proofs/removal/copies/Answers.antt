use Rattle.std.proofs.Common.{◌∙◌, ap}
use Rattle.acc_forms.specs.Atoms.{has_fin}
use Rattle.aut_base.specs.Automaton.{Automaton}
use Rattle.aut_core.specs.SymbolicAutomata.{automaton_of}
use Rattle.fin_removal.proofs.CopiedParts.{copied_accepts}
use Rattle.fin_removal.proofs.CopiedWhole.{copied_no_fin}
use Rattle.fin_removal.proofs.removal.copies.Goals as goal

pub returns-clause-accepts : goal.returns-clause-accepts
returns-clause-accepts c = copied_accepts c.args.a.now c.in_ok-make_copies.field-0 c.well_formedness.ensures c.in_ok-make_copies.ensures

pub returns-clause-no_fin : goal.returns-clause-no_fin
returns-clause-no_fin c = ap (λ (made : Automaton). has_fin made.formula) c.in_ok-make_copies.ensures ∙ copied_no_fin (automaton_of c.args.a.now)

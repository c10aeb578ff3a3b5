use Rattle.std.proofs.Common.{◌∙◌, ap, sym}
use Rattle.acc_forms.specs.Atoms.{has_fin}
use Rattle.aut_core.specs.SymbolicAutomata.{automaton_of}
use Rattle.plan_meaning.proofs.changes.Shapings.{fin_itself}
use Rattle.plan_meaning.proofs.changing.shaping.without_fin.Goals as goal

pub returns-then-not-has_fin-clause-steps : goal.returns-then-not-has_fin-clause-steps
returns-then-not-has_fin-clause-steps c = fin_itself (automaton_of c.args.a) (sym (c.has_fin.ensures.tree ∙ ap has_fin c.formula.ensures) ∙ c.if-not-has_fin.true)

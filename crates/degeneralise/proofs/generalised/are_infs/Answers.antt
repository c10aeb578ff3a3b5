use Rattle.std.proofs.Common.{sym}
use Rattle.aut_base.proofs.lists.Steps.{all_more, all_not_here}
use Rattle.aut_base.specs.Formula.{formula_list, formula_tree}
use Rattle.degeneralise.specs.inner.Parts.{is_inf_atom}
use Rattle.degeneralise.proofs.generalised.are_infs.Goals as goal

pub returns-then-not-is_inf : goal.returns-then-not-is_inf
returns-then-not-is_inf c = all_not_here is_inf_atom (formula_list c.args.parts.now) c.parts.place (formula_tree c.at.result.now) c.at.ensures c.parts.invariant (sym c.if-not-is_inf.ensures)

pub parts-preserved : goal.parts-preserved
parts-preserved c = all_more is_inf_atom (formula_list c.args.parts.now) c.parts.place (formula_tree c.at.result.now) c.at.ensures c.parts.invariant (sym c.if-not-is_inf.ensures)

-- The parts added so far, and those still to be added.
use Rattle.std.proofs.Common.{◌≡◌, ◌++◌, drop}
use Rattle.aut_base.specs.Formula.{formula_list}
use Rattle.acc_forms.proofs.join.push_from.Given as goal

abbrev pub invariant-parts : goal.invariant-parts
invariant-parts l = formula_list l.parts ++ drop l.place (formula_list l.more) ≡ formula_list l.fn.parts ++ drop l.start (formula_list l.more)

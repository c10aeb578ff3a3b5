-- The condition so far is the one over the sets from the current one on.
use Rattle.std.proofs.Common.{◌≡◌, ◌-◌}
use Rattle.aut_base.specs.Formula.{formula_tree}
use Rattle.acc_forms.specs.Parity.{parity_from}
use Rattle.acc_forms.proofs.parity.parity_min_odd.Given as goal

abbrev pub invariant-sets : goal.invariant-sets
invariant-sets l = formula_tree l.formula ≡ parity_from (l.n - 1 - l.set) l.set

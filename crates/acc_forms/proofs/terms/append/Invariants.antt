use Rattle.std.proofs.Common.{◌≡◌, ◌++◌}
use Rattle.acc_forms.proofs.terms.append.Given as goal

abbrev pub invariant-terms : goal.invariant-terms
invariant-terms l = l.found ≡ l.fn.found ++ l.yielded

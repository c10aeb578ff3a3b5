use Rattle.std.proofs.Common.{◌≡◌, ◌++◌, take}
use Rattle.acc_forms.proofs.terms.push_all.Given as goal

abbrev pub invariant-literals : goal.invariant-literals
invariant-literals l = l.all ≡ l.fn.all ++ take l.literal-index l.literal-items

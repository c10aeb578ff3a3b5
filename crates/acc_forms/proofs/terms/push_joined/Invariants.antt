use Rattle.std.proofs.Common.{◌≡◌, ◌++◌, take, map}
use Rattle.acc_forms.proofs.terms.push_joined.Given as goal

abbrev pub invariant-seconds : goal.invariant-seconds
invariant-seconds l = l.found ≡ l.fn.found ++ map (λ second. l.first ++ second) (take l.second-index l.second-items)

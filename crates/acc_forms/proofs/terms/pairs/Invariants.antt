use Rattle.std.proofs.Common.{◌≡◌, take}
use Rattle.acc_forms.specs.Terms.{pairs}
use Rattle.acc_forms.proofs.terms.pairs.Given as goal

abbrev pub invariant-firsts : goal.invariant-firsts
invariant-firsts l = l.found ≡ pairs (take l.first-index l.first-items) l.seconds

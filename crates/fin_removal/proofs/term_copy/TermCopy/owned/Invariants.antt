use Rattle.std.proofs.Common.{◌≡◌, ◌-◌, false, map}
use Rattle.std.specs.List.{range_with_len}
use Rattle.acc_forms.specs.declared.literal.Literal.TheVariants.{Inf}
use Rattle.fin_removal.proofs.term_copy.TermCopy.owned.Given as goal

abbrev pub invariant-sets : goal.invariant-sets
invariant-sets l = l.sets ≡ map (λ set. Inf set false) (range_with_len l.self.first (l.set - l.self.first))

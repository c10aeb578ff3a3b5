use Rattle.std.proofs.Common.{◌≡◌, ◌∷◌, None, Some, map}
use Rattle.degeneralise.proofs.watches.copy_watches.Given as goal

abbrev pub invariant-copies : goal.invariant-copies
invariant-copies l = l.found ≡ None ∷ map (λ sets. Some sets) l.yielded

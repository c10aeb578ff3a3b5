use Rattle.std.proofs.Common.{◌≡◌, ◌++◌, drop, map}
use Rattle.filter_plan.proofs.file.add_all.Given as goal

abbrev pub invariant-names : goal.invariant-names
invariant-names l = l.files ++ map (λ t. t.now) (drop l.name-index l.names) ≡ l.initial.files ++ map (λ t. t.now) l.names

use Rattle.std.proofs.Common.{Contains, take}
use Rattle.std.specs.List.{AllByRecursion}
use Rattle.word_syntax.proofs.over.holds_only.Given as goal

abbrev pub invariant-names : goal.invariant-names
invariant-names l = AllByRecursion (λ name. Contains l.names name) (take l.name-index l.name-items)

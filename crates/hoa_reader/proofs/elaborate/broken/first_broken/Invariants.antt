use Rattle.std.proofs.Common.{◌≡◌, true, take}
use Rattle.std.specs.List.{AllByRecursion}
use Rattle.hoa_parser.specs.Raw.{written}
use Rattle.hoa_reader.specs.Validity.{keeps_rule, rules}
use Rattle.hoa_reader.proofs.elaborate.broken.first_broken.Given as goal

abbrev pub invariant-rules : goal.invariant-rules
invariant-rules l = AllByRecursion (λ rule. keeps_rule rule (written l.raw) ≡ true) (take l.rule-index rules)

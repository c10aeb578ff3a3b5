use Rattle.std.proofs.Common.{◌≡◌, not, drop}
use Rattle.std.specs.List.{list_all}
use Rattle.hoa_reader.specs.Validity.{begins_with_capital}
use Rattle.hoa_reader.proofs.elaborate.rules.none_begins_with_capital.Given as goal

abbrev pub invariant-names : goal.invariant-names
invariant-names l = list_all (λ name. not (begins_with_capital name)) (drop l.name-index l.names) ≡ list_all (λ name. not (begins_with_capital name)) l.names

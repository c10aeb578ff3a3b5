-- The names so far are written.
use Rattle.std.proofs.Common.{◌≡◌, ◌++◌, take}
use Rattle.std.specs.List.{flat_map}
use Rattle.std.specs.Prelude.{codes}
use Rattle.hoa_writer.specs.CanonicalText.{quoted}
use Rattle.hoa_writer.proofs.write.push_names.Given as goal

abbrev pub invariant-names : goal.invariant-names
invariant-names l = l.out ≡ l.initial.out ++ flat_map (λ name. codes " " ++ quoted name) (take l.name-index l.names)

use Rattle.std.proofs.Common.{◌≡◌, map, drop}
use Rattle.std.specs.List.{list_all}
use Rattle.hoa_reader.specs.inner.PickedOut.{alias_def}
use Rattle.hoa_reader.specs.Validity.{AliasLine, props_below}
use Rattle.hoa_reader.proofs.elaborate.leaves.aliases_props_below.Given as goal

abbrev pub invariant-defs : goal.invariant-defs
invariant-defs l = list_all (λ (line : AliasLine). props_below l.names line.label) (map alias_def (drop l.def-index l.defs)) ≡ list_all (λ (line : AliasLine). props_below l.names line.label)
    (map alias_def l.defs)

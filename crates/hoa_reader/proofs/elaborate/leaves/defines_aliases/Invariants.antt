use Rattle.std.proofs.Common.{◌≡◌, map, drop}
use Rattle.std.specs.List.{list_all}
use Rattle.hoa_reader.specs.inner.PickedOut.{alias_def, label_refs, line_names}
use Rattle.hoa_reader.specs.Validity.{aliases_among}
use Rattle.hoa_reader.proofs.elaborate.leaves.defines_aliases.Given as goal

abbrev pub invariant-labels : goal.invariant-labels
invariant-labels l = let F = list_all (aliases_among (line_names (map alias_def l.defs))) in F (map label_refs (drop l.label-index l.labels)) ≡ F (map label_refs l.labels)

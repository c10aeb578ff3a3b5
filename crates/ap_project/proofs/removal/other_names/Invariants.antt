use Rattle.std.proofs.Common.{◌≡◌, take}
use Rattle.ap_project.specs.Hiding.{names_without}
use Rattle.ap_project.proofs.removal.other_names.Given as goal

abbrev pub invariant-names : goal.invariant-names
invariant-names l = l.others ≡ names_without l.name (take l.other-index l.names)

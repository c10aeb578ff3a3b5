use Rattle.std.proofs.Common.{take}
use Rattle.ap_project.specs.inner.HiddenGuards.{ArePlacesOfNames}
use Rattle.ap_project.proofs.removal.places_among.Given as goal

abbrev pub invariant-names : goal.invariant-names
invariant-names l = ArePlacesOfNames (take l.name-index l.names) l.others l.to

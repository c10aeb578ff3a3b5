use Rattle.aut_core.proofs.OtherNames.{IsPlaced}
use Rattle.aut_core.proofs.over.places_in.Given as goal

abbrev pub invariant-names : goal.invariant-names
invariant-names l = IsPlaced l.names l.other l.to l.name-index

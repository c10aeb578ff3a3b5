use Rattle.aut_base.proofs.words.Texts.{NotBefore}
use Rattle.aut_base.proofs.names.place_of.Given as goal

abbrev pub invariant-places : goal.invariant-places
invariant-places l = NotBefore l.items l.name l.place

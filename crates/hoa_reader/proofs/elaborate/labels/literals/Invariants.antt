use Rattle.std.proofs.Common.{◌≡◌, map}
use Rattle.aut_base.specs.Label.{label_list}
use Rattle.hoa_reader.specs.Described.{below, literal}
use Rattle.hoa_reader.proofs.elaborate.labels.literals.Given as goal

abbrev pub invariant-places : goal.invariant-places
invariant-places l = label_list l.labels ≡ map (literal l.letter) (below l.place)

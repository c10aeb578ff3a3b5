use Rattle.std.proofs.Common.{◌≡◌, flat_map, take}
use Rattle.aut_base.specs.Formula.{formula_list}
use Rattle.degeneralise.specs.Buchi.{inf_literals}
use Rattle.degeneralise.proofs.generalised.literals_of.Given as goal

abbrev pub invariant-parts : goal.invariant-parts
invariant-parts l = l.found ≡ flat_map inf_literals (take l.place (formula_list l.parts))

use Rattle.std.proofs.Common.{◌≡◌, drop}
use Rattle.std.specs.List.{list_all}
use Rattle.aut_base.specs.Formula.{formula_list}
use Rattle.degeneralise.specs.inner.Parts.{is_inf_atom}
use Rattle.degeneralise.proofs.generalised.are_infs.Given as goal

abbrev pub invariant-parts : goal.invariant-parts
invariant-parts l = list_all is_inf_atom (drop l.place (formula_list l.parts)) ≡ list_all is_inf_atom (formula_list l.parts)

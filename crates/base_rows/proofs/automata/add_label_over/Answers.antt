use Rattle.std.proofs.Common.{List, ℕ, All, Contains, subst}
use Rattle.base_rows.proofs.automata.add_label_over.Goals as goal

pub over-requires-clause-has : goal.over-requires-clause-has
over-requires-clause-has c = subst (λ (ns : List (List ℕ)). All (Contains c.in-Ok.names) ns) c.names.ensures c.in-Ok.ensures.both.second

use Rattle.std.proofs.Common.{◌∙◌, ap}
use Rattle.aut_core.specs.SymbolicAutomata.{automaton_of}
use Rattle.aut_core.specs.OtherNames.{joined_names, over_names}
use Rattle.aut_ops.specs.Sums.{side_by_side}
use Rattle.aut_ops.proofs.sums.sum.Goals as goal

pub returns-clause-shape : goal.returns-clause-shape
returns-clause-shape c =
    let names = c.in_ok-names.ensures.joined ∙ (λ i. joined_names (c.names.ensures i) (c.names-2.ensures i)) in
    c.in_ok-sum_over.ensures.shape ∙ ap (λ ns. side_by_side (over_names ns (automaton_of c.args.a.now)) (over_names ns (automaton_of c.args.b.now))) names

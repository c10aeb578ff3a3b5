use Rattle.std.proofs.Common.{◌≡◌, map, rules}
use Rattle.graph_walk.specs.inner.Marks.{component_number}
use Rattle.graph_walk.proofs.NumberLemmas.{are_components}
use Rattle.graph_walk.proofs.numbered.components.Goals as goal

pub returns : goal.returns
returns c =
    let pass = c.in_ok-marks.field-0 in
    let are : c.in_ok-numbers.numbers.items ≡ map component_number pass.marks.items = search rules in
    rw c.from_vec.ensures (are_components c.args.graph.now.nodes c.args.graph.now.arcs pass c.in_ok-numbers.numbers.items c.in_ok-marks.ensures.idle c.in_ok-marks.ensures.entered are)

use Rattle.std.proofs.Common.{◌∙◌, map}
use Rattle.std.proofs.lemmas.Result.{on_ok_weaker}
use Rattle.aut_core.specs.SymbolicAutomata.{edge_of}
use Rattle.aut_ops.proofs.sinks.FilledStates.{both_rows, gap_is, with_gap, without_gap}
use Rattle.aut_ops.proofs.completion.fill_state.Goals as goal

pub returns-then-is_false-clause-filled : goal.returns-then-is_false-clause-filled
returns-then-is_false-clause-filled c =
    let es = map (edge_of c.args.guards.now) c.args.row.now in
    let never = gap_is c.gap_of.new.guards c.in_ok-gap.gap c.args.guards.now.names es c.is_false.result c.is_false.ensures.valuations c.gap_of.ensures.keeps.names c.in_ok-gap.ensures.label
    ∙ c.if-is_false.true in
    without_gap c.gap_of.new.guards c.push_links.new.links c.args.guards.now.names c.args.state c.args.sink (map (edge_of c.args.guards.now) c.args.links.now) es never
    (both_rows c.args.guards.now c.gap_of.new.guards c.args.links.now c.args.row.now c.push_links.new.links c.gap_of.ensures.keeps c.requires.links c.requires.row c.in_ok-push_links.ensures)

pub returns-clause-filled : goal.returns-clause-filled
returns-clause-filled c =
    let es = map (edge_of c.args.guards.now) c.args.row.now in
    let some = gap_is c.gap_of.new.guards c.in_ok-gap.gap c.args.guards.now.names es c.is_false.result c.is_false.ensures.valuations c.gap_of.ensures.keeps.names c.in_ok-gap.ensures.label
    ∙ c.if-is_false.false in
    let so_far = both_rows c.args.guards.now c.gap_of.new.guards c.args.links.now c.args.row.now c.push_links.new.links c.gap_of.ensures.keeps c.requires.links c.requires.row
    c.in_ok-push_links.ensures in
    on_ok_weaker c.push.result (λ pushed. with_gap c.gap_of.new.guards c.push_links.new.links c.push.new.self c.in_ok-gap.gap c.args.guards.now.names c.args.state c.args.sink c.new.result
    (map (edge_of c.args.guards.now) c.args.links.now) es some so_far c.in_ok-gap.ensures.has c.in_ok-gap.ensures.label c.new.ensures pushed) c.push.ensures.ok

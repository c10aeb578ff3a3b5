use Rattle.std.proofs.Common.{◌∙◌, ap}
use Rattle.std.proofs.lemmas.Result.{IfOk-weaker}
use Rattle.aut_core.specs.SymbolicAutomata.{automaton_of}
use Rattle.aut_ops.proofs.sinks.Completions.{with_sink_formed}
use Rattle.aut_ops.proofs.sinks.FilledStates.{sunk}
use Rattle.aut_ops.proofs.links.Linked.{parts_for}
use Rattle.aut_ops.specs.Completion.{with_sink}
use Rattle.aut_ops.proofs.completion.complete_with_sink.Goals as goal

pub from_parts-requires : goal.from_parts-requires
from_parts-requires c =
    let made = sunk c.args.a.now c.in_ok-guards.guards c.filled_links.new.guards c.in_ok-names.names c.starts.result.now c.in_ok-starts.starts c.states-sink.result c.in_ok-marks.field-0.sets
    c.in_ok-links.links c.push.new.self c.always.result c.in_ok-marks.field-0.marks _ c.well_formedness.ensures (c.in_ok-guards.ensures ∙ c.guards.ensures) c.states-sink.ensures
    (c.in_ok-names.ensures ∙ c.names.ensures) c.starts.ensures c.in_ok-starts.ensures c.filled_links.ensures.names c.in_ok-links.ensures.links c.always.ensures
    c.in_ok-marks.ensures.marks c.in_ok-push.ensures.ok c.in_ok-marks.ensures.sets c.in_ok-marks.ensures.formula in
    parts_for _ (with_sink (automaton_of c.args.a.now)) made.is (with_sink_formed (automaton_of c.args.a.now) c.well_formedness.ensures.well_formed) c.well_formedness.ensures.parts.few
    made.names made.has

pub returns : goal.returns
returns c =
    let made = sunk c.args.a.now c.in_ok-guards.guards c.filled_links.new.guards c.in_ok-names.names c.starts.result.now c.in_ok-starts.starts c.states-sink.result c.in_ok-marks.field-0.sets
    c.in_ok-links.links c.push.new.self c.always.result c.in_ok-marks.field-0.marks _ c.well_formedness.ensures (c.in_ok-guards.ensures ∙ c.guards.ensures) c.states-sink.ensures
    (c.in_ok-names.ensures ∙ c.names.ensures) c.starts.ensures c.in_ok-starts.ensures c.filled_links.ensures.names c.in_ok-links.ensures.links c.always.ensures
    c.in_ok-marks.ensures.marks c.in_ok-push.ensures.ok c.in_ok-marks.ensures.sets c.in_ok-marks.ensures.formula in
    IfOk-weaker c.from_parts.result _ _ (λ core e. ap automaton_of e ∙ made.is) c.from_parts.ensures

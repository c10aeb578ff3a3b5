use Rattle.std.proofs.Common.{subst}
use Rattle.aut_core.proofs.Growth.{keeps_on}
use Rattle.aut_ops.proofs.sinks.FilledStates.{row_have, state_more}
use Rattle.label_guards.specs.Store.{Keeps, Store}
use Rattle.aut_ops.proofs.completion.filled_links.Goals as goal

pub fill_state-requires-clause-row : goal.fill_state-requires-clause-row
fill_state-requires-clause-row c =
    let keeps = subst (λ (s : Store). Keeps s c.states.guards) c.requires c.states.invariant.keeps in
    row_have c.args.a.now c.states.guards c.states.state c.links_of.result.now c.well_formedness.ensures keeps c.links_of.ensures

pub states-preserved : goal.states-preserved
states-preserved c =
    let keeps = subst (λ (s : Store). Keeps s c.states.guards) c.requires c.states.invariant.keeps in
    record {
      keeps = keeps_on c.states.invariant.keeps c.fill_state.ensures.keeps;
      links = state_more c.args.a.now c.states.guards c.fill_state.new.guards c.states.links c.fill_state.new.links c.links_of.result.now c.states.state c.states-in-states.result
          c.states-in-states.ensures c.well_formedness.ensures keeps c.links_of.ensures c.states.invariant.links c.in_ok-fill_state.ensures.filled;
    }

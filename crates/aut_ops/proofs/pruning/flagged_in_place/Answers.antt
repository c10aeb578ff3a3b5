use Rattle.std.proofs.Common.{◌∙◌, ap, filter}
use Rattle.std.proofs.lemmas.Result.{IfOk-weaker}
use Rattle.aut_core.specs.SymbolicAutomata.{automaton_of}
use Rattle.aut_ops.proofs.flagged.Alone.{kept_alone}
use Rattle.aut_ops.specs.Satisfiable.{is_flagged}
use Rattle.aut_ops.proofs.pruning.flagged_in_place.Goals as goal

pub with_states-requires : goal.with_states-requires
with_states-requires c = (kept_alone c.args.a.now c.args.flags.now c.in_ok-starts.starts c.states.result c.in_ok-links.links c.well_formedness.ensures
    (c.in_ok-starts.ensures ∙ ap (filter (is_flagged c.args.flags.now)) (c.as_slice.ensures ∙ c.starts.ensures)) c.states.ensures c.in_ok-links.ensures).parts

pub returns : goal.returns
returns c =
    let made = kept_alone c.args.a.now c.args.flags.now c.in_ok-starts.starts c.states.result c.in_ok-links.links c.well_formedness.ensures
    (c.in_ok-starts.ensures ∙ ap (filter (is_flagged c.args.flags.now)) (c.as_slice.ensures ∙ c.starts.ensures)) c.states.ensures c.in_ok-links.ensures in
    IfOk-weaker c.with_states.result _ _ (λ core e. ap automaton_of e ∙ made.is) c.with_states.ensures

use Rattle.std.proofs.Common.{◌∙◌, ◌<◌, ap, subst, sym}
use Rattle.std.proofs.lemmas.Bool.{false≢true}
use Rattle.std.proofs.lemmas.Result.{IfOk-weaker}
use Rattle.aut_base.specs.Automaton.{Automaton}
use Rattle.aut_core.specs.SymbolicAutomata.{automaton_of}
use Rattle.aut_core.specs.Deterministic.{IsComplete, IsDeterministic}
use Rattle.aut_core.specs.OtherNames.{AcceptTheSame}
use Rattle.aut_ops.proofs.sinks.SinkStates.{completed_accepts, completed_complete, completed_deterministic, completed_other, completed_same}
use Rattle.aut_ops.proofs.completion.complete.Goals as goal

pub returns-then-is_complete-clause-shape : goal.returns-then-is_complete-clause-shape
returns-then-is_complete-clause-shape c =
    IfOk-weaker c.copy.result _ _ (λ core e. ap automaton_of e ∙ sym (completed_same (automaton_of c.args.a.now) c.well_formedness.ensures.well_formed (c.is_complete.ensures.0 c.if-is_complete.true)))
    c.copy.ensures

pub complete_with_sink-requires-clause-states : goal.complete_with_sink-requires-clause-states
complete_with_sink-requires-clause-states c =
    let other = completed_other (automaton_of c.args.a.now) c.well_formedness.ensures.well_formed (λ is. false≢true (sym c.if-is_complete.false ∙ c.is_complete.ensures.1 is)) in
    subst (λ (x : Automaton). x.states < 4294967296) other c.requires.states

pub complete_with_sink-requires-clause-sets : goal.complete_with_sink-requires-clause-sets
complete_with_sink-requires-clause-sets c =
    let other = completed_other (automaton_of c.args.a.now) c.well_formedness.ensures.well_formed (λ is. false≢true (sym c.if-is_complete.false ∙ c.is_complete.ensures.1 is)) in
    subst (λ (x : Automaton). x.sets < 4294967296) other c.requires.sets

pub returns-clause-shape : goal.returns-clause-shape
returns-clause-shape c =
    let other = completed_other (automaton_of c.args.a.now) c.well_formedness.ensures.well_formed (λ is. false≢true (sym c.if-is_complete.false ∙ c.is_complete.ensures.1 is)) in
    IfOk-weaker c.complete_with_sink.result _ _ (λ core e. e ∙ sym other) c.complete_with_sink.ensures

pub returns-clause-accepts : goal.returns-clause-accepts
returns-clause-accepts c =
    let a = automaton_of c.args.a.now in
    let other = completed_other a c.well_formedness.ensures.well_formed (λ is. false≢true (sym c.if-is_complete.false ∙ c.is_complete.ensures.1 is)) in
    IfOk-weaker c.complete_with_sink.result _ _ (λ core e. subst (λ (x : Automaton). AcceptTheSame x a) (sym (e ∙ sym other)) (completed_accepts a c.well_formedness.ensures.well_formed))
    c.complete_with_sink.ensures

pub returns-clause-complete : goal.returns-clause-complete
returns-clause-complete c =
    let a = automaton_of c.args.a.now in
    let other = completed_other a c.well_formedness.ensures.well_formed (λ is. false≢true (sym c.if-is_complete.false ∙ c.is_complete.ensures.1 is)) in
    IfOk-weaker c.complete_with_sink.result _ _ (λ core e. subst IsComplete (sym (e ∙ sym other)) (completed_complete a c.well_formedness.ensures.well_formed)) c.complete_with_sink.ensures

pub returns-clause-deterministic : goal.returns-clause-deterministic
returns-clause-deterministic c is =
    let a = automaton_of c.args.a.now in
    let other = completed_other a c.well_formedness.ensures.well_formed (λ whole. false≢true (sym c.if-is_complete.false ∙ c.is_complete.ensures.1 whole)) in
    IfOk-weaker c.complete_with_sink.result _ _ (λ core e. subst IsDeterministic (sym (e ∙ sym other)) (completed_deterministic a c.well_formedness.ensures.well_formed is))
    c.complete_with_sink.ensures

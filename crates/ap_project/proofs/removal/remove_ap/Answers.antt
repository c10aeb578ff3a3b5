use Rattle.std.proofs.Common.{◌∙◌, ap, subst, sym}
use Rattle.std.proofs.lemmas.Result.{IfOk-weaker}
use Rattle.aut_base.specs.Automaton.{Automaton}
use Rattle.aut_core.specs.SymbolicAutomata.{automaton_of}
use Rattle.ap_project.proofs.HiddenAutomata.{hidden_accepts, names_hidden, sets_hidden, states_hidden}
use Rattle.ap_project.specs.Hiding.{AcceptsHidden}
use Rattle.ap_project.proofs.removal.remove_ap.Goals as goal

pub returns-clause-accepts : goal.returns-clause-accepts
returns-clause-accepts c =
    let a = automaton_of c.args.a.now in
    IfOk-weaker c.without_name.result _ _ (λ made same. subst (λ (h : Automaton). AcceptsHidden c.args.how c.args.name.now a h) (sym same)
    (hidden_accepts c.args.how c.args.name.now a c.well_formedness.ensures.well_formed)) c.without_name.ensures

pub returns-clause-names : goal.returns-clause-names
returns-clause-names c = IfOk-weaker c.without_name.result _ _ (λ made same. ap (λ (h : Automaton). h.names) same
    ∙ names_hidden c.args.how c.args.name.now (automaton_of c.args.a.now)) c.without_name.ensures

pub returns-clause-states : goal.returns-clause-states
returns-clause-states c = IfOk-weaker c.without_name.result _ _ (λ made same. ap (λ (h : Automaton). h.states) same
    ∙ states_hidden c.args.how c.args.name.now (automaton_of c.args.a.now)) c.without_name.ensures

pub returns-clause-sets : goal.returns-clause-sets
returns-clause-sets c = IfOk-weaker c.without_name.result _ _ (λ made same. ap (λ (h : Automaton). h.sets) same
    ∙ sets_hidden c.args.how c.args.name.now (automaton_of c.args.a.now)) c.without_name.ensures

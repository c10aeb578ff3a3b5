use Rattle.std.proofs.lemmas.Result.{IfOk-weaker}
use Rattle.aut_core.specs.SymbolicAutomata.{automaton_of}
use Rattle.monitor_form.proofs.MonitorLaws.{accepts_prefixes, form_deterministic, no_limits_on}
use Rattle.monitor_form.proofs.form.monitor.Goals as goal

pub returns-clause-accepts : goal.returns-clause-accepts
returns-clause-accepts c = IfOk-weaker c.subset_form.result _ _ (λ made shape. accepts_prefixes (automaton_of c.args.a.now) (automaton_of c.in_ok-buchi.buchi) (automaton_of c.in_ok-pruned.pruned)
    (automaton_of made) c.in_ok-buchi.ensures.accepts c.in_ok-pruned.ensures.accepts c.well_formedness.ensures.well_formed c.in_ok-buchi.ensures.formula c.in_ok-pruned.ensures.shape
    c.well_formedness-2.ensures.well_formed shape) c.subset_form.ensures.shape

pub returns-clause-deterministic : goal.returns-clause-deterministic
returns-clause-deterministic c = IfOk-weaker c.subset_form.result _ _ (λ made shape. form_deterministic (automaton_of c.in_ok-pruned.pruned) (automaton_of made) c.well_formedness-2.ensures.well_formed
    shape) c.subset_form.ensures.shape

pub returns-clause-within : goal.returns-clause-within
returns-clause-within c = no_limits_on (automaton_of c.args.a.now) (automaton_of c.in_ok-buchi.buchi) (automaton_of c.in_ok-pruned.pruned) c.in_ok-buchi.ensures.shape c.in_ok-pruned.ensures.shape
    c.subset_form.result c.subset_form.ensures.shape

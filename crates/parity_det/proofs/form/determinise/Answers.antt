use Rattle.std.proofs.lemmas.Result.{IfOk-weaker}
use Rattle.aut_core.specs.SymbolicAutomata.{automaton_of}
use Rattle.parity_det.proofs.ParityLaws.{determinisation_excludes, form_accepts, form_few, form_parity, on_ok_from, pruned_formula, same_through}
use Rattle.parity_det.proofs.form.determinise.Goals as goal

pub returns-clause-accepts : goal.returns-clause-accepts
returns-clause-accepts c =
    let b = automaton_of c.args.b.now in
    let pruned = automaton_of c.in_ok-pruned.pruned in
    IfOk-weaker c.tree_form.result _ _ (λ made form. same_through (automaton_of made) pruned b
    (form_accepts pruned (automaton_of made) c.well_formedness-2.ensures.well_formed (pruned_formula b pruned c.in_ok-pruned.ensures.shape c.requires.formula) form) c.in_ok-pruned.ensures.accepts)
    c.tree_form.ensures.shape

pub returns-clause-shape : goal.returns-clause-shape
returns-clause-shape c = IfOk-weaker c.tree_form.result _ _ (λ made form. (automaton_of c.in_ok-pruned.pruned, c.in_ok-pruned.ensures.shape, form))
    c.tree_form.ensures.shape

pub returns-clause-parity : goal.returns-clause-parity
returns-clause-parity c = IfOk-weaker c.tree_form.result _ _ (λ made form. form_parity (automaton_of c.in_ok-pruned.pruned) (automaton_of made) form) c.tree_form.ensures.shape

pub returns-clause-few : goal.returns-clause-few
returns-clause-few c = IfOk-weaker c.tree_form.result _ _ (λ made form. form_few (automaton_of c.args.b.now) (automaton_of c.in_ok-pruned.pruned) (automaton_of made) c.in_ok-pruned.ensures.shape form)
    c.tree_form.ensures.shape

pub returns-clause-within : goal.returns-clause-within
returns-clause-within c =
    let b = automaton_of c.args.b.now in
    on_ok_from c.tree_form.result _ _ (λ made form f. determinisation_excludes b (automaton_of made) f
    (automaton_of c.in_ok-pruned.pruned, c.in_ok-pruned.ensures.shape, form)) c.tree_form.ensures.shape

pub returns-clause-only_trees : goal.returns-clause-only_trees
returns-clause-only_trees c = λ e. (automaton_of c.in_ok-pruned.pruned, c.in_ok-pruned.ensures.shape, c.tree_form.ensures.trees e)

pub returns-clause-only_nodes : goal.returns-clause-only_nodes
returns-clause-only_nodes c = λ e. (automaton_of c.in_ok-pruned.pruned, c.in_ok-pruned.ensures.shape, c.tree_form.ensures.nodes e)

pub returns-clause-only_classes : goal.returns-clause-only_classes
returns-clause-only_classes c = λ e. (automaton_of c.in_ok-pruned.pruned, c.in_ok-pruned.ensures.shape, c.tree_form.ensures.classes e)

use Rattle.std.proofs.Common.{◌∙◌, ap}
use Rattle.std.proofs.lemmas.Result.{IfOk-weaker}
use Rattle.aut_base.proofs.trees.FormulaTrees.{formula_tree-True}
use Rattle.aut_core.specs.SymbolicAutomata.{automaton_of}
use Rattle.monitor_form.proofs.Built.{made_monitor, made_parts}
use Rattle.monitor_form.proofs.form.built.Goals as goal

pub class_form-requires-clause-parts : goal.class_form-requires-clause-parts
class_form-requires-clause-parts c =
    made_parts c.args.b.now c.well_formedness.ensures c.args.guards c.requires.keeps c.args.found.now.states.items c.args.found.now.edges.items c.requires.explored c.requires.sound _ formula_tree-True

pub returns : goal.returns
returns c =
    let is = made_monitor c.args.b.now c.well_formedness.ensures c.args.guards c.requires.keeps c.args.found.now.states.items c.args.found.now.edges.items c.requires.explored c.requires.sound _
    formula_tree-True c.requires.some in
    IfOk-weaker c.class_form.result _ _ (λ core e. ap automaton_of e ∙ is) c.class_form.ensures

use Rattle.std.proofs.Common.{◌≡◌, ◌∙◌, ◌++◌, ℕ, List, [], ◌∷◌, ap, length, map, subst, sym}
use Rattle.std.proofs.lemmas.Result.{IfOk-weaker}
use Rattle.aut_base.specs.Formula.{formula_tree}
use Rattle.aut_core.specs.SymbolicAutomata.{AreSymbolicParts, SymbolicAutomaton}
use Rattle.letter_classes.specs.ClassForms.{form_of, link_of}
use Rattle.letter_classes.proofs.form.class_form.Given.{Over}
use Rattle.letter_classes.proofs.form.class_form.Goals.{After-len}
use Rattle.letter_classes.proofs.form.class_form.Goals as goal

-- the parts that are passed to `from_parts`
abbrev core : (g : Over) → After-len g → SymbolicAutomaton
core g c = record {
  names = c.in_ok-names.names;
  starts = c.push.new.self;
  states = c.len.result;
  links = c.in_ok-links.links;
  sets = c.args.sets;
  formula = formula_tree c.args.formula;
  store = c.args.guards;
}

core_is : (g : Over) (c : After-len g) → core g c ≡ form_of c.args.b.now c.args.guards (length c.args.found.now.states.items)
    (map (link_of (g.M.Marking.marked c.args.marking.now)) c.args.found.now.edges.items) c.args.sets (formula_tree c.args.formula)
core_is g c = λ j. record {
  names = (c.in_ok-names.ensures ∙ c.names.ensures) j;
  starts = (c.in_ok-push.ensures.ok ∙ ap (λ (xs : List ℕ). xs ++ 0 ∷ []) c.new-starts.ensures) j;
  states = (c.len.ensures ∙ c.args.found.now.states.ok.0) j;
  links = (c.in_ok-links.ensures ∙ ap (map (link_of (g.M.Marking.marked c.args.marking.now))) c.as_slice.ensures.value) j;
  sets = c.args.sets;
  formula = formula_tree c.args.formula;
  store = c.args.guards;
}

pub from_parts-requires : goal.from_parts-requires
from_parts-requires g c = subst AreSymbolicParts (sym (core_is g (goal.at.from_parts-requires g c).After-len)) c.requires.parts

pub returns : goal.returns
returns g c = IfOk-weaker c.from_parts.result _ _ (λ made e. e ∙ core_is g (goal.at.returns g c).After-len) c.from_parts.ensures

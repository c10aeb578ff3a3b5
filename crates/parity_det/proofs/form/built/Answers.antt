use Rattle.std.proofs.Common.{◌≡◌, ◌∙◌, ◌+◌, ◌<◌, ◌^◌, ℕ, All, List, [], ◌∷◌, ap, arith, length, map, subst, sym}
use Rattle.std.proofs.lemmas.List.{length-map}
use Rattle.std.proofs.lemmas.Result.{IfOk-weaker}
use Rattle.acc_forms.specs.Parity.{parity_min_odd}
use Rattle.aut_base.specs.Formula.{formula_tree}
use Rattle.aut_core.specs.SymbolicAutomata.{AreSymbolicParts, SymbolicAutomaton, automaton_of}
use Rattle.letter_classes.specs.ClassForms.{form_of, link_of}
use Rattle.parity_det.proofs.Built.{are_parts, few_found, is_made, made, marks_fit}
use Rattle.parity_det.specs.Determinisation.{width}
use Rattle.parity_det.specs.inner.Systems.{mark_of}
use Rattle.safra_trees.specs.View.{packed_tree}
use Rattle.safra_trees.specs.declared.packed.PackedTree.{PackedTree}
use Rattle.parity_det.proofs.form.built.Goals.{After-width-most, In_ok-formula}
use Rattle.parity_det.proofs.form.built.Goals as goal

-- the width of the trees
most_is : (c : After-width-most) → c.width-most.result ≡ width (map packed_tree c.args.found.now.states.items)
most_is c = c.width-most.ensures ∙ ap (λ (ts : List PackedTree). width (map packed_tree ts)) c.as_slice.ensures.value

-- the parts that the automaton is made from
abbrev core : (c : In_ok-formula) → SymbolicAutomaton
core c = form_of c.args.b.now c.args.guards (length c.args.found.now.states.items) (map (link_of (λ event. mark_of c.width-most.result event ∷ [])) c.args.found.now.edges.items)
    (c.width-most.result + c.width-most.result + 1) (formula_tree c.in_ok-formula.formula)

core_is : (c : In_ok-formula) → core c ≡ made c.args.b.now c.well_formedness.ensures c.args.guards c.requires.keeps (map packed_tree c.args.found.now.states.items) c.args.found.now.edges.items
    c.requires.explored c.requires.sound
core_is c =
    let most = c.width-most.ensures ∙ ap (λ (ts : List PackedTree). width (map packed_tree ts)) c.as_slice.ensures.value in
    let size = sym (length-map c.args.found.now.states.items packed_tree) in
    let formula = c.in_ok-formula.ensures.tree ∙ ap (λ (m : ℕ). parity_min_odd (m + m + 1)) most in
    λ j. form_of c.args.b.now c.args.guards (size j) (map (link_of (λ event. mark_of (most j) event ∷ [])) c.args.found.now.edges.items) (most j + most j + 1) (formula j)

pub class_form-requires-clause-few : goal.class_form-requires-clause-few
class_form-requires-clause-few c =
    let few = c.requires.sound.few in
    let size = length-map c.args.found.now.states.items packed_tree in
    omega (arith, few, size)

pub class_form-requires-clause-notes : goal.class_form-requires-clause-notes
class_form-requires-clause-notes c =
    let most = most_is (goal.at.class_form-requires-clause-notes c).After-width-most in
    subst (λ (m : ℕ). All (λ e. mark_of m e.output < 2 ^ 32) c.args.found.now.edges.items) (sym most)
    (marks_fit c.args.b.now c.well_formedness.ensures c.args.guards c.requires.keeps (map packed_tree c.args.found.now.states.items) c.args.found.now.edges.items c.requires.explored c.requires.sound)

pub class_form-requires-clause-parts : goal.class_form-requires-clause-parts
class_form-requires-clause-parts c = subst AreSymbolicParts (sym (core_is (goal.at.class_form-requires-clause-parts c).In_ok-formula)) (are_parts c.args.b.now c.well_formedness.ensures c.args.guards
    c.requires.keeps (map packed_tree c.args.found.now.states.items) c.args.found.now.edges.items c.requires.explored c.requires.sound)

pub overflow_add-sets : goal.overflow_add-sets
overflow_add-sets c =
    let most = most_is (goal.at.overflow_add-sets c).After-width-most in
    let few = few_found c.args.b.now c.well_formedness.ensures c.args.guards c.requires.keeps (map packed_tree c.args.found.now.states.items) c.args.found.now.edges.items c.requires.explored
    c.requires.sound in
    omega (arith, few, most)

pub overflow_add-sets-2 : goal.overflow_add-sets-2
overflow_add-sets-2 c =
    let most = most_is (goal.at.overflow_add-sets-2 c).After-width-most in
    let few = few_found c.args.b.now c.well_formedness.ensures c.args.guards c.requires.keeps (map packed_tree c.args.found.now.states.items) c.args.found.now.edges.items c.requires.explored
    c.requires.sound in
    omega (arith, few, most)

pub parity_min_odd-requires-clause-most : goal.parity_min_odd-requires-clause-most
parity_min_odd-requires-clause-most c =
    let most = most_is (goal.at.parity_min_odd-requires-clause-most c).After-width-most in
    let few = few_found c.args.b.now c.well_formedness.ensures c.args.guards c.requires.keeps (map packed_tree c.args.found.now.states.items) c.args.found.now.edges.items c.requires.explored
    c.requires.sound in
    omega (arith, few, most)

pub returns-clause-is : goal.returns-clause-is
returns-clause-is c = IfOk-weaker c.class_form.result _ _ (λ core e. ap automaton_of (e ∙ core_is (goal.at.returns-clause-is c).In_ok-formula)
    ∙ is_made c.args.b.now c.well_formedness.ensures c.args.guards
    c.requires.keeps (map packed_tree c.args.found.now.states.items) c.args.found.now.edges.items c.requires.explored c.requires.sound) c.class_form.ensures

pub returns-clause-few : goal.returns-clause-few
returns-clause-few c =
    let most = most_is (goal.at.returns-clause-few c).After-width-most in
    let few = few_found c.args.b.now c.well_formedness.ensures c.args.guards c.requires.keeps (map packed_tree c.args.found.now.states.items) c.args.found.now.edges.items c.requires.explored
    c.requires.sound in
    IfOk-weaker c.class_form.result _ _ (λ core e. (let sets = ap (λ (k : SymbolicAutomaton). k.sets) e in omega (arith, few, most, sets))) c.class_form.ensures

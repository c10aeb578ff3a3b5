use Rattle.std.proofs.Common.{◌≡◌, ◌≢◌, ◌∙◌, ℕ, List, All, AllPairs, Contains, ap, subst, sym}
use Rattle.aut_base.specs.Formula.{FormulaTree, formula_tree}
use Rattle.aut_core.specs.SymbolicAutomata.{SymbolicAutomaton, automaton_of}
use Rattle.aut_core.specs.Kept.{IsIndexed}
use Rattle.aut_core.specs.Links.{StandFor}
use Rattle.aut_core.specs.OtherNames.{over_names}
use Rattle.aut_core.specs.declared.automaton.Fields.{Fields}
use Rattle.aut_core.proofs.OtherNames.{AreAmong}
use Rattle.aut_core.proofs.Relabelled.{kept_over}
use Rattle.aut_core.proofs.automaton.Automaton.relabelled.Goals as goal

pub invariant_of-result : goal.invariant_of-result
invariant_of-result c =
    let own = c.self.inside.fields.value in
    let core : Fields → FormulaTree → SymbolicAutomaton = λ f t. record { names = f.names; starts = f.starts; states = f.states; links = f.links; sets = f.sets; formula = t; store = f.guards } in
    let old : SymbolicAutomaton = core own (formula_tree own.formula) in
    let among : AreAmong old.names c.args.names = record {
      differ = subst (λ (ns : List (List ℕ)). AllPairs (λ a b. a ≢ b) ns) c.names.view_is c.names.invariant;
      has = subst (λ (k : SymbolicAutomaton). All (Contains c.args.names) k.names) (sym c.self.view_is) c.requires.has;
    } in
    let stand : StandFor c.args.guards c.args.links (over_names c.args.names (automaton_of old)).edges =
    subst (λ (k : SymbolicAutomaton). StandFor c.args.guards c.args.links (over_names c.args.names (automaton_of k)).edges) (sym c.self.view_is) c.requires.edges in
    let new : Fields = record own { names = c.args.names; guards = c.args.guards; links = c.args.links; formula = c.in_ok-copy.field-0 } in
    let formula : formula_tree c.in_ok-copy.field-0 ≡ formula_tree own.formula = c.in_ok-copy.ensures ∙ ap (λ (f : Fields). formula_tree f.formula) c.deref-3.ensures in
    let kept : IsIndexed (core new (formula_tree new.formula)) own.rows own.is_deterministic own.is_complete =
    subst (λ (t : FormulaTree). IsIndexed (core new t) own.rows own.is_deterministic own.is_complete) (sym formula)
    (kept_over old c.args.names c.args.guards c.args.links own.rows own.is_deterministic own.is_complete among c.requires.few c.requires.count stand c.self.invariant) in
    let is : c.in_ok-new.field-0.value ≡ new = c.in_ok-new.ensures.ok ∙ (λ i. record new {
      starts = (c.in_ok-copy_numbers.ensures ∙ ap (λ (f : Fields). f.starts) c.deref.ensures) i;
      rows = (c.in_ok-copy_places.ensures ∙ ap (λ (f : Fields). f.rows) c.deref-2.ensures) i;
      states = (c.deref-4.ensures i).states;
      sets = (c.deref-5.ensures i).sets;
      is_deterministic = (c.deref-6.ensures i).is_deterministic;
      is_complete = (c.deref-7.ensures i).is_complete;
    }) in
    subst (λ (f : Fields). IsIndexed (core f (formula_tree f.formula)) f.rows f.is_deterministic f.is_complete) (sym is) kept

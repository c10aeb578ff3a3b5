use Rattle.std.proofs.Common.{◌∙◌, ◌*◌, ap, false, map, refl}
use Rattle.std.proofs.lemmas.Result.{IfOk-weaker}
use Rattle.aut_base.proofs.trees.FormulaTrees.{formula_tree-Inf}
use Rattle.aut_base.specs.Formula.{formula_tree}
use Rattle.aut_base.specs.declared.formula.Formula.TheVariants.{Inf}
use Rattle.aut_core.specs.SymbolicAutomata.{SymbolicAutomaton, automaton_of}
use Rattle.degeneralise.specs.Buchi.{watch_of}
use Rattle.degeneralise.specs.inner.Parts.{state_at}
use Rattle.degeneralise.proofs.LevelSteps.{AreLevelledParts, are_levelled, levelled_parts}
use Rattle.degeneralise.proofs.WatchLists.{room_of}
use Rattle.degeneralise.proofs.buchi.put_on_levels.Goals.{After-states}
use Rattle.degeneralise.proofs.buchi.put_on_levels.Goals as goal

-- the parts that the automaton with counters is made from
abbrev new : After-states → SymbolicAutomaton
new c = record {
  names = c.in_ok-copy_names.field-0;
  starts = c.in_ok-starts.starts;
  states = c.states.result * c.args.k;
  links = c.in_ok-links.links;
  sets = 1;
  formula = formula_tree (Inf 0 false);
  store = c.in_ok-copy.field-0;
}

are : (c : After-states) → AreLevelledParts c.args.k (watch_of c.args.states c.args.watches.now) c.args.a.now (new c)
are c = record {
  names = c.in_ok-copy_names.ensures ∙ c.names.ensures;
  starts = c.in_ok-starts.ensures ∙ ap (map (λ start. state_at c.args.k start 0)) c.starts.ensures;
  states = ap (λ n. n * c.args.k) c.states.ensures;
  store = c.in_ok-copy.ensures ∙ c.guards.ensures;
  has = c.in_ok-links.ensures.has;
  edges = c.in_ok-links.ensures.edges;
  sets = refl;
  formula = formula_tree-Inf 0 false;
}

pub from_parts-requires : goal.from_parts-requires
from_parts-requires c =
    let at = (goal.at.from_parts-requires c).After-states in
    let room = room_of c.args.k c.args.states c.args.watches.now c.requires.some c.requires.room in
    levelled_parts c.args.k (watch_of c.args.states c.args.watches.now) c.args.a.now (new at) c.well_formedness.ensures room (are at)

pub returns : goal.returns
returns c =
    let at = (goal.at.returns c).After-states in
    let same = are_levelled c.args.k (watch_of c.args.states c.args.watches.now) c.args.a.now (new at) (are at) in
    IfOk-weaker c.from_parts.result _ _ (λ made e. ap automaton_of e ∙ same) c.from_parts.ensures

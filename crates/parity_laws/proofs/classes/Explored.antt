-- An automaton that is explored class by class is determinised.
use Rattle.std.proofs.Common.{◌<◌, ℕ, true, List, ap, arith, length, refl}
use Rattle.aut_base.proofs.lists.Members.{each_there}
use Rattle.aut_base.specs.Automaton.{Automaton, LabelledEdge}
use Rattle.aut_core.proofs.Deterministic.{deterministic_if}
use Rattle.aut_core.specs.Deterministic.{IsComplete, IsDeterministic}
use Rattle.aut_core.specs.Surveys.{AreAllApart, edges_from}
use Rattle.safra_trees.specs.Trees.{Node}
use Rattle.parity_laws.proofs.classes.Expanded.{edges_apart, goes_on, step_edge}
use Rattle.parity_laws.specs.Explored.{ExploredIsDeterminised, IsTreeExploration}

module _ (b d : Automaton) (trees : List (List Node)) (most : ℕ) (explored : IsTreeExploration b d trees most) where
  deterministic : IsDeterministic d
  deterministic =
      let states = explored.states in
      let starts = ap length explored.starts in
      let within = each_there (λ (e : LabelledEdge). e.from < d.states) d.edges (λ e there. omega (arith, states, explored.from e there)) in
      let apart : (q : ℕ) → q < d.states → AreAllApart d.names (edges_from q d.edges) = λ q less.
      edges_apart b d trees most q (explored.expanded q (omega (arith, states, less))) in
      (deterministic_if d true within (omega (arith, starts)) ((λ is. apart), (λ all. refl))).0 refl

  complete : IsComplete d
  complete = record {
    start = (let starts = ap length explored.starts in omega (arith, starts));
    edges = λ q less letter. (let states = explored.states in goes_on b d trees most q (explored.expanded q (omega (arith, states, less))) letter);
  }

pub explored_is_determinised : ExploredIsDeterminised
explored_is_determinised b d trees most explored = record {
  states = explored.states;
  starts = explored.starts;
  some = explored.some;
  first = explored.first;
  few = explored.few;
  steps = λ e letter there meets. (let less = explored.from e there in
      step_edge b d trees most e.from (explored.expanded e.from less) explored.names (explored.are_trees e.from less) e there refl letter meets);
  deterministic = deterministic b d trees most explored;
  complete = complete b d trees most explored;
  formula = explored.formula;
}

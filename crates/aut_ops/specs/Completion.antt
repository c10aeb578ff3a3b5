-- Completion of an automaton by a sink.
use Rattle.std.specs.Prelude.{ℕ, ◌+◌, ◌==◌, Bool, false, not, ◌&&◌, if◌then◌else◌, List, [], ◌∷◌, ◌++◌, flat_map, length}
use Rattle.std.specs.List.{list_all, list_any, range_with_len}
use Rattle.acc_forms.specs.Joined.{conj}
use Rattle.aut_base.specs.Automaton.{Automaton, LabelledEdge}
use Rattle.aut_base.specs.Formula.{Fin, FormulaTree, met}
use Rattle.aut_base.specs.CanonicalLabel.{label_of_truth}
use Rattle.aut_base.specs.Label.{LabelTree, True}
use Rattle.aut_base.specs.Valuation.{truth_on}
use Rattle.aut_core.specs.Surveys.{edges_from}
use Rattle.aut_ops.specs.Labels.{is_never}

-- the label over n propositions that is true where that of none of these edges is
abbrev pub missing_label : ℕ → List LabelledEdge → LabelTree
missing_label n es = label_of_truth n (λ v. not (list_any (λ e. truth_on e.label v) es))

-- an unmarked edge from the state to the sink for the letters that meet none of the state's edges, if there are any
abbrev pub gap_edges : ℕ → ℕ → ℕ → List LabelledEdge → List LabelledEdge
gap_edges n state sink es = if is_never n (missing_label n es) then [] else record { from = state; label = missing_label n es; to = sink; marks = [] } ∷ []

-- a cycle of edges without marks meets the condition
abbrev pub is_met_unmarked : FormulaTree → Bool
is_met_unmarked f = met ([] ∷ []) f

-- The automaton with a sink as its last state, to which the missing letters lead. Only where a run that stays in the sink would be
-- accepting, the sink's loop is in a fresh set, and the condition requires `Fin` of it. Where there is no start, the sink is one.
abbrev pub with_sink : Automaton → Automaton
with_sink a = record {
  names = a.names;
  starts = if length a.starts == 0 then a.states ∷ [] else a.starts;
  states = a.states + 1;
  edges = flat_map (λ state. edges_from state a.edges ++ gap_edges (length a.names) state a.states (edges_from state a.edges)) (range_with_len 0 a.states)
      ++ record { from = a.states; label = True; to = a.states; marks = if is_met_unmarked a.formula then a.sets ∷ [] else [] } ∷ [];
  sets = if is_met_unmarked a.formula then a.sets + 1 else a.sets;
  formula = if is_met_unmarked a.formula then conj a.formula (Fin a.sets false) else a.formula;
}

-- the automaton is complete, as decided: there is a start, and at no state a letter that meets none of its edges
abbrev pub lacks_nothing : Automaton → Bool
lacks_nothing a = not (length a.starts == 0)
    && list_all (λ state. is_never (length a.names) (missing_label (length a.names) (edges_from state a.edges))) (range_with_len 0 a.states)

-- the completion; a complete automaton stays as it is
abbrev pub completed : Automaton → Automaton
completed a = if lacks_nothing a then a else with_sink a

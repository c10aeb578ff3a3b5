-- The sum of two automata: both side by side, for the union of languages.
use Rattle.std.specs.Prelude.{ℕ, ◌+◌, false, [], ◌∷◌, ◌++◌, map}
use Rattle.acc_forms.specs.Joined.{conj, disj}
use Rattle.acc_forms.specs.Shift.{shift}
use Rattle.aut_base.specs.Automaton.{Automaton, LabelledEdge}
use Rattle.aut_base.specs.Formula.{Fin, Inf}

-- the edge with the numbers of its states and sets raised, also in the set `fresh`
abbrev pub moved_edge : ℕ → ℕ → ℕ → LabelledEdge → LabelledEdge
moved_edge states sets fresh e = record e { from = e.from + states; to = e.to + states; marks = map (λ mark. mark + sets) e.marks ++ fresh ∷ [] }

-- The sum: the first automaton followed by the second, both over the same names. Each edge of the second is in a fresh set, so that the
-- condition can tell the runs apart: `Fin` of that set and the first's condition, or `Inf` of it and the second's.
abbrev pub side_by_side : Automaton → Automaton → Automaton
side_by_side a b = record {
  names = a.names;
  starts = a.starts ++ map (λ p. p + a.states) b.starts;
  states = a.states + b.states;
  edges = a.edges ++ map (moved_edge a.states a.sets (a.sets + b.sets)) b.edges;
  sets = a.sets + b.sets + 1;
  formula = disj (conj a.formula (Fin (a.sets + b.sets) false)) (conj (shift a.sets b.formula) (Inf (a.sets + b.sets) false));
}

-- Transition-based Emerson-Lei automata as values, which ones are well formed, and the one that a `Description` in memory stands for.
use Rattle.std.specs.Prelude.{◌≢◌, ◌<◌, ℕ, List, length, map, All, AllPairs}
use Rattle.std.specs.List.Sorted.{IsNonDecreasing}
use Rattle.aut_base.specs.Formula.{FormulaTree, SetsBelow, formula_tree}
use Rattle.aut_base.specs.Label.{AllBelow, LabelTree, label_tree}
use Rattle.aut_base.specs.declared.description.Description.{Description}
use Rattle.aut_base.specs.declared.description.Edge.{Edge}

pub record LabelledEdge : Type 0 where
  pub from : ℕ
  pub label : LabelTree
  pub to : ℕ
  -- the acceptance sets that the edge is in
  pub marks : List ℕ

-- a transition-based automaton with an Emerson-Lei condition
pub record Automaton : Type 0 where
  pub names : List (List ℕ)
  pub starts : List ℕ
  pub states : ℕ
  pub edges : List LabelledEdge
  pub sets : ℕ
  pub formula : FormulaTree

abbrev pub labelled_edge : Edge → LabelledEdge
labelled_edge e = record { from = e.from; label = label_tree e.label; to = e.to; marks = e.marks }

abbrev pub automaton : Description → Automaton
automaton d = record { names = d.names; starts = d.starts; states = d.states; edges = map labelled_edge d.edges; sets = d.sets; formula = formula_tree d.formula }

-- the edge's states, propositions and marks are among the automaton's, and its marks increase
pub record IsEdgeOf (a : Automaton) (e : LabelledEdge) : Type 0 where
  pub from : e.from < a.states
  pub to : e.to < a.states
  pub label : AllBelow (length a.names) e.label
  pub marks : All (λ mark. mark < a.sets) e.marks
  pub marks_rise : AllPairs (λ m n. m < n) e.marks

-- Names differ, starts are distinct, edges are in the order of the states that they leave, the marks of an edge increase,
-- and every number is in range.
pub record IsWellFormed (a : Automaton) : Type 0 where
  pub names_differ : AllPairs (λ name other. name ≢ other) a.names
  pub starts_differ : AllPairs (λ p q. p ≢ q) a.starts
  pub starts : All (λ p. p < a.states) a.starts
  pub in_order : IsNonDecreasing (map (λ e. e.from) a.edges)
  pub edges : All (IsEdgeOf a) a.edges
  pub formula : SetsBelow a.sets a.formula

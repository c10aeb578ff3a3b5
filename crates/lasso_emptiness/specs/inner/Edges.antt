-- Edges by their states and the index of their link, their marks, and the set literals that they satisfy.
use Rattle.std.specs.Prelude.{ℕ, ◌<◌, Bool, true, false, not, List, [], map}
use Rattle.std.specs.List.{slice_index_or}
use Rattle.aut_base.specs.Formula.{FormulaTree, met}
use Rattle.aut_base.specs.Marks.{is_in}
use Rattle.aut_core.specs.declared.link.Link.{Link}
use Rattle.lasso_emptiness.specs.declared.live.EdgeRef.{EdgeRef}

-- Whether an edge with these marks satisfies a set literal: it is in the set, or, negated, outside of it. `Inf` requires that some edge
-- of a cycle satisfies its literal, `Fin` that none does.
abbrev pub on_side : ℕ → Bool → List ℕ → Bool
on_side set false marks = is_in set marks
on_side set true marks = not (is_in set marks)

-- the acceptance sets of the edge, which its link has
abbrev pub marks_of : List Link → EdgeRef → List ℕ
marks_of links e = slice_index_or (map (λ l. l.marks) links) e.link []

-- whether the condition is met by a cycle of these edges
abbrev pub met_along : List Link → List EdgeRef → FormulaTree → Bool
met_along links edges f = met (map (marks_of links) edges) f

-- the edge's link and its two states are in range
pub record IsEdgeInRange (links : ℕ) (states : ℕ) (e : EdgeRef) : Type 0 where
  pub link : e.link < links
  pub from : e.from < states
  pub to : e.to < states

-- the edge as an arc of a graph
abbrev pub arc_of : EdgeRef → ℕ × ℕ
arc_of e = (e.from, e.to)

-- the same, reversed
abbrev pub back_arc_of : EdgeRef → ℕ × ℕ
back_arc_of e = (e.to, e.from)

-- the arc, reversed or as it is
abbrev pub arc_in_direction : Bool → EdgeRef → ℕ × ℕ
arc_in_direction false = arc_of
arc_in_direction true = back_arc_of

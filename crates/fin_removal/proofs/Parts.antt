-- Parts of the edges of copies, under names that proofs use.
use Rattle.std.specs.Prelude.{ℕ, ◌+◌, ◌*◌, Bool, List, []}
use Rattle.std.specs.List.{list_all}
use Rattle.aut_base.specs.Automaton.{LabelledEdge}
use Rattle.fin_removal.specs.Copies.{marks_in}
use Rattle.fin_removal.specs.Meeting.{meets}
use Rattle.fin_removal.specs.declared.term_copy.TermCopy.{TermCopy}

-- the state of the copy with this number, where each has n states
abbrev pub state_in : ℕ → ℕ → ℕ → ℕ
state_in n number state = number * n + state

-- the edge stays in the main copy, unmarked
abbrev pub stay : LabelledEdge → LabelledEdge
stay e = record e { marks = [] }

-- the edge leads from the main copy into this one, unmarked
abbrev pub enter : ℕ → LabelledEdge → TermCopy → LabelledEdge
enter n e copy = record e { to = state_in n copy.number e.to; marks = [] }

-- whether the copy has an edge with these marks: whether these meet every Fin literal of its term
abbrev pub allows : TermCopy → List ℕ → Bool
allows copy marks = list_all (meets marks) copy.fins

-- the edge within the copy
abbrev pub edge_in : ℕ → TermCopy → LabelledEdge → LabelledEdge
edge_in n copy e = record e { from = state_in n copy.number e.from; to = state_in n copy.number e.to; marks = marks_in copy e.marks }

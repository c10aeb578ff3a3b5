-- Links that are kept, links with renumbered states, and the parts of the search for useful states.
use Rattle.std.specs.Prelude.{ℕ, Bool, ◌&&◌, List, length, map, nat_eq}
use Rattle.std.specs.List.{range_with_len, slice_index_or}
use Rattle.aut_base.specs.Marks.{is_in}
use Rattle.aut_core.specs.SymbolicAutomata.{SymbolicAutomaton, edge_of}
use Rattle.aut_core.specs.declared.link.Link.{Link}
use Rattle.aut_ops.specs.Satisfiable.{is_flagged, is_satisfiable}
use Rattle.aut_ops.specs.inner.Parts.{is_kept_edge}

-- the same of a link as of its edge
abbrev pub link_passable : SymbolicAutomaton → Link → Bool
link_passable c l = is_satisfiable (length c.names) (edge_of c.store l)

abbrev pub link_stays : SymbolicAutomaton → List Bool → Link → Bool
link_stays c flags l = is_kept_edge (length c.names) flags (edge_of c.store l)

-- a link as an arc
abbrev pub link_arc : Link → ℕ × ℕ
link_arc l = (l.from, l.to)

-- the number that a state has in this list
abbrev pub new_number : List ℕ → ℕ → ℕ
new_number numbers q = slice_index_or numbers q 0

abbrev pub new_link : List ℕ → Link → Link
new_link numbers l = record { from = new_number numbers l.from; guard = l.guard; to = new_number numbers l.to; marks = l.marks }

-- the link is in set 0, its label is satisfiable, and both of its states are in one component
abbrev pub link_closes : SymbolicAutomaton → List ℕ → Link → Bool
link_closes c numbers l = link_passable c l && (is_in 0 l.marks && nat_eq (new_number numbers l.from) (new_number numbers l.to))

-- the arc reversed
abbrev pub reversed_arc : ℕ × ℕ → ℕ × ℕ
reversed_arc arc = (arc.1, arc.0)

-- for each state whether both lists flag it
abbrev pub both_flagged : List Bool → List Bool → List Bool
both_flagged first second = map (λ q. is_flagged first q && is_flagged second q) (range_with_len 0 (length first))

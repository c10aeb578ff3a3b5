use Rattle.std.proofs.Common.{◌≡◌, map}
use Rattle.aut_base.specs.Automaton.{labelled_edge}
use Rattle.hoa_reader.specs.inner.TreeEdges.{edges_for}
use Rattle.hoa_parser.specs.Raw.{written_state}
use Rattle.hoa_reader.proofs.elaborate.edges.edges_of.Given as goal

abbrev pub invariant-numbers : goal.invariant-numbers
invariant-numbers l = map labelled_edge l.edges ≡ edges_for l.shared (map written_state l.states) l.number

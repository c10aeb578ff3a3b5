use Rattle.std.proofs.Common.{◌≡◌, ◌+◌, ◌++◌, length, map, take}
use Rattle.aut_base.specs.Automaton.{labelled_edge}
use Rattle.aut_base.specs.Label.{label_tree}
use Rattle.word_syntax.specs.Matching.{edges_along}
use Rattle.word_syntax.proofs.automaton.push_edges.Given as goal

abbrev pub invariant-labels : goal.invariant-labels
invariant-labels l = record {
  size : length l.edges ≡ length l.fn.edges + l.label-index;
  same : map labelled_edge l.edges ≡ map labelled_edge l.fn.edges ++ edges_along l.back l.total (length l.fn.edges) (map label_tree (take l.label-index l.labels));
}

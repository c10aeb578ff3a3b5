use Rattle.std.proofs.Common.{◌≡◌, is_none, map, drop}
use Rattle.std.specs.List.{list_all}
use Rattle.hoa_parser.specs.Raw.{written_edge}
use Rattle.hoa_reader.proofs.elaborate.implicit.none_labelled.Given as goal

abbrev pub invariant-edges : goal.invariant-edges
invariant-edges l = list_all (λ e. is_none e.label) (map written_edge (drop l.edge-index l.edges)) ≡ list_all (λ e. is_none e.label) (map written_edge l.edges)

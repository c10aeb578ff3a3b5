use Rattle.std.proofs.Common.{◌≡◌, ◌++◌, map, flat_map, take, option_to_list}
use Rattle.hoa_parser.specs.Raw.{written_edge}
use Rattle.hoa_reader.specs.inner.PickedOut.{label_refs}
use Rattle.hoa_reader.proofs.elaborate.parts.add_labels.Given as goal

abbrev pub invariant-edges : goal.invariant-edges
invariant-edges l = map label_refs l.labels.items ≡ map label_refs l.initial.labels.items ++ flat_map (λ e. option_to_list e.label) (map written_edge (take l.edge-index l.edges))

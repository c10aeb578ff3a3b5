use Rattle.std.proofs.Common.{◌≡◌, true, is_some, map, drop}
use Rattle.hoa_reader.specs.inner.Places.{place_in}
use Rattle.hoa_parser.specs.Raw.{raw_tree, raw_trees}
use Rattle.hoa_reader.specs.Validity.{all_leaves_pass}
use Rattle.hoa_reader.proofs.elaborate.leaves.+aliases_among.Given as goal

abbrev pub invariant-all_among-parts : goal.invariant-all_among-parts
invariant-all_among-parts l = let F = all_leaves_pass (λ i. true) (λ name. is_some (place_in l.names name)) in
    F (raw_trees (map raw_tree (drop l.part-index l.parts))) ≡ F (raw_trees (map raw_tree l.parts))

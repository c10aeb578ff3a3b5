use Rattle.std.proofs.Common.{◌≡◌, true, map, drop, nat_lt}
use Rattle.hoa_parser.specs.Raw.{raw_tree, raw_trees}
use Rattle.hoa_reader.specs.Validity.{all_leaves_pass}
use Rattle.hoa_reader.proofs.elaborate.leaves.+props_below.Given as goal

abbrev pub invariant-all_props_below-parts : goal.invariant-all_props_below-parts
invariant-all_props_below-parts l = let F = all_leaves_pass (λ i. nat_lt i l.names) (λ name. true) in F (raw_trees (map raw_tree (drop l.part-index l.parts))) ≡ F (raw_trees (map raw_tree l.parts))

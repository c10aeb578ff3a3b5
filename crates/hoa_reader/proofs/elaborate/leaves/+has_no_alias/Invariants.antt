use Rattle.std.proofs.Common.{◌≡◌, true, [], map, drop}
use Rattle.hoa_parser.specs.Raw.{raw_tree, raw_trees}
use Rattle.hoa_reader.specs.Validity.{all_leaves_pass}
use Rattle.hoa_reader.specs.inner.Places.{is_listed}
use Rattle.hoa_reader.proofs.elaborate.leaves.+has_no_alias.Given as goal

abbrev pub invariant-have_no_alias-parts : goal.invariant-have_no_alias-parts
invariant-have_no_alias-parts l = let F = all_leaves_pass (λ i. true) (is_listed []) in F (raw_trees (map raw_tree (drop l.part-index l.parts))) ≡ F (raw_trees (map raw_tree l.parts))

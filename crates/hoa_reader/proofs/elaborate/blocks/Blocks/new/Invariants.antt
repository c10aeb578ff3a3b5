use Rattle.std.proofs.Common.{◌≡◌, ◌++◌, length}
use Rattle.std.specs.Prelude.{flat_map, reverse}
use Rattle.hoa_reader.proofs.elaborate.blocks.Blocks.new.Given as goal

abbrev pub invariant-cuts : goal.invariant-cuts
invariant-cuts g l = l.first.items ++ flat_map (λ block. block) (reverse l.others.items) ≡ l.fn.items

abbrev pub decreases-cuts : goal.decreases-cuts
decreases-cuts g l = length l.first.items

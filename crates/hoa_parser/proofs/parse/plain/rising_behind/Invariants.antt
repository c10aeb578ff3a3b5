use Rattle.std.proofs.Common.{◌≤◌, length}
use Rattle.hoa_parser.specs.Raw.{all_literals}
use Rattle.hoa_parser.proofs.plain.Labels.{Cubed}
use Rattle.hoa_parser.proofs.parse.plain.rising_behind.Given as goal

abbrev pub invariant-literals : goal.invariant-literals
invariant-literals l = record {
  within : l.cube.values ≤ l.cube.names;
  are : Cubed (all_literals l.fn.first.names l.fn.first.values) l.cube.names l.cube.values l.bytes l.left;
}

abbrev pub decreases-literals : goal.decreases-literals
decreases-literals l = length l.left

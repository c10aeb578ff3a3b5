use Rattle.std.proofs.Common.{◌≡◌, ◌≤◌, ◌-◌, length}
use Rattle.hoa_parser.specs.Raw.{cube_literals}
use Rattle.hoa_reader.specs.inner.Cubes.{TellsAll}
use Rattle.hoa_reader.proofs.elaborate.cube.cube_shape.Given as goal

abbrev pub invariant-places : goal.invariant-places
invariant-places l = record {
  few : l.place ≤ 32;
  most : l.count ≤ l.place;
  count : l.count ≡ length (cube_literals l.names l.values l.place);
  all : TellsAll l.all (cube_literals l.names l.values l.place);
}

abbrev pub decreases-places : goal.decreases-places
decreases-places l = 32 - l.place

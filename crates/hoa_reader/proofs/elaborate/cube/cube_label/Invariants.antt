use Rattle.std.proofs.Common.{◌≡◌, ◌≤◌, ◌-◌, List}
use Rattle.hoa_parser.specs.Raw.{cube_literals}
use Rattle.hoa_reader.specs.Described.{Meaning}
use Rattle.hoa_reader.specs.inner.Cubes.{each_of, parts_of}
use Rattle.hoa_reader.proofs.elaborate.cube.cube_label.Given as goal

abbrev pub invariant-places : goal.invariant-places
invariant-places l = record {
  few : l.place ≤ 32;
  parts : (meanings : List Meaning) → parts_of l.parts ≡ each_of meanings (cube_literals l.names l.values l.place);
}

abbrev pub decreases-places : goal.decreases-places
decreases-places l = 32 - l.place

use Rattle.std.proofs.Common.{arith, refl}
use Rattle.hoa_parser.specs.Raw.{all_literals}
use Rattle.hoa_parser.proofs.grammar.RawTrees.{raw_tree-Cube}
use Rattle.hoa_parser.proofs.plain.Labels.{cube_none, cube_push, cube_whole, literal_of_length}
use Rattle.hoa_parser.proofs.plain.Signs.{sign_length}
use Rattle.hoa_parser.proofs.parse.plain.rising_behind.Goals as goal

pub literals-init : goal.literals-init
literals-init c = record { within = c.requires; are = cube_none (all_literals c.args.first.names c.args.first.values) c.args.first.names c.args.first.values _ refl }

pub literals-smaller : goal.literals-smaller
literals-smaller c = omega (arith, sign_length _ _ _ c.in-Some.ensures, literal_of_length _ _ _ c.in_ok-place-in-Some.ensures)

pub literals-preserved : goal.literals-preserved
literals-preserved c = record {
  within = c.in_ok-cube-in-Some.ensures.within;
  are = cube_push (all_literals c.args.first.names c.args.first.values) c.literals.cube.names c.literals.cube.values _ _ _ _ _ _ _ c.in_ok-cube-in-Some.ensures.literals c.literals.invariant.are
      c.in-Some.ensures c.in_ok-place-in-Some.ensures;
}

pub returns-in-None : goal.returns-in-None
returns-in-None c = cube_whole (all_literals c.args.first.names c.args.first.values) c.literals.cube.names c.literals.cube.values _ _ _ (raw_tree-Cube c.literals.cube.names c.literals.cube.values)
    c.literals.invariant.are

use Rattle.std.proofs.Common.{arith, length}
use Rattle.label_guards.proofs.labelled.Pieces.{cube_written, some_item}
use Rattle.label_guards.proofs.cubes.push_cube.Goals as goal

pub returns-clause-ok : goal.returns-clause-ok
returns-clause-ok c =
    let cube = c.args.cube.now in
    cube_written cube _ c.others.other-index c.args.out.now c.push_literal.new.out c.others.out (some_item (length cube) c.is_empty.result c.if-is_empty.false c.is_empty.ensures)
    (omega arith) c.in_ok-push_literal.ensures.ok c.others.invariant

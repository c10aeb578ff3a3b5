use Rattle.std.proofs.Common.{arith}
use Rattle.std.proofs.lemmas.Result.{IfOk-weaker}
use Rattle.hoa_reader.proofs.labels.CubeLabels.{guard_of_cube}
use Rattle.hoa_reader.proofs.elaborate.cube.cube_guard.Goals as goal

pub returns-clause-guard : goal.returns-clause-guard
returns-clause-guard c =
    let fits = c.ranges.names in
    IfOk-weaker c.of_cube.result _ _ (λ g is. guard_of_cube c.of_cube.new.self c.args.guards.now.names c.args.names c.args.values g (omega (arith, fits)) c.requires is) c.of_cube.ensures.guard

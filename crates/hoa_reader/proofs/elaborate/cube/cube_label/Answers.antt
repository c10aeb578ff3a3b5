use Rattle.std.proofs.Common.{◌≡◌, arith}
use Rattle.std.proofs.lemmas.Result.{IfOk-weaker}
use Rattle.hoa_reader.proofs.labels.CubeLabels.{label_whole}
use Rattle.hoa_reader.specs.inner.Cubes.{parts_of}
use Rattle.hoa_reader.proofs.elaborate.cube.cube_label.Goals as goal

pub returns : goal.returns
returns c =
    let test = c.places-test.false in
    let few = c.places.invariant.few in
    let last : c.places.place ≡ 32 = omega (arith, test, few) in
    IfOk-weaker c.joined_label.result _ _
    (λ new is ms. label_whole ms (parts_of c.places.parts) _ c.args.names c.args.values c.places.place last is (c.places.invariant.parts ms)) c.joined_label.ensures

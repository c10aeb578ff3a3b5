use Rattle.std.proofs.Common.{◌≡◌, ◌+◌, ◌/◌, ◌%◌, ◌^◌, ◌≢◌, ℕ, suc, ap, arith, length, subst, sym, List}
use Rattle.hoa_parser.specs.Raw.{RawTree, cube_literals, raw_all}
use Rattle.hoa_reader.proofs.labels.CubeShapes.{all_found, count_next, place_left}
use Rattle.hoa_reader.specs.inner.Cubes.{Tells, TellsAll}
use Rattle.hoa_reader.proofs.elaborate.cube.cube_shape.Goals as goal

pub places-preserved : goal.places-preserved
places-preserved c =
    let n = c.args.names in
    let v = c.args.values in
    let k = c.places.place in
    let next : suc k ≡ k + 1 = omega arith in
    let few = c.places.invariant.few in
    let fits = c.ranges.names in
    let test = c.places-test.true in
    let same : c.from.result / 2 ^ k ≡ n / 2 ^ k = ap (λ m. m / 2 ^ k) c.from.ensures in
    let some : n / 2 ^ k ≢ 0 = λ e. absurd (omega (arith, e, same, test)) in
    let left = place_left n k (omega (arith, fits)) few some in
    let most = c.places.invariant.most in
    let count = count_next n v k c.places.count c.places.invariant.count in
    record {
      few = omega (arith, left);
      most = omega (arith, most);
      count = subst (λ (j : ℕ). c.places.count + n / 2 ^ k % 2 ≡ length (cube_literals n v j)) next count;
      all = subst (λ (j : ℕ). TellsAll c.with_place-all.result (cube_literals n v j)) next (c.with_place-all.ensures (cube_literals n v k) c.places.invariant.all);
    }

pub returns : goal.returns
returns c =
    let n = c.args.names in
    let v = c.args.values in
    let k = c.places.place in
    let test = c.places-test.false in
    let same : c.from.result / 2 ^ k ≡ n / 2 ^ k = ap (λ m. m / 2 ^ k) c.from.ensures in
    let none : n / 2 ^ k ≡ 0 = omega (arith, same, test) in
    subst (λ (ts : List RawTree). Tells c.joined_shape.result (raw_all ts)) (all_found n v k c.places.invariant.few none)
    (c.joined_shape.ensures (cube_literals n v k) (sym c.places.invariant.count) c.places.invariant.all)

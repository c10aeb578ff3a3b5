use Rattle.std.proofs.Common.{◌∙◌, ◌-◌, ap, arith}
use Rattle.label_guards.specs.Numbers.{is_in_cube}
use Rattle.label_guards.proofs.diagrams.Growth.{grows_none, grows_on}
use Rattle.label_guards.proofs.labelled.Conjunctions.{cube_more, cube_none}
use Rattle.label_guards.proofs.guards.Guards.cube_place.Goals as goal

pub props-init : goal.props-init
props-init c =
    let names = c.names-left.ensures in
    record {
      grows = grows_none c.args.self.now;
      few = omega (arith, names);
      has = omega arith;
      later = omega (arith, names);
      truth = λ on. let left = cube_none c.args.self.now c.args.names c.args.values c.names-left.result on in left ∙ ap (λ n. is_in_cube c.args.names c.args.values n on) names;
    }

pub props-preserved : goal.props-preserved
props-preserved c =
    let test = c.props-test.true in
    let few = c.props.invariant.few in
    record {
      grows = grows_on c.props.invariant.grows c.asked.ensures.grows;
      few = omega (arith, few);
      has = c.in_ok-place.ensures.has;
      later = c.in_ok-place.ensures.later;
      truth = cube_more c.props.self c.asked.new.self c.args.names c.args.values c.props.left (c.props.left - 1) c.props.place c.in_ok-place.place
          (is_in_cube c.args.names c.args.values c.args.self.now.names) (omega (arith, test)) c.props.invariant.truth c.in_ok-place.ensures.truth;
    }

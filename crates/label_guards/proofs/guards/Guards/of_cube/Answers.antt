use Rattle.label_guards.specs.Numbers.{is_in_cube}
use Rattle.label_guards.proofs.labelled.LabelTruth.{at, guard_of}
use Rattle.label_guards.proofs.guards.Guards.of_cube.Goals as goal

pub returns-clause-guard : goal.returns-clause-guard
returns-clause-guard c = guard_of c.cube.new.self c.reduced-2.ensures (is_in_cube c.args.names c.args.values c.args.self.now.names) (at c.in_ok-place.place)
    c.in_ok-place.ensures.place.has c.in_ok-place.ensures.place.truth

use Rattle.std.proofs.Common.{get_or, false}
use Rattle.safra_trees.proofs.flat_step.Sight.{moves_more}
use Rattle.safra_trees.specs.declared.moves.Move.{Move}
use Rattle.safra_trees.proofs.sight.moves_in.Goals as goal

abbrev none : Move
none = record { from = 0; to = 0; accepting = false }

pub place_in-requires-clause-there : goal.place_in-requires-clause-there
place_in-requires-clause-there c = (c.requires.there c.moves.one-index none c.moves-test.true).from

pub place_in-requires-in-moves-clause-there : goal.place_in-requires-in-moves-clause-there
place_in-requires-in-moves-clause-there c = (c.requires.there c.moves.one-index none c.moves-test.true).to

pub moves-preserved : goal.moves-preserved
moves-preserved c =
    let e : Move = get_or c.args.moves.now c.moves.one-index none in
    let m : Move = record { from = c.place_in.result; to = c.place_in-in-moves.result; accepting = e.accepting } in
    let more = moves_more c.args.sight.now c.args.moves.now c.moves.found c.push.new.self c.moves.one-index none m c.moves.invariant.within c.moves.invariant.are c.moves-test.true
    (record { from = c.place_in.ensures.below; to = c.place_in-in-moves.ensures.below })
    (λ i. record { from = c.place_in.ensures.is i; to = c.place_in-in-moves.ensures.is i; accepting = e.accepting }) c.in_ok-push.ensures.ok in
    record { within = more.0; are = more.1 }

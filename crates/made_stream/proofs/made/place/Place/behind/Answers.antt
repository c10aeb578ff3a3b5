use Rattle.std.proofs.Common.{◌∙◌, sym}
use Rattle.made_stream.proofs.Rings.{edge_behind, last_behind, no_ring_behind, part_behind, ring_behind, rings_left, state_behind}
use Rattle.made_stream.proofs.made.place.Place.behind.Goals as goal

pub returns-in-Head : goal.returns-in-Head
returns-in-Head c = part_behind _ _ _ _ (c.begin.ensures c.args.count) (state_behind _ _ _ c.in-Head.is)

pub returns-in-State : goal.returns-in-State
returns-in-State c =
    part_behind _ _ _ _ (c.begin-in-State.ensures c.args.count) (edge_behind _ _ _ c.in-State.is c.if-self.true)

pub returns-in-State-2 : goal.returns-in-State-2
returns-in-State-2 c =
    part_behind _ _ _ _ (c.begin-in-State-2.ensures c.args.count) (last_behind _ _ _ c.in-State.is c.if-self.false)

pub returns-in-Last : goal.returns-in-Last
returns-in-Last c =
    c.first.ensures c.args.count ∙ sym (ring_behind _ _ c.if-self-count.true) ∙ rings_left _ _ _ _ c.in-Last.is

pub returns-in-Last-2 : goal.returns-in-Last-2
returns-in-Last-2 c =
    sym (no_ring_behind _ _ c.if-self-count.false) ∙ rings_left _ _ _ _ c.in-Last.is

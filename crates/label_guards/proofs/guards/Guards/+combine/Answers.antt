use Rattle.std.proofs.Common.{◌≡◌, ◌∙◌, min, subst, sym, arith}
use Rattle.label_guards.specs.Computed.{IsAnswerTo}
use Rattle.label_guards.specs.Nodes.{Grows, level}
use Rattle.label_guards.specs.Operations.{IsJoin}
use Rattle.label_guards.specs.Store.{Store}
use Rattle.label_guards.proofs.diagrams.Joins.{join_short, side_later, join_step}
use Rattle.label_guards.proofs.diagrams.Growth.{grows_on, grows_none}
use Rattle.label_guards.proofs.labelled.Remembered.{join_of_result, result_of_join}
use Rattle.label_guards.proofs.guards.Guards.+combine.Goals as goal

pub combine-returns-in-Some-clause-joined : goal.combine-returns-in-Some-clause-joined
combine-returns-in-Some-clause-joined t c = join_short _ c.reduced.ensures c.args.operation _ _ _ c.requires.left c.requires.right c.in-Some.ensures.short

pub combine_nodes-choice-requires-clause-low_later : goal.combine_nodes-choice-requires-clause-low_later
combine_nodes-choice-requires-clause-low_later t c =
    let g = c.sides-g_low.ensures in
    let h = c.sides-h_low.ensures in
    side_later c.combine.ensures.grows c.combine-2.ensures.grows c.args.operation _ _ _ _ (omega (arith, c.requires.left, g.low_bound))
    (omega (arith, c.requires.right, h.low_bound)) g.low_later h.low_later c.in_ok-low.ensures.joined

pub combine_nodes-choice-requires-clause-high_later : goal.combine_nodes-choice-requires-clause-high_later
combine_nodes-choice-requires-clause-high_later t c =
    let g = c.sides-g_low.ensures in
    let h = c.sides-h_low.ensures in
    side_later (grows_on c.combine.ensures.grows c.combine-2.ensures.grows) (grows_none _) c.args.operation _ _ _ _ (omega (arith, c.requires.left, g.high_bound))
    (omega (arith, c.requires.right, h.high_bound)) g.high_later h.high_later c.in_ok-high.ensures.joined

pub combine_nodes-note-requires : goal.combine_nodes-note-requires
combine_nodes-note-requires t c =
    let least : c.min-prop.result ≡ min (level c.args.self.now c.args.g) (level c.args.self.now c.args.h) = c.min-prop.ensures ∙ (λ i. min (c.level.ensures.level i) (c.level-2.ensures.level i)) in
    let joined : IsJoin c.choice.new.self c.args.operation c.args.g c.args.h c.in_ok-place.place =
    join_step c.combine.ensures.grows c.combine-2.ensures.grows c.choice.ensures.grows c.args.operation _ _ _ _ _ _ _ _ _ _ c.requires.left c.requires.right least c.sides-g_low.ensures
    c.sides-h_low.ensures c.in_ok-low.ensures.joined c.in_ok-high.ensures.joined c.in_ok-place.ensures.made in
    subst (λ q. IsAnswerTo c.choice.new.self q c.args.g c.args.h c.in_ok-place.place) (sym c.asked_as-question.ensures) (result_of_join _ c.args.operation _ _ _ joined)

pub combine_nodes-returns-in-Some-clause-joined : goal.combine_nodes-returns-in-Some-clause-joined
combine_nodes-returns-in-Some-clause-joined t c = join_of_result _ c.args.operation _ _ _
    (subst (λ q. IsAnswerTo c.args.self.now q c.args.g c.args.h c.in-Some.place) c.asked_as-question.ensures c.in-Some.ensures)

pub combine_nodes-returns-clause-joined : goal.combine_nodes-returns-clause-joined
combine_nodes-returns-clause-joined t c =
    let least : c.min-prop.result ≡ min (level c.args.self.now c.args.g) (level c.args.self.now c.args.h) = c.min-prop.ensures ∙ (λ i. min (c.level.ensures.level i) (c.level-2.ensures.level i)) in
    let joined : IsJoin c.choice.new.self c.args.operation c.args.g c.args.h c.in_ok-place.place =
    join_step c.combine.ensures.grows c.combine-2.ensures.grows c.choice.ensures.grows c.args.operation _ _ _ _ _ _ _ _ _ _ c.requires.left c.requires.right least c.sides-g_low.ensures
    c.sides-h_low.ensures c.in_ok-low.ensures.joined c.in_ok-high.ensures.joined c.in_ok-place.ensures.made in
    subst (λ (s : Store). IsJoin s c.args.operation c.args.g c.args.h c.in_ok-place.place) (sym c.note.ensures) joined

pub combine_nodes-returns-clause-grows : goal.combine_nodes-returns-clause-grows
combine_nodes-returns-clause-grows t c = subst (Grows c.args.self.now) (sym c.note.ensures)
    (grows_on (grows_on c.combine.ensures.grows c.combine-2.ensures.grows) c.choice.ensures.grows)

use Rattle.std.proofs.Common.{◌∙◌, ◌+◌, ◌<◌, ◌++◌, ◌∷◌, [], ap, arith, length, map, sym, take}
use Rattle.std.proofs.lemmas.List.{append_assoc, map_more}
use Rattle.aut_base.proofs.order.JointMarks.{joint_below}
use Rattle.aut_base.proofs.marks.joint_one_by_one.Goals as goal

pub push-requires : goal.push-requires
push-requires c =
    joint_below c.args.marks.now c.args.others.now c.others.all c.args.by c.others.place c.at.result.now c.requires.marks c.len-place-end.ensures.increasing
    (omega (arith, c.others-test.true, c.len-place-end.ensures.count)) (c.at.ensures.item 0) c.others.invariant

pub others-preserved : goal.others-preserved
others-preserved c =
    let within : c.others.place < length c.args.others.now = omega (arith, c.others-test.true, c.len-place-end.ensures.count) in
    let before = map (λ mark. mark + c.args.by) (take c.others.place c.args.others.now) in
    c.in_ok-push.ensures.ok
    ∙ (ap (λ xs. xs ++ (c.at.result.now + c.args.by) ∷ []) c.others.invariant
    ∙ (append_assoc c.args.marks.now before ((c.at.result.now + c.args.by) ∷ [])
    ∙ ap (λ xs. c.args.marks.now ++ xs)
    (ap (λ m. before ++ (m + c.args.by) ∷ []) (sym (c.at.ensures.item 0)) ∙ sym (map_more (λ mark. mark + c.args.by) c.args.others.now c.others.place 0 within))))

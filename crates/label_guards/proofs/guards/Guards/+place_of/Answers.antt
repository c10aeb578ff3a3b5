use Rattle.std.proofs.Common.{◌≡◌, ◌∙◌, ◌-◌, ap, not, subst, sym, arith}
use Rattle.std.proofs.lemmas.Result.{IfOk-weaker}
use Rattle.aut_base.specs.Label.{AllBelow, LabelTree, label_list, label_tree, truth}
use Rattle.aut_base.proofs.trees.LabelSizes.{label_size-at}
use Rattle.aut_base.proofs.trees.LabelTrees.{label_tree-True, label_tree-False, label_tree-Prop, label_tree-Negated}
use Rattle.label_guards.specs.declared.guards.Operation.TheVariants.{And, Or}
use Rattle.label_guards.proofs.diagrams.Growth.{grows_on, grows_none}
use Rattle.label_guards.proofs.labelled.Parts.{place_same, true_place, false_place, prop_place, negated_place, not_place, place_of_label, part_below, all_none}
use Rattle.label_guards.proofs.labelled.Parts.{some_none, all_step, some_step, joined_place, met_branch, joined_branch}
use Rattle.label_guards.proofs.guards.Guards.+place_of.Goals as goal

pub place_of-returns-in-True-clause-place : goal.place_of-returns-in-True-clause-place
place_of-returns-in-True-clause-place t c = place_of_label _ _ _ 1 (ap label_tree c.in-True.is ∙ label_tree-True) (true_place _)

pub place_of-returns-in-False-clause-place : goal.place_of-returns-in-False-clause-place
place_of-returns-in-False-clause-place t c = place_of_label _ _ _ 0 (ap label_tree c.in-False.is ∙ label_tree-False) (false_place _)

pub place_of-returns-in-Prop-clause-place : goal.place_of-returns-in-Prop-clause-place
place_of-returns-in-Prop-clause-place t c =
    IfOk-weaker c.choice.result _ _ (λ place made. place_of_label _ _ _ place (ap label_tree c.in-Prop.is ∙ label_tree-Prop _) (prop_place _ _ place made)) c.choice.ensures.made

pub place_of-returns-in-Negated-clause-place : goal.place_of-returns-in-Negated-clause-place
place_of-returns-in-Negated-clause-place t c =
    IfOk-weaker c.choice-in-Negated.result _ _ (λ place made. place_of_label _ _ _ place (ap label_tree c.in-Negated.is ∙ label_tree-Negated _) (negated_place _ _ place made))
    c.choice-in-Negated.ensures.made

pub place_of_not-returns-in-Prop-clause-place : goal.place_of_not-returns-in-Prop-clause-place
place_of_not-returns-in-Prop-clause-place t c =
    let e : label_tree c.args.label.now ≡ LabelTree.Prop c.in-Prop.prop = ap label_tree c.in-Prop.is ∙ label_tree-Prop _ in
    IfOk-weaker c.choice.result _ _ (λ place made. place_same _ _ _ place (λ on. ap (λ u. not (truth on u)) (sym e)) (negated_place _ _ place made)) c.choice.ensures.made

pub place_of_not-returns : goal.place_of_not-returns
place_of_not-returns t c = record {
  grows = grows_on c.place_of.ensures.grows c.combine.ensures.grows;
  kept = omega arith;
  place = IfOk-weaker c.combine.result _ _ (λ place joined. not_place c.combine.ensures.grows (λ on. truth on (label_tree c.args.label.now)) _ place c.in_ok-place.ensures.place joined)
      c.combine.ensures.joined;
}

pub place_of_all-parts-init : goal.place_of_all-parts-init
place_of_all-parts-init t c = record { grows = grows_none _; left = omega arith; place = all_none _ _ _ c.len-left.ensures }

pub place_of_all-meet-requires : goal.place_of_all-meet-requires
place_of_all-meet-requires t c =
    let parts = label_list c.args.parts.now in
    let at = c.at.ensures in
    let small = label_size-at parts (c.parts.left - 1) (label_tree c.at.result.now) at in (
      omega (arith, small, c.decreases),
      (
        subst (λ n. AllBelow n (label_tree c.at.result.now)) (sym c.parts.invariant.grows.names) (part_below _ parts (c.parts.left - 1) _ c.requires at),
        c.parts.invariant.place.has,
      ),
    )

pub place_of_all-parts-preserved : goal.place_of_all-parts-preserved
place_of_all-parts-preserved t c = record {
  grows = grows_on c.parts.invariant.grows c.meet.ensures.grows;
  left = omega arith;
  place = all_step (label_list c.args.parts.now) (c.parts.left - 1) c.parts.left (label_tree c.at.result.now) _ _ (omega arith) c.at.ensures c.parts.invariant.place c.in_ok-place.ensures.met;
}

pub place_of_some-parts-init : goal.place_of_some-parts-init
place_of_some-parts-init t c = record { grows = grows_none _; left = omega arith; place = some_none _ _ _ c.len-left.ensures }

pub place_of_some-join-requires : goal.place_of_some-join-requires
place_of_some-join-requires t c =
    let parts = label_list c.args.parts.now in
    let at = c.at.ensures in
    let small = label_size-at parts (c.parts.left - 1) (label_tree c.at.result.now) at in (
      omega (arith, small, c.decreases),
      (
        subst (λ n. AllBelow n (label_tree c.at.result.now)) (sym c.parts.invariant.grows.names) (part_below _ parts (c.parts.left - 1) _ c.requires at),
        c.parts.invariant.place.has,
      ),
    )

pub place_of_some-parts-preserved : goal.place_of_some-parts-preserved
place_of_some-parts-preserved t c = record {
  grows = grows_on c.parts.invariant.grows c.join.ensures.grows;
  left = omega arith;
  place = some_step (label_list c.args.parts.now) (c.parts.left - 1) c.parts.left (label_tree c.at.result.now) _ _ (omega arith) c.at.ensures c.parts.invariant.place c.in_ok-place.ensures.joined;
}

pub meet-returns-in-Some-clause-met : goal.meet-returns-in-Some-clause-met
meet-returns-in-Some-clause-met t c = IfOk-weaker c.branch-self.result _ _ (λ place is. met_branch c.args.self.now _ _ _ c.args.place place c.in-Some.ensures.is is) c.branch-self.ensures.place

pub meet-returns-clause-met : goal.meet-returns-clause-met
meet-returns-clause-met t c = IfOk-weaker c.combine.result _ _
    (λ place joined. joined_place c.place_of.ensures.grows c.combine.ensures.grows And (λ on. truth on (label_tree c.args.label.now)) _ _ place c.requires.has c.in_ok-other.ensures.place
    joined) c.combine.ensures.joined

pub join-returns-in-Some-clause-joined : goal.join-returns-in-Some-clause-joined
join-returns-in-Some-clause-joined t c = IfOk-weaker c.branch-self.result _ _ (λ place is. joined_branch c.args.self.now _ _ _ c.args.place place c.in-Some.ensures.is is) c.branch-self.ensures.place

pub join-returns-clause-joined : goal.join-returns-clause-joined
join-returns-clause-joined t c = IfOk-weaker c.combine.result _ _
    (λ place joined. joined_place c.place_of.ensures.grows c.combine.ensures.grows Or (λ on. truth on (label_tree c.args.label.now)) _ _ place c.requires.has c.in_ok-other.ensures.place
    joined) c.combine.ensures.joined

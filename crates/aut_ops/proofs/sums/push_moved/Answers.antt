use Rattle.std.proofs.Common.{◌∙◌, ◌+◌, ◌<◌, ◌++◌, ◌∷◌, ℕ, List, [], All, ap, map, subst, sym}
use Rattle.std.proofs.lemmas.List.Elements.{All-map}
use Rattle.aut_base.proofs.lists.Members.{read_has}
use Rattle.aut_core.specs.declared.link.Link.{Link}
use Rattle.aut_ops.proofs.links.ListSteps.{map_more}
use Rattle.aut_ops.specs.inner.Linked.{moved_link}
use Rattle.aut_ops.proofs.sums.push_moved.Goals as goal

pub push-requires : goal.push-requires
push-requires c =
    let low = read_has (λ (l : Link). All (λ mark. mark + c.args.sets < c.args.fresh) l.marks) c.args.more.now c.links.link-index c.link-item.result c.requires.marks c.links-test.true
    c.link-item.is in
    let is = c.in_ok-marks.ensures ∙ ap (λ (ms : List ℕ). ms ++ map (λ mark. mark + c.args.sets) c.link-item.result.marks) c.new-none.ensures in
    subst (All (λ mark. mark < c.args.fresh)) (sym is) (All-map (λ mark. mark < c.args.fresh) (λ mark. mark + c.args.sets) c.link-item.result.marks low)

pub links-preserved : goal.links-preserved
links-preserved c =
    let link = c.link-item.result in
    let marks = c.in_ok-push.ensures.ok ∙ ap (λ (ms : List ℕ). ms ++ c.args.fresh ∷ [])
    (c.in_ok-marks.ensures ∙ ap (λ (ms : List ℕ). ms ++ map (λ mark. mark + c.args.sets) link.marks) c.new-none.ensures) in
    map_more (moved_link c.args.states c.args.sets c.args.fresh) c.args.links.now c.links.links c.push-in-links.new.self c.args.more.now c.links.link-index link
    (record { from = link.from + c.args.states; guard = link.guard; to = link.to + c.args.states; marks = c.push.new.self }) c.links-test.true c.link-item.is c.links.invariant
    (λ i. record { from = link.from + c.args.states; guard = link.guard; to = link.to + c.args.states; marks = marks i }) c.in_ok-push-2.ensures.ok

use Rattle.std.proofs.Common.{◌≡◌, ◌<◌, List, arith, false, length, subst, sym, true}
use Rattle.std.specs.List.{All, Contains}
use Rattle.std.proofs.lemmas.List.Elements.{All-contains}
use Rattle.aut_base.proofs.Outcomes.{found_from, none_from}
use Rattle.lasso_emptiness.specs.declared.live.EdgeRef.{EdgeRef}
use Rattle.lasso_emptiness.specs.inner.Edges.{marks_of, on_side}
use Rattle.lasso_emptiness.specs.inner.Splits.{AddsOff}
use Rattle.lasso_emptiness.proofs.components.Dividing.{divided_all, divided_crossed, divided_off, popped_item}
use Rattle.lasso_emptiness.proofs.split.divide.Goals as goal

pub add_off_side-requires : goal.add_off_side-requires
add_off_side-requires c =
    subst (All (λ (e : EdgeRef). e.link < length c.args.links.now)) (sym c.as_slice.ensures)
    (All-contains (All (λ (e : EdgeRef). e.link < length c.args.links.now)) c.args.groups.items c.in-Some.group c.requires
    (c.groups.invariant.rest_inside c.in-Some.group (popped_item c.groups.groups.items c.pop.new.self.items c.in-Some.group c.in-Some.ensures.items)))

pub one_of-requires : goal.one_of-requires
one_of-requires c =
    subst (All (λ (e : EdgeRef). e.link < length c.args.links.now)) (sym c.as_slice-in-Some.ensures)
    (All-contains (All (λ (e : EdgeRef). e.link < length c.args.links.now)) c.args.groups.items c.in-Some.group c.requires
    (c.groups.invariant.rest_inside c.in-Some.group (popped_item c.groups.groups.items c.pop.new.self.items c.in-Some.group c.in-Some.ensures.items)))

pub groups-preserved-then-is_none : goal.groups-preserved-then-is_none
groups-preserved-then-is_none c =
    let none = none_from _ (λ (e : EdgeRef). Contains c.as_slice-in-Some.result.now e × (on_side c.args.side.set c.args.side.neg (marks_of c.args.links.now e) ≡ true)) c.one_of.result
    c.if-is_none.ensures c.one_of.ensures in
    divided_off c.args.links.now c.args.side.set c.args.side.neg c.args.groups.items c.groups.groups.items c.pop.new.self.items c.groups.off c.add_off_side.new.off c.groups.crossed.items
    c.in-Some.group c.in-Some.ensures.items
    (subst (λ (es : List EdgeRef). AddsOff c.args.links.now c.args.side.set c.args.side.neg es c.groups.off c.add_off_side.new.off) c.as_slice.ensures c.in_ok-add_off_side.ensures)
    (subst (All (λ (e : EdgeRef). on_side c.args.side.set c.args.side.neg (marks_of c.args.links.now e) ≡ false)) c.as_slice-in-Some.ensures none)
    c.groups.invariant

pub groups-preserved : goal.groups-preserved
groups-preserved c =
    let found = found_from _ (λ (e : EdgeRef). Contains c.as_slice-in-Some.result.now e × (on_side c.args.side.set c.args.side.neg (marks_of c.args.links.now e) ≡ true)) c.one_of.result
    c.if-is_none.ensures c.one_of.ensures in
    divided_crossed c.args.links.now c.args.side.set c.args.side.neg c.args.groups.items c.groups.groups.items c.pop.new.self.items c.groups.off c.add_off_side.new.off c.groups.crossed.items
    c.push.new.self.items c.in-Some.group c.in-Some.ensures.items
    (subst (λ (es : List EdgeRef). AddsOff c.args.links.now c.args.side.set c.args.side.neg es c.groups.off c.add_off_side.new.off) c.as_slice.ensures c.in_ok-add_off_side.ensures)
    c.in_ok-push.ensures.items (found.0, subst (λ (es : List EdgeRef). Contains es found.0) c.as_slice-in-Some.ensures found.1.0, found.1.1)
    c.groups.invariant

pub returns : goal.returns
returns c =
    divided_all c.args.links.now c.args.side.set c.args.side.neg c.args.groups.items c.groups.groups.items c.groups.off c.groups.crossed.items
    (omega (arith, c.groups.groups.ok.0, c.in_default.ensures.cases.0)) c.groups.invariant

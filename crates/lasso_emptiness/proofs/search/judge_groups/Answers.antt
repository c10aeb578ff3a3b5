use Rattle.std.proofs.Common.{◌≡◌, ◌<◌, List, arith, length, map, subst, sym, true}
use Rattle.std.specs.List.{All}
use Rattle.std.proofs.lemmas.Bool.{eqb-true}
use Rattle.std.proofs.lemmas.List.Elements.{All-contains}
use Rattle.aut_base.proofs.Outcomes.{some_in}
use Rattle.aut_base.specs.Formula.{formula_tree}
use Rattle.lasso_emptiness.specs.declared.live.EdgeRef.{EdgeRef}
use Rattle.lasso_emptiness.specs.inner.Edges.{marks_of, met_along}
use Rattle.lasso_emptiness.specs.inner.Judged.{IsNever}
use Rattle.lasso_emptiness.proofs.components.Dividing.{JudgedSoFar, judged_all_never, judged_all_open, judged_met, judged_never, judged_open, none_in_empty, none_in_never, popped_item}
use Rattle.lasso_emptiness.proofs.search.judge_groups.Goals as goal

pub judge-requires : goal.judge-requires
judge-requires c =
    subst (All (λ (e : EdgeRef). e.link < length c.args.links.now)) (sym c.as_slice.ensures)
    (All-contains (All (λ (e : EdgeRef). e.link < length c.args.links.now)) c.args.groups.items c.in-Some.group c.requires
    (c.groups.invariant.rest_inside c.in-Some.group (popped_item c.groups.groups.items c.pop.new.self.items c.in-Some.group c.in-Some.ensures.items)))

pub groups-preserved-then-is_empty : goal.groups-preserved-then-is_empty
groups-preserved-then-is_empty c =
    let f = formula_tree c.args.condition.now in
    judged_never c.args.links.now f c.args.groups.items c.groups.groups.items c.pop.new.self.items c.groups.left.items c.groups.undecided c.in-Some.group c.in-Some.ensures.items
    (none_in_empty c.args.links.now f c.in-Some.group (eqb-true (length c.in-Some.group) 0 (sym c.if-is_empty.ensures)))
    c.groups.invariant

pub groups-preserved-in-Never : goal.groups-preserved-in-Never
groups-preserved-in-Never c =
    let f = formula_tree c.args.condition.now in
    judged_never c.args.links.now f c.args.groups.items c.groups.groups.items c.pop.new.self.items c.groups.left.items c.groups.undecided c.in-Some.group c.in-Some.ensures.items
    (none_in_never c.args.links.now f c.in-Some.group (subst (λ (es : List EdgeRef). IsNever (map (marks_of c.args.links.now) es) f) c.as_slice.ensures c.in-Never.ensures))
    c.groups.invariant

pub returns-in-Met : goal.returns-in-Met
returns-in-Met c =
    let f = formula_tree c.args.condition.now in
    judged_met c.args.links.now f c.args.groups.items c.groups.groups.items c.pop.new.self.items c.groups.left.items c.groups.undecided c.in-Some.group c.in-Some.ensures.items
    (some_in c.in-Some.group c.if-is_empty.ensures)
    (subst (λ (es : List EdgeRef). met_along c.args.links.now es f ≡ true) c.as_slice.ensures c.in-Met.ensures)
    c.groups.invariant

pub groups-preserved : goal.groups-preserved
groups-preserved c =
    let f = formula_tree c.args.condition.now in
    judged_open c.args.links.now f c.args.groups.items c.groups.groups.items c.pop.new.self.items c.groups.left.items c.push.new.self.items c.groups.undecided c.in-Open.side c.in-Some.group
    c.in-Some.ensures.items
    c.in_ok-push-in-Open.ensures.items c.in-Open.ensures.0 c.groups.invariant

pub returns-in-Some-undecided : goal.returns-in-Some-undecided
returns-in-Some-undecided c =
    let f = formula_tree c.args.condition.now in
    judged_all_open c.args.links.now f c.args.groups.items c.groups.groups.items c.groups.left.items c.in-Some-undecided.side (omega (arith, c.groups.groups.ok.0, c.in_default.ensures.cases.0))
    (subst (JudgedSoFar c.args.links.now f c.args.groups.items c.groups.groups.items c.groups.left.items) c.in-Some-undecided.is c.groups.invariant)

pub returns : goal.returns
returns c =
    let f = formula_tree c.args.condition.now in
    judged_all_never c.args.links.now f c.args.groups.items c.groups.groups.items c.groups.left.items (omega (arith, c.groups.groups.ok.0, c.in_default.ensures.cases.0))
    (subst (JudgedSoFar c.args.links.now f c.args.groups.items c.groups.groups.items c.groups.left.items) c.in-None.is c.groups.invariant)

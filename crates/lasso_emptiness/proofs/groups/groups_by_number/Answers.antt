use Rattle.std.proofs.Common.{refl, sym}
use Rattle.lasso_emptiness.proofs.components.Grouping.{groups_more, groups_skip}
use Rattle.lasso_emptiness.proofs.groups.groups_by_number.Goals as goal

pub edges-preserved : goal.edges-preserved
edges-preserved c =
    groups_more c.args.numbers.now c.args.edges.now c.edges.edge-index c.edges-test.true c.edges.groups.items c.add_to_group.new.groups.items _ refl (sym c.if-number-numbers.false)
    c.edges.invariant c.in_ok-add_to_group.ensures

pub edges-preserved-then-number-numbers : goal.edges-preserved-then-number-numbers
edges-preserved-then-number-numbers c =
    groups_skip c.args.numbers.now c.args.edges.now c.edges.edge-index c.edges-test.true c.edges.groups.items c.if-number-numbers.true c.edges.invariant

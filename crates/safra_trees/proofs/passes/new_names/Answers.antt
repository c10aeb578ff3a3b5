use Rattle.std.proofs.Common.{◌∙◌, ◌+◌, ap, arith, sym}
use Rattle.safra_trees.proofs.flat_step.Loops.{mapped_range, rank_with, rank_without}
use Rattle.safra_trees.proofs.list_step.Ranks.{rank_low}
use Rattle.safra_trees.specs.inner.Names.{rank}
use Rattle.safra_trees.specs.inner.Passes.{flag}
use Rattle.safra_trees.proofs.passes.new_names.Goals as goal

pub names-preserved-then-not-stay-name : goal.names-preserved-then-not-stay-name
names-preserved-then-not-stay-name c =
    let p = flag c.args.stay.now in
    record {
      ranks = mapped_range (rank p) c.names.name c.names.ranks.items c.push.new.self.items c.names.count c.names.invariant.ranks c.names.invariant.count c.in_ok-push.ensures.items;
      count = c.names.invariant.count ∙ sym (rank_without p c.names.name c.if-not-stay-name.true);
    }

pub overflow_add-count : goal.overflow_add-count
overflow_add-count c = omega (arith, rank_low (flag c.args.stay.now) c.names.name, c.names.invariant.count, c.names-test.true, c.requires)

pub names-preserved : goal.names-preserved
names-preserved c =
    let p = flag c.args.stay.now in
    record {
      ranks = mapped_range (rank p) c.names.name c.names.ranks.items c.push.new.self.items c.names.count c.names.invariant.ranks c.names.invariant.count c.in_ok-push.ensures.items;
      count = ap (λ k. k + 1) c.names.invariant.count ∙ sym (rank_with p c.names.name c.if-not-stay-name.false);
    }

pub overflow_cast-count : goal.overflow_cast-count
overflow_cast-count c = omega (arith, rank_low (flag c.args.stay.now) c.names.name, c.names.invariant.count, c.names-test.true, c.requires)

use Rattle.std.proofs.Common.{◌∙◌, ap, map, sym}
use Rattle.safra_trees.proofs.flat_step.Loops.{mapped_names, names_without}
use Rattle.safra_trees.specs.Flat.{at}
use Rattle.safra_trees.specs.inner.Claims.{grown_parent}
use Rattle.safra_trees.specs.inner.Passes.{flag}
use Rattle.safra_trees.proofs.passes.new_parents.Goals as goal

pub names-preserved-then-not-stay-name : goal.names-preserved-then-not-stay-name
names-preserved-then-not-stay-name c =
    c.names.invariant ∙ ap (map (λ y. at c.args.ranks.now (grown_parent c.args.parents.now y))) (sym (names_without (flag c.args.stay.now) c.names.name c.if-not-stay-name.true))

pub names-preserved : goal.names-preserved
names-preserved c =
    mapped_names (λ y. at c.args.ranks.now (grown_parent c.args.parents.now y)) (flag c.args.stay.now) c.names.name c.names.made.items c.push.new.self.items _
    c.if-not-stay-name.false c.names.invariant (ap (at c.args.ranks.now) c.grown_parent.ensures) c.in_ok-push.ensures.items

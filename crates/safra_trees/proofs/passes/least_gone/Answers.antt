use Rattle.std.proofs.Common.{◌∙◌, ap, not, sym}
use Rattle.safra_trees.proofs.flat_step.Loops.{first_name, names_without}
use Rattle.safra_trees.specs.inner.Passes.{flag}
use Rattle.safra_trees.proofs.passes.least_gone.Goals as goal

pub returns-then-not-stay-name : goal.returns-then-not-stay-name
returns-then-not-stay-name c = sym (first_name (λ y. not (flag c.args.stay.now y)) c.args.nodes c.names.name c.names.invariant (ap not c.if-not-stay-name.true) c.names-test.true)

pub names-preserved : goal.names-preserved
names-preserved c = names_without (λ y. not (flag c.args.stay.now y)) c.names.name (ap not c.if-not-stay-name.false) ∙ c.names.invariant

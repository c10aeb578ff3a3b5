use Rattle.std.proofs.Common.{List, subst, sym}
use Rattle.label_guards.specs.Nodes.{IsReducedDiagram}
use Rattle.label_guards.specs.declared.nodes.Node.{Node}
use Rattle.label_guards.proofs.diagrams.Taken.{taken_reduced}
use Rattle.label_guards.proofs.nodes.Nodes.cut.Goals as goal

pub invariant_of-self : goal.invariant_of-self
invariant_of-self c =
    subst (λ (ns : List Node). IsReducedDiagram c.self.inside.names ns) (sym c.truncate.ensures) (taken_reduced c.self.inside.names c.self.inside.list c.args.count c.self.invariant)

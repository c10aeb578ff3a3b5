use Rattle.std.proofs.Common.{subst}
use Rattle.label_guards.specs.Drafts.{Drafts}
use Rattle.label_guards.specs.Nodes.{IsReducedDiagram}
use Rattle.label_guards.specs.declared.guards.Operation.TheVariants.{And}
use Rattle.label_guards.proofs.labelled.LabelTruth.{joined_guard}
use Rattle.label_guards.proofs.draft.Draft.and.Goals as goal

pub returns-clause-and : goal.returns-clause-and
returns-clause-and c =
    let was = subst (λ (d : Drafts). IsReducedDiagram d.now.names d.now.nodes) c.self.view_is c.reduced.ensures in
    let is = subst (λ (d : Drafts). IsReducedDiagram d.now.names d.now.nodes) c.self-2.view_is c.reduced-2.ensures in
    joined_guard was is c.combine.ensures.grows And c.args.g c.args.h c.in_ok-place.place c.requires.left c.requires.right c.in_ok-place.ensures.joined

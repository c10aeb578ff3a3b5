use Rattle.label_guards.proofs.labelled.PlaceCubes.{literal_holds, literal_fails}
use Rattle.label_guards.proofs.guards.Guards.literal_at.Goals as goal

pub returns-in-0-eq1 : goal.returns-in-0-eq1
returns-in-0-eq1 c = literal_holds _ c.reduced.ensures _ c.node_at-node.result c.node_at-node.ensures c.requires c.in-0-eq1.is-0 c.in-0-eq1.is-1

pub returns-in-1-eq0 : goal.returns-in-1-eq0
returns-in-1-eq0 c = literal_fails _ c.reduced.ensures _ c.node_at-node.result c.node_at-node.ensures c.requires c.in-1-eq0.is-0 c.in-1-eq0.is-1

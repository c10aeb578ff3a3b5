use Rattle.std.specs.HashMap.{get}
use Rattle.label_guards.specs.Nodes.{equal_nodes}
use Rattle.label_guards.proofs.diagrams.Numbered.{numbered_pop}
use Rattle.label_guards.proofs.node_list.NodeList.pop.Goals as goal

pub invariant_of-self : goal.invariant_of-self
invariant_of-self c = numbered_pop _ _ (get equal_nodes c.self.inside.numbers) _ c.in-Some.node c.in-Some.ensures.items c.self.invariant c.remove.ensures.updates.0

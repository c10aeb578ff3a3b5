use Rattle.std.proofs.Common.{ap, arith, length}
use Rattle.aut_ops.proofs.flagged.Alone.{passable_links}
use Rattle.aut_ops.proofs.passable.satisfiable_graph.Goals as goal

pub returns-clause-arcs : goal.returns-clause-arcs
returns-clause-arcs c = passable_links c.args.a.now c.links.arcs c.links.link-index (omega (arith, ap length c.links-link-items.ensures, c.links-test.false)) c.links.invariant

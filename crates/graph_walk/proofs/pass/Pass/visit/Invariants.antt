use Rattle.std.proofs.Common.{◌≡◌}
use Rattle.graph_walk.specs.inner.Marks.{node_mark}
use Rattle.graph_walk.specs.inner.Pass.{IsVisiting, NoneFreshened, steps_left}
use Rattle.graph_walk.specs.declared.pass.Mark.TheVariants.{Fresh}
use Rattle.graph_walk.proofs.pass.Pass.visit.Given as goal

abbrev pub invariant-walk : goal.invariant-walk
invariant-walk l = record {
  midway : IsVisiting l.fn.graph.nodes l.fn.graph.arcs l.self l.top;
  freshened : NoneFreshened l.fn.self l.self;
  entered : node_mark l.self.marks.items l.fn.root ≡ Fresh → ⊥;
}

abbrev pub decreases-walk : goal.decreases-walk
decreases-walk l = steps_left l.fn.graph.arcs l.self l.top

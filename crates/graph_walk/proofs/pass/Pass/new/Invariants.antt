use Rattle.std.proofs.Common.{◌≡◌, ◌<◌, ℕ}
use Rattle.graph_walk.specs.inner.Marks.{node_mark}
use Rattle.graph_walk.specs.inner.Pass.{IsIdle}
use Rattle.graph_walk.specs.declared.pass.Mark.TheVariants.{Fresh}
use Rattle.graph_walk.proofs.pass.Pass.new.Given as goal

abbrev pub invariant-roots : goal.invariant-roots
invariant-roots l = record {
  idle : IsIdle l.fn.graph.nodes l.fn.graph.arcs l.pass;
  entered : (x : ℕ) → x < l.root → node_mark l.pass.marks.items x ≡ Fresh → ⊥;
}

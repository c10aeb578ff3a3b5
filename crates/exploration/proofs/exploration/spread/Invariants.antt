use Rattle.std.proofs.Common.{◌≡◌, map}
use Rattle.exploration.proofs.Spreading.{IsSpread}
use Rattle.exploration.proofs.exploration.spread.Given as goal

abbrev pub invariant-classes : goal.invariant-classes
invariant-classes g l = record {
  frame : g.S.TransitionSystem.frame l.system ≡ g.S.TransitionSystem.frame l.fn.system;
  spread : IsSpread (g.S.TransitionSystem.is_output (g.S.TransitionSystem.frame l.fn.system)) g.S.TransitionSystem.same l.fn.limits (g.S.TransitionSystem.moves l.fn.system)
      (g.S.TransitionSystem.moves l.system)
      (g.S.TransitionSystem.fits l.fn.system) (g.S.TransitionSystem.fits l.system)
      (g.S.TransitionSystem.is_class l.fn.system) (g.S.TransitionSystem.is_class l.system) l.fn.at l.number
      (map g.S.TransitionSystem.seen l.fn.found.states.keys) l.fn.found.edges.items (map g.S.TransitionSystem.seen l.found.states.keys) l.found.edges.items;
}

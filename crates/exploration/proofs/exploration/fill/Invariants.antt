use Rattle.std.proofs.Common.{◌≡◌, ◌-◌, None, map}
use Rattle.exploration.proofs.Exploring.{IsExploring}
use Rattle.exploration.specs.Explorations.{stage_of}
use Rattle.exploration.proofs.exploration.fill.Given as goal

abbrev pub invariant-states : goal.invariant-states
invariant-states g l = record {
  frame : g.S.TransitionSystem.frame l.system ≡ g.S.TransitionSystem.frame l.fn.system;
  exploring : IsExploring (g.S.TransitionSystem.is_output (g.S.TransitionSystem.frame l.fn.system)) g.S.TransitionSystem.same l.fn.limits (g.S.TransitionSystem.moves l.fn.system)
      (g.S.TransitionSystem.fits l.fn.system)
      (g.S.TransitionSystem.is_class l.fn.system) (stage_of (map g.S.TransitionSystem.seen l.fn.found.states.keys) l.fn.found.edges.items 0 0 None) (g.S.TransitionSystem.moves l.system)
      (g.S.TransitionSystem.fits l.system) (g.S.TransitionSystem.is_class l.system) l.done l.sum (map g.S.TransitionSystem.seen l.found.states.keys) l.found.edges.items;
}

abbrev pub decreases-states : goal.decreases-states
decreases-states g l = l.fn.limits.states - l.done

use Rattle.std.proofs.Common.{map, take}
use Rattle.std.specs.List.{list_any}
use Rattle.aut_base.specs.Label.{truth}
use Rattle.aut_core.specs.SymbolicAutomata.{edge_of}
use Rattle.label_guards.specs.Guards.{IsGuardOf}
use Rattle.label_guards.specs.Store.{Keeps}
use Rattle.aut_ops.proofs.completion.gap_of.Given as goal

abbrev pub invariant-row : goal.invariant-row
invariant-row l = record {
  keeps : Keeps l.fn.guards l.guards;
  met : IsGuardOf l.guards (λ on. list_any (λ e. truth on e.label) (map (edge_of l.fn.guards) (take l.link-index l.row))) l.met;
}

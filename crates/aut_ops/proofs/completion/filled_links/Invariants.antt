use Rattle.std.specs.Prelude.{flat_map}
use Rattle.std.specs.List.{range_with_len}
use Rattle.aut_core.specs.Links.{StandFor}
use Rattle.aut_core.specs.SymbolicAutomata.{automaton_of}
use Rattle.label_guards.specs.Store.{Keeps}
use Rattle.aut_ops.specs.inner.Parts.{filled_edges}
use Rattle.aut_ops.proofs.completion.filled_links.Given as goal

abbrev pub invariant-states : goal.invariant-states
invariant-states l = record {
  keeps : Keeps l.fn.guards l.guards;
  links : StandFor l.guards l.links (flat_map (filled_edges (automaton_of l.a)) (range_with_len 0 l.state));
}

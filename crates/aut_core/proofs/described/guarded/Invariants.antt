use Rattle.std.proofs.Common.{◌≡◌, map, take}
use Rattle.aut_base.specs.Automaton.{labelled_edge}
use Rattle.aut_base.specs.CanonicalLabel.{canonical_label}
use Rattle.aut_core.specs.Links.{StandFor}
use Rattle.aut_core.proofs.described.guarded.Given as goal

abbrev pub invariant-edges : goal.invariant-edges
invariant-edges l = record {
  names : l.guards.names ≡ l.fn.guards.names;
  links : StandFor l.guards l.links (map (λ e. record (labelled_edge e) { label = canonical_label l.fn.guards.names (labelled_edge e).label }) (take l.edge-index l.edges));
}

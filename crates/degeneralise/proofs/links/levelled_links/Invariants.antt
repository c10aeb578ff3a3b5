use Rattle.std.proofs.Common.{[], flat_map, map}
use Rattle.std.specs.List.{range_with_len}
use Rattle.aut_core.specs.SymbolicAutomata.{edge_of}
use Rattle.aut_core.specs.Surveys.{edges_from}
use Rattle.fin_removal.specs.inner.Links.{AddsLinks}
use Rattle.degeneralise.specs.Buchi.{level_edges, watch_of}
use Rattle.degeneralise.proofs.links.levelled_links.Given as goal

abbrev pub invariant-states : goal.invariant-states
invariant-states l = AddsLinks l.a.store [] l.links
    (flat_map (λ state. level_edges l.k (edges_from state (map (edge_of l.a.store) l.a.links)) (watch_of l.states l.watches state)) (range_with_len 0 l.state))

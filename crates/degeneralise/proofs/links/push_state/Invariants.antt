use Rattle.std.proofs.Common.{flat_map, map}
use Rattle.std.specs.List.{range_with_len}
use Rattle.aut_core.specs.SymbolicAutomata.{edge_of}
use Rattle.aut_core.specs.Surveys.{edges_from}
use Rattle.fin_removal.specs.inner.Links.{AddsLinks}
use Rattle.degeneralise.specs.Buchi.{edge_at_level}
use Rattle.degeneralise.proofs.links.push_state.Given as goal

abbrev pub invariant-levels : goal.invariant-levels
invariant-levels l = AddsLinks l.a.store l.fn.links l.links
    (flat_map (λ level. map (edge_at_level l.k l.watch level) (edges_from l.state (map (edge_of l.a.store) l.a.links))) (range_with_len 0 l.level))

use Rattle.std.proofs.Common.{List, map, subst}
use Rattle.aut_base.specs.Automaton.{LabelledEdge}
use Rattle.aut_core.specs.SymbolicAutomata.{edge_of}
use Rattle.aut_core.specs.Surveys.{edges_from}
use Rattle.fin_removal.proofs.LinkSteps.{adds_then}
use Rattle.fin_removal.specs.inner.Links.{AddsLinks}
use Rattle.degeneralise.specs.Buchi.{edge_at_level}
use Rattle.degeneralise.proofs.LevelSteps.{flat_range_on}
use Rattle.degeneralise.proofs.links.push_state.Goals as goal

pub levels-preserved : goal.levels-preserved
levels-preserved c =
    let s = c.args.a.now.store in
    subst (λ (es : List LabelledEdge). AddsLinks s c.args.links.now c.push_level.new.links es)
    (flat_range_on (λ level. map (edge_at_level c.args.k c.args.watch.now level) (edges_from c.args.state (map (edge_of s) c.args.a.now.links))) c.levels.level)
    (adds_then c.levels.invariant c.in_ok-push_level.ensures)

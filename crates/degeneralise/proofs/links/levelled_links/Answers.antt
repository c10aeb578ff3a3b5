use Rattle.std.proofs.Common.{[], List, map, subst, ℕ}
use Rattle.aut_base.specs.Automaton.{LabelledEdge}
use Rattle.aut_core.specs.SymbolicAutomata.{edge_of}
use Rattle.aut_core.specs.Surveys.{edges_from}
use Rattle.fin_removal.proofs.LinkSteps.{adds_then}
use Rattle.fin_removal.specs.inner.Links.{AddsLinks}
use Rattle.degeneralise.specs.Buchi.{Watch, level_edges, watch_of}
use Rattle.degeneralise.proofs.LevelSteps.{flat_range_on}
use Rattle.degeneralise.proofs.links.levelled_links.Goals as goal

pub states-preserved : goal.states-preserved
states-preserved c =
    let s = c.args.a.now.store in
    let pieces : ℕ → List LabelledEdge = λ state. level_edges c.args.k (edges_from state (map (edge_of s) c.args.a.now.links)) (watch_of c.args.states c.args.watches.now state) in
    let one = subst (λ (w : Watch). AddsLinks s c.states.links c.push_state.new.links (level_edges c.args.k (edges_from c.states.state (map (edge_of s) c.args.a.now.links)) w)) c.watch_of.ensures
    c.in_ok-push_state.ensures in
    subst (λ (es : List LabelledEdge). AddsLinks s [] c.push_state.new.links es) (flat_range_on pieces c.states.state) (adds_then c.states.invariant one)

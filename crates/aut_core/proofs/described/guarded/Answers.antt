use Rattle.std.proofs.Common.{◌∙◌, ap}
use Rattle.aut_base.specs.Automaton.{labelled_edge}
use Rattle.aut_base.specs.CanonicalLabel.{canonical_label}
use Rattle.aut_base.specs.declared.description.Edge.{Edge}
use Rattle.aut_core.proofs.Following.{stand_more}
use Rattle.aut_core.proofs.described.guarded.Goals as goal

pub edges-preserved : goal.edges-preserved
edges-preserved c =
    let edge = c.edge-item.result in
    let label = c.in_ok-of_label.ensures.label ∙ ap (λ n. canonical_label n (labelled_edge edge).label) c.edges.invariant.names in
    let marks = c.in_ok-copy_marks.ensures in
    record {
      names = c.of_label.ensures.keeps.names ∙ c.edges.invariant.names;
      links = stand_more (λ (e : Edge). record (labelled_edge e) { label = canonical_label c.args.guards.now.names (labelled_edge e).label }) c.args.edges.now c.edges.edge-index edge c.edges.guards
          c.of_label.new.self c.edges.links c.push.new.self (record { from = edge.from; guard = c.in_ok-of_label.field-0; to = edge.to; marks = c.in_ok-copy_marks.field-0 })
          c.edges-test.true c.edge-item.is c.edges.invariant.links c.of_label.ensures.keeps c.in_ok-of_label.ensures.has
          (λ i. record { from = edge.from; label = label i; to = edge.to; marks = marks i }) c.in_ok-push.ensures.ok;
    }

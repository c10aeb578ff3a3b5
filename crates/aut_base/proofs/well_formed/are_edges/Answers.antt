use Rattle.std.proofs.Common.{arith, rules}
use Rattle.std.proofs.lemmas.List.Elements.{All-map}
use Rattle.aut_base.specs.Automaton.{labelled_edge, automaton, IsEdgeOf}
use Rattle.aut_base.proofs.order.WellFormed.{one_of_all}
use Rattle.aut_base.proofs.well_formed.are_edges.Goals as goal

pub returns-then-not-is_edge : goal.returns-then-not-is_edge
returns-then-not-is_edge c = (
  λ h. absurd cc,
  λ all. let yes =
      c.is_edge.ensures.1 (one_of_all (IsEdgeOf (automaton c.args.description.now)) c.args.edges.now c.edges.edge-index c.edge-item.result (omega arith) c.edge-item.is all) in
      absurd (search (rules, yes)),
)

pub returns : goal.returns
returns c = (λ h. All-map (IsEdgeOf (automaton c.args.description.now)) labelled_edge c.args.edges.now (λ k d near. c.edges.invariant k d (omega arith)), λ all. search rules)

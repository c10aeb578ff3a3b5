use Rattle.std.proofs.Common.{◌∙◌, ◌<◌, ◌↔◌, ◌++◌, ◌∷◌, [], ℕ, List, ap, false, get_or, map}
use Rattle.std.specs.Prelude.{IsTrue}
use Rattle.std.proofs.lemmas.Result.{IfOk-weaker}
use Rattle.graph_walk.specs.Reach.{AreReachFlags}
use Rattle.graph_walk.specs.Walk.{Reaches}
use Rattle.lasso_emptiness.specs.inner.Edges.{arc_of}
use Rattle.lasso_emptiness.proofs.trails.Backwards.{has_nodes_back, reaching_exact}
use Rattle.lasso_emptiness.proofs.word.reaching.Goals as goal

pub reach-requires-clause-nodes : goal.reach-requires-clause-nodes
reach-requires-clause-nodes c = has_nodes_back _ c.args.states _ c.args.edges.now c.in_ok-backward_graph_of.ensures.nodes c.in_ok-backward_graph_of.ensures.arcs c.requires.ends

pub returns-clause-exact : goal.returns-clause-exact
returns-clause-exact c =
    IfOk-weaker c.reach.result (AreReachFlags c.in_ok-backward_graph_of.field-0.nodes c.in_ok-backward_graph_of.field-0.arcs c.push.new.self)
    (λ flags. (p : ℕ) → p < c.args.states → IsTrue (get_or flags p false) ↔ Reaches (map arc_of c.args.edges.now) p c.args.state)
    (reaching_exact _ c.args.states _ c.push.new.self c.args.edges.now c.args.state c.in_ok-backward_graph_of.ensures.nodes c.in_ok-backward_graph_of.ensures.arcs
    (c.in_ok-push.ensures.ok ∙ ap (λ (ns : List ℕ). ns ++ c.args.state ∷ []) c.new-from.ensures))
    c.reach.ensures

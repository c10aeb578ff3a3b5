use Rattle.aut_base.specs.declared.limit.TheConstants.{MOST_DEPTH}
use Rattle.hoa_parser.proofs.reading.RuleParts.{list_next, list_none}
use Rattle.hoa_parser.proofs.reading.Steps.{fails_after, handed_on, no_memory, reads_then, reads_end}
use Rattle.hoa_parser.specs.inner.Expecting as part
use Rattle.hoa_parser.specs.Phrases.{OptionalWithin, edge_meaning, edge_tokens}
use Rattle.hoa_parser.specs.Raw.{written_edge}
use Rattle.hoa_parser.proofs.grammar.OtherTokens.{other}
use Rattle.hoa_parser.proofs.parse.body.edges.Goals as goal

pub edges-init : goal.edges-init
edges-init g c = list_none part.Edges (λ e. OptionalWithin MOST_DEPTH e.label) edge_tokens edge_meaning written_edge _ _ c.new-edges.ensures c.requires.unspent

pub edges-preserved : goal.edges-preserved
edges-preserved g c = list_next part.Edges (λ e. OptionalWithin MOST_DEPTH e.label) edge_tokens edge_meaning written_edge _ _ _ c.in_ok-push.ensures c.edges.invariant c.in_ok-edge.ensures.reads

pub returns-in_err-edge : goal.returns-in_err-edge
returns-in_err-edge g c = record { reads = handed_on _ _ _ c.from_residual.ensures.1 (fails_after c.edges.invariant c.in_err-edge.ensures.reads) }

pub returns-in_err-push : goal.returns-in_err-push
returns-in_err-push g c = record { reads = handed_on _ _ _ c.from_residual-in_err-push.ensures.1 (no_memory (reads_then c.edges.invariant c.in_ok-edge.ensures.reads)) }

pub returns-in_default : goal.returns-in_default
returns-in_default g c = record { reads = reads_end part.Edges (other part.Edges _ (c.in_default.not-LeftBracket, c.in_default.not-Int)) c.edges.invariant }

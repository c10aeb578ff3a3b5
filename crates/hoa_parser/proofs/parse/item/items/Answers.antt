use Rattle.std.proofs.Common.{[]}
use Rattle.aut_base.specs.declared.limit.TheConstants.{MOST_DEPTH}
use Rattle.hoa_parser.proofs.reading.RuleParts.{list_next, list_none}
use Rattle.hoa_parser.proofs.reading.Steps.{fails_after, handed_on, no_memory, reads_then, token_refused}
use Rattle.hoa_parser.specs.inner.Expecting as part
use Rattle.hoa_parser.specs.Phrases.{ItemWithin, item_meaning, item_tokens}
use Rattle.hoa_parser.specs.Raw.{written_item}
use Rattle.hoa_parser.proofs.grammar.OtherTokens.{other}
use Rattle.hoa_parser.proofs.parse.item.items.Goals as goal

pub items-init : goal.items-init
items-init g c = list_none part.Items (ItemWithin MOST_DEPTH) item_tokens item_meaning written_item _ _ c.new-items.ensures c.requires.unspent

pub items-preserved : goal.items-preserved
items-preserved g c = list_next part.Items (ItemWithin MOST_DEPTH) item_tokens item_meaning written_item _ _ _ c.in_ok-push.ensures.ok c.items.invariant c.in_ok-item.ensures.reads

pub returns-in_err-item-clause-reads : goal.returns-in_err-item-clause-reads
returns-in_err-item-clause-reads g c = handed_on _ _ _ c.from_residual.ensures.1 (fails_after c.items.invariant c.in_err-item.ensures.reads)

pub returns-in_err-push-clause-reads : goal.returns-in_err-push-clause-reads
returns-in_err-push-clause-reads g c = handed_on _ _ _ c.from_residual-in_err-push.ensures.1 (no_memory (reads_then c.items.invariant c.in_ok-item.ensures.reads))

pub returns-in_default-clause-reads : goal.returns-in_default-clause-reads
returns-in_default-clause-reads g c = fails_after c.items.invariant
    (token_refused part.Items [] _ _ c.items.invariant.spent c.refused.ensures (other part.Items _ (c.in_default.not-HeaderName, c.in_default.not-Body)))

pub returns-in-Body-clause-reads : goal.returns-in-Body-clause-reads
returns-in-Body-clause-reads g c = c.items.invariant

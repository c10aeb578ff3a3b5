use Rattle.std.proofs.Common.{[]}
use Rattle.aut_base.specs.declared.limit.TheConstants.{MOST_DEPTH}
use Rattle.hoa_parser.proofs.reading.RuleParts.{list_next, list_none}
use Rattle.hoa_parser.proofs.reading.Steps.{fails_after, handed_on, no_memory, reads_then, reads_as, reads_at, token_refused}
use Rattle.hoa_parser.specs.inner.Expecting as part
use Rattle.hoa_parser.specs.Phrases.{StateWithin, state_meaning, state_tokens}
use Rattle.hoa_parser.specs.Raw.{written_state}
use Rattle.hoa_parser.proofs.grammar.OtherTokens.{other}
use Rattle.hoa_lexer.specs.declared.token.Token.TheVariants as token
use Rattle.hoa_parser.proofs.parse.body.states.Goals as goal

pub states-init : goal.states-init
states-init g c = list_none part.States (StateWithin MOST_DEPTH) state_tokens state_meaning written_state _ _ c.new-states.ensures c.requires.unspent

pub states-preserved : goal.states-preserved
states-preserved g c = list_next part.States (StateWithin MOST_DEPTH) state_tokens state_meaning written_state _ _ _ c.in_ok-push.ensures.ok c.states.invariant c.in_ok-state.ensures.reads

pub returns-in_err-state-clause-reads : goal.returns-in_err-state-clause-reads
returns-in_err-state-clause-reads g c = handed_on _ _ _ c.from_residual.ensures.1 (fails_after c.states.invariant c.in_err-state.ensures.reads)

pub returns-in_err-push-clause-reads : goal.returns-in_err-push-clause-reads
returns-in_err-push-clause-reads g c = handed_on _ _ _ c.from_residual-in_err-push.ensures.1 (no_memory (reads_then c.states.invariant c.in_ok-state.ensures.reads))

pub returns-in_default-clause-reads : goal.returns-in_default-clause-reads
returns-in_default-clause-reads g c = fails_after c.states.invariant
    (token_refused part.States [] _ _ c.states.invariant.spent c.refused.ensures (other part.States _ (c.in_default.not-HeaderName, c.in_default.not-End)))

pub returns-in-End-clause-reads : goal.returns-in-End-clause-reads
returns-in-End-clause-reads g c = reads_as (λ a b h. record { written = h.0; ends = h.1 }) (reads_at token.End c.in-End.is c.states.invariant)

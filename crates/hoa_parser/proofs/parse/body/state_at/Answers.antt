use Rattle.std.proofs.Common.{[], refl, sym}
use Rattle.hoa_parser.proofs.grammar.OtherTokens.{other}
use Rattle.hoa_parser.proofs.reading.Bodies.{is_state_name, no_state_name, state_is}
use Rattle.hoa_parser.proofs.reading.Steps.{handed_on, next_fails, next_reads, reads_as, token_refused}
use Rattle.hoa_parser.specs.inner.Expecting as part
use Rattle.hoa_parser.proofs.parse.body.state_at.Goals as goal

pub returns-in_default-clause-reads : goal.returns-in_default-clause-reads
returns-in_default-clause-reads g c = token_refused part.States [] _ _ c.requires.unspent c.refused.ensures (other part.States _ (c.in_default.not-HeaderName, c.requires.begins))

pub returns-in_default-header-clause-reads : goal.returns-in_default-header-clause-reads
returns-in_default-header-clause-reads g c =
    rw c.in-HeaderName.is (token_refused part.States [] _ _ c.requires.unspent c.refused-in_default-header.ensures
    (no_state_name c.in-HeaderName.name _ c.header_named-header.ensures c.in_default-header.not-State))

pub head-requires-clause-begins : goal.head-requires-clause-begins
head-requires-clause-begins g c = is_state_name _ c.in-HeaderName.name refl (sym c.in-State.ensures)

pub returns-in_err-head-clause-reads : goal.returns-in_err-head-clause-reads
returns-in_err-head-clause-reads g c = rw c.in-HeaderName.is (handed_on _ _ _ c.from_residual.ensures.1 c.in_err-head.ensures.reads)

pub returns-in_err-edges-clause-reads : goal.returns-in_err-edges-clause-reads
returns-in_err-edges-clause-reads g c =
    rw c.in-HeaderName.is (handed_on _ _ _ c.from_residual-in_err-edges.ensures.1 (next_fails _ c.in_ok-head.ensures.reads c.in_err-edges.ensures.reads))

pub returns-clause-reads : goal.returns-clause-reads
returns-clause-reads g c = rw c.in-HeaderName.is (reads_as (λ a e h. state_is _ _ a _ e h.1 h.2) (next_reads c.in_ok-head.ensures.reads c.in_ok-edges.ensures.reads))

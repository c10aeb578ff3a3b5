use Rattle.std.proofs.Common.{[], refl}
use Rattle.hoa_lexer.specs.declared.token.Token.TheVariants as token
use Rattle.hoa_parser.proofs.reading.Automata.{opening, whole_is}
use Rattle.hoa_parser.proofs.reading.Steps.{fails_after, handed_on, next_fails, next_reads, reads_as, reads_then, takes, takes_last}
use Rattle.hoa_parser.specs.inner.Expecting as part
use Rattle.hoa_parser.proofs.parse.automaton.Goals as goal

pub returns-in_err-advance-clause-reads : goal.returns-in_err-advance-clause-reads
returns-in_err-advance-clause-reads g c = handed_on _ _ _ c.from_residual.ensures.1 (takes_last part.Whole [] opening c.requires.opens refl refl refl c.in_err-advance.ensures)

pub returns-in_err-version-clause-reads : goal.returns-in_err-version-clause-reads
returns-in_err-version-clause-reads g c =
    handed_on _ _ _ c.from_residual-in_err-version.ensures.1 (next_fails _ (takes part.Whole [] opening c.requires.opens refl refl refl c.in_ok-advance.ensures) c.in_err-version.ensures.reads)

pub returns-in_err-items-clause-reads : goal.returns-in_err-items-clause-reads
returns-in_err-items-clause-reads g c = handed_on _ _ _ c.from_residual-in_err-items.ensures.1
    (fails_after (next_reads (takes part.Whole [] opening c.requires.opens refl refl refl c.in_ok-advance.ensures) c.in_ok-version.ensures.reads) c.in_err-items.ensures.reads)

pub returns-in_err-advance-2-clause-reads : goal.returns-in_err-advance-2-clause-reads
returns-in_err-advance-2-clause-reads g c =
    handed_on _ _ _ c.from_residual-in_err-advance-2.ensures.1
    (fails_after (reads_then (next_reads (takes part.Whole [] opening c.requires.opens refl refl refl c.in_ok-advance.ensures) c.in_ok-version.ensures.reads) c.in_ok-items.ensures.reads)
    (takes_last part.Items [] token.Body c.in_ok-items.ensures.ends refl refl refl c.in_err-advance-2.ensures))

pub returns-in_err-states-clause-reads : goal.returns-in_err-states-clause-reads
returns-in_err-states-clause-reads g c = handed_on _ _ _ c.from_residual-in_err-states.ensures.1
    (fails_after (reads_then (reads_then (next_reads (takes part.Whole [] opening c.requires.opens refl refl refl c.in_ok-advance.ensures) c.in_ok-version.ensures.reads)
    c.in_ok-items.ensures.reads) (takes part.Items [] token.Body c.in_ok-items.ensures.ends refl refl refl c.in_ok-advance-2.ensures)) c.in_err-states.ensures.reads)

pub returns-clause-reads : goal.returns-clause-reads
returns-clause-reads g c =
    reads_as (λ a f h. whole_is _ _ _ a _ _ _ _ f h.1.1.1.1 h.1.1.1.2 h.1.1.2 h.1.2 h.2)
    (reads_then (reads_then (reads_then (next_reads (takes part.Whole [] opening c.requires.opens refl refl refl c.in_ok-advance.ensures) c.in_ok-version.ensures.reads)
    c.in_ok-items.ensures.reads) (takes part.Items [] token.Body c.in_ok-items.ensures.ends refl refl refl c.in_ok-advance-2.ensures)) c.in_ok-states.ensures.reads)

use Rattle.std.proofs.Common.{[], refl}
use Rattle.hoa_parser.proofs.reading.Bodies.{head_is, state_name}
use Rattle.hoa_parser.proofs.reading.Steps.{handed_on, next_fails, next_reads, reads_as, takes, takes_last}
use Rattle.hoa_parser.specs.inner.Expecting as part
use Rattle.hoa_parser.proofs.parse.body.head_of_tokens.Goals as goal

pub returns-in_err-advance-clause-reads : goal.returns-in_err-advance-clause-reads
returns-in_err-advance-clause-reads g c = handed_on _ _ _ c.from_residual.ensures.1 (takes_last part.States [] state_name c.requires.begins refl refl refl c.in_err-advance.ensures)

pub returns-in_err-label-clause-reads : goal.returns-in_err-label-clause-reads
returns-in_err-label-clause-reads g c = handed_on _ _ _ c.from_residual-in_err-label.ensures.1
    (next_fails _ (takes part.States [] state_name c.requires.begins refl refl refl c.in_ok-advance.ensures) c.in_err-label.ensures.reads)

pub returns-in_err-number-clause-reads : goal.returns-in_err-number-clause-reads
returns-in_err-number-clause-reads g c = handed_on _ _ _ c.from_residual-in_err-number.ensures.1
    (next_fails _ (next_reads (takes part.States [] state_name c.requires.begins refl refl refl c.in_ok-advance.ensures)
    c.in_ok-label.ensures.reads) c.in_err-number.ensures.reads)

pub returns-in_err-maybe_quoted-clause-reads : goal.returns-in_err-maybe_quoted-clause-reads
returns-in_err-maybe_quoted-clause-reads g c = handed_on _ _ _ c.from_residual-in_err-maybe_quoted.ensures.1
    (next_fails _ (next_reads (next_reads (takes part.States [] state_name c.requires.begins refl refl refl c.in_ok-advance.ensures)
    c.in_ok-label.ensures.reads)
    c.in_ok-number.ensures.reads) c.in_err-maybe_quoted.ensures.reads)

pub returns-in_err-marks-clause-reads : goal.returns-in_err-marks-clause-reads
returns-in_err-marks-clause-reads g c = handed_on _ _ _ c.from_residual-in_err-marks.ensures.1
    (next_fails _ (next_reads (next_reads (next_reads (takes part.States [] state_name c.requires.begins refl refl refl c.in_ok-advance.ensures)
    c.in_ok-label.ensures.reads)
    c.in_ok-number.ensures.reads)
    c.in_ok-maybe_quoted.ensures.reads) c.in_err-marks.ensures.reads)

pub returns-clause-reads : goal.returns-clause-reads
returns-clause-reads g c = reads_as (λ a f h. head_is _ _ _ a _ _ _ _ f h.1.1.1.1 h.1.1.1.2 h.1.1.2 h.1.2 h.2)
    (next_reads (next_reads (next_reads (next_reads (takes part.States [] state_name c.requires.begins refl refl refl c.in_ok-advance.ensures)
    c.in_ok-label.ensures.reads)
    c.in_ok-number.ensures.reads)
    c.in_ok-maybe_quoted.ensures.reads)
    c.in_ok-marks.ensures.reads)

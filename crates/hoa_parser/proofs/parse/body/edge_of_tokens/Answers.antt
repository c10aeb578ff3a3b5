use Rattle.std.proofs.Common.{[], ◌∷◌}
use Rattle.hoa_parser.proofs.reading.Bodies.{edge_front, edge_is}
use Rattle.hoa_parser.proofs.reading.Steps.{fails_for, handed_on, next_fails, next_reads, no_memory, reads_as, reads_for}
use Rattle.hoa_parser.specs.inner.Expecting as part
use Rattle.hoa_parser.proofs.parse.body.edge_of_tokens.Goals as goal

pub returns-in_err-label-clause-reads : goal.returns-in_err-label-clause-reads
returns-in_err-label-clause-reads g c = handed_on _ _ _ c.from_residual.ensures.1
    (fails_for (part.Number ∷ part.MoreNumbers ∷ part.MaybeMarks ∷ part.Edges ∷ []) c.requires.unspent (λ most others. edge_front most others _ c.requires.begins) c.in_err-label.ensures.reads)

pub returns-in_err-to-clause-reads : goal.returns-in_err-to-clause-reads
returns-in_err-to-clause-reads g c = handed_on _ _ _ c.from_residual-in_err-to.ensures.1
    (next_fails _ (reads_for (part.Number ∷ part.MoreNumbers ∷ part.MaybeMarks ∷ part.Edges ∷ []) c.requires.unspent (λ most others. edge_front most others _ c.requires.begins)
    c.in_ok-label.ensures.reads) c.in_err-to.ensures.reads)

pub returns-in_err-marks-clause-reads : goal.returns-in_err-marks-clause-reads
returns-in_err-marks-clause-reads g c = handed_on _ _ _ c.from_residual-in_err-marks.ensures.1
    (next_fails _ (next_reads (reads_for (part.Number ∷ part.MoreNumbers ∷ part.MaybeMarks ∷ part.Edges ∷ []) c.requires.unspent (λ most others. edge_front most others _ c.requires.begins)
    c.in_ok-label.ensures.reads) c.in_ok-to.ensures.reads) c.in_err-marks.ensures.reads)

pub returns-in_err-ends-clause-reads : goal.returns-in_err-ends-clause-reads
returns-in_err-ends-clause-reads g c = handed_on _ _ _ c.from_residual-in_err-ends.ensures.1
    (no_memory (next_reads (next_reads (reads_for (part.Number ∷ part.MoreNumbers ∷ part.MaybeMarks ∷ part.Edges ∷ []) c.requires.unspent (λ most others. edge_front most others _ c.requires.begins)
    c.in_ok-label.ensures.reads) c.in_ok-to.ensures.reads) c.in_ok-marks.ensures.reads))

pub returns-clause-reads : goal.returns-clause-reads
returns-clause-reads g c = reads_as (λ a d h. edge_is _ _ _ _ a _ _ d h.1.1 h.1.2 h.2 c.in_ok-ends.ensures)
    (next_reads (next_reads (reads_for (part.Number ∷ part.MoreNumbers ∷ part.MaybeMarks ∷ part.Edges ∷ []) c.requires.unspent (λ most others. edge_front most others _ c.requires.begins)
    c.in_ok-label.ensures.reads) c.in_ok-to.ensures.reads) c.in_ok-marks.ensures.reads)

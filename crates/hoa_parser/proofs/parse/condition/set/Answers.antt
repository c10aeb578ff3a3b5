use Rattle.std.proofs.Common.{[], ◌∷◌}
use Rattle.hoa_parser.proofs.reading.Steps.{fails_before, handed_on, next_fails, next_reads, reads_as, reads_before}
use Rattle.hoa_parser.proofs.reading.Sets.{set_of}
use Rattle.hoa_parser.specs.inner.Expecting.{ClosingParen, MaybeBang, Number}
use Rattle.hoa_parser.proofs.parse.condition.set.Goals as goal

pub returns-in_err-opening_paren : goal.returns-in_err-opening_paren
returns-in_err-opening_paren g c = record { reads = handed_on _ _ _ c.from_residual.ensures.1 (fails_before (MaybeBang ∷ Number ∷ ClosingParen ∷ []) c.in_err-opening_paren.ensures.reads) }

pub returns-in_err-neg : goal.returns-in_err-neg
returns-in_err-neg g c = record {
  reads =
      handed_on _ _ _ c.from_residual-in_err-neg.ensures.1 (next_fails _ (reads_before (MaybeBang ∷ Number ∷ ClosingParen ∷ []) c.in_ok-opening_paren.ensures.reads) c.in_err-neg.ensures.reads);
}

pub returns-in_err-number : goal.returns-in_err-number
returns-in_err-number g c = record {
  reads =
      handed_on _ _ _ c.from_residual-in_err-number.ensures.1
      (next_fails _ (next_reads (reads_before (MaybeBang ∷ Number ∷ ClosingParen ∷ []) c.in_ok-opening_paren.ensures.reads) c.in_ok-neg.ensures.reads) c.in_err-number.ensures.reads);
}

pub returns-in_err-closing_paren : goal.returns-in_err-closing_paren
returns-in_err-closing_paren g c = record {
  reads = handed_on _ _ _ c.from_residual-in_err-closing_paren.ensures.1
      (next_fails _ (next_reads (next_reads (reads_before (MaybeBang ∷ Number ∷ ClosingParen ∷ []) c.in_ok-opening_paren.ensures.reads) c.in_ok-neg.ensures.reads) c.in_ok-number.ensures.reads)
      c.in_err-closing_paren.ensures.reads);
}

pub returns : goal.returns
returns g c = record {
  reads = reads_as (λ a e h. set_of c.in_ok-number.number c.in_ok-neg.neg a h.1.1.0 h.1.0 h.0 e h.1.1.1 h.1.1.2 h.1.2 h.2)
      (next_reads (next_reads (next_reads (reads_before (MaybeBang ∷ Number ∷ ClosingParen ∷ []) c.in_ok-opening_paren.ensures.reads) c.in_ok-neg.ensures.reads) c.in_ok-number.ensures.reads)
      c.in_ok-closing_paren.ensures.reads);
}

use Rattle.std.proofs.Common.{[], ◌∷◌}
use Rattle.hoa_parser.proofs.reading.ItemsRead.{acc_name_read, acceptance_read, alias_read, name_read, names_read, properties_read, start_read, states_read, tool_read}
use Rattle.hoa_parser.proofs.reading.Steps.{fails_before, handed_on, next_fails, next_reads, reads_as, reads_before}
use Rattle.hoa_parser.specs.inner.Expecting.{AccValues, MaybeQuoted, Strings, condition_parts, expected_label}
use Rattle.hoa_parser.proofs.parse.item.known_item.Goals as goal

pub returns-in_ok-number-in-States : goal.returns-in_ok-number-in-States
returns-in_ok-number-in-States g c = record { reads = rw c.in-States.is (reads_as (λ a b p name. states_read name _ a b p) c.in_ok-number-in-States.ensures.reads) }

pub returns-in_err-number-in-States : goal.returns-in_err-number-in-States
returns-in_err-number-in-States g c = record { reads = handed_on _ _ _ c.from_residual.ensures.1 (rw c.in-States.is c.in_err-number-in-States.ensures.reads) }

pub returns-in_ok-conj-in-Start : goal.returns-in_ok-conj-in-Start
returns-in_ok-conj-in-Start g c = record { reads = rw c.in-Start.is (reads_as (λ a b p name. start_read name _ a b p) c.in_ok-conj-in-Start.ensures.reads) }

pub returns-in_err-conj-in-Start : goal.returns-in_err-conj-in-Start
returns-in_err-conj-in-Start g c = record { reads = handed_on _ _ _ c.from_residual-in_err-conj-in-Start.ensures.1 (rw c.in-Start.is c.in_err-conj-in-Start.ensures.reads) }

pub returns-in_err-count-in-Ap : goal.returns-in_err-count-in-Ap
returns-in_err-count-in-Ap g c = record {
  reads = handed_on _ _ _ c.from_residual-in_err-count-in-Ap.ensures.1 (rw c.in-Ap.is (fails_before (Strings ∷ []) c.in_err-count-in-Ap.ensures.reads));
}

pub returns-in_err-names-in-Ap : goal.returns-in_err-names-in-Ap
returns-in_err-names-in-Ap g c = record {
  reads = handed_on _ _ _ c.from_residual-in_err-names-in-Ap.ensures.1
      (rw c.in-Ap.is (next_fails _ (reads_before (Strings ∷ []) c.in_ok-count-in-Ap.ensures.reads) c.in_err-names-in-Ap.ensures.reads));
}

pub returns-in_ok-names-in-Ap : goal.returns-in_ok-names-in-Ap
returns-in_ok-names-in-Ap g c = record {
  reads = rw c.in-Ap.is (reads_as (λ a d h. names_read _ _ a h.0 d h.1 h.2)
      (next_reads (reads_before (Strings ∷ []) c.in_ok-count-in-Ap.ensures.reads) c.in_ok-names-in-Ap.ensures.reads));
}

pub returns-in_err-name-in-Alias : goal.returns-in_err-name-in-Alias
returns-in_err-name-in-Alias g c = record {
  reads = handed_on _ _ _ c.from_residual-in_err-name-in-Alias.ensures.1 (rw c.in-Alias.is (fails_before (expected_label 0) c.in_err-name-in-Alias.ensures.reads));
}

pub returns-in_err-label-in-Alias : goal.returns-in_err-label-in-Alias
returns-in_err-label-in-Alias g c = record {
  reads = handed_on _ _ _ c.from_residual-in_err-label-in-Alias.ensures.1
      (rw c.in-Alias.is (next_fails _ (reads_before (expected_label 0) c.in_ok-name-in-Alias.ensures.reads) c.in_err-label-in-Alias.ensures.reads));
}

pub returns-in_ok-label-in-Alias : goal.returns-in_ok-label-in-Alias
returns-in_ok-label-in-Alias g c = record {
  reads = rw c.in-Alias.is (reads_as (λ a d h. alias_read _ _ a h.0 d h.1 h.2)
      (next_reads (reads_before (expected_label 0) c.in_ok-name-in-Alias.ensures.reads) c.in_ok-label-in-Alias.ensures.reads));
}

pub returns-in_err-sets-in-Acceptance : goal.returns-in_err-sets-in-Acceptance
returns-in_err-sets-in-Acceptance g c = record {
  reads = handed_on _ _ _ c.from_residual-in_err-sets-in-Acceptance.ensures.1 (rw c.in-Acceptance.is (fails_before (condition_parts 0) c.in_err-sets-in-Acceptance.ensures.reads));
}

pub returns-in_err-formula-in-Acceptance : goal.returns-in_err-formula-in-Acceptance
returns-in_err-formula-in-Acceptance g c = record {
  reads = handed_on _ _ _ c.from_residual-in_err-formula-in-Acceptance.ensures.1
      (rw c.in-Acceptance.is (next_fails _ (reads_before (condition_parts 0) c.in_ok-sets-in-Acceptance.ensures.reads) c.in_err-formula-in-Acceptance.ensures.reads));
}

pub returns-in_ok-formula-in-Acceptance : goal.returns-in_ok-formula-in-Acceptance
returns-in_ok-formula-in-Acceptance g c = record {
  reads = rw c.in-Acceptance.is (reads_as (λ a d h. acceptance_read _ _ a h.0 d h.1 h.2)
      (next_reads (reads_before (condition_parts 0) c.in_ok-sets-in-Acceptance.ensures.reads) c.in_ok-formula-in-Acceptance.ensures.reads));
}

pub returns-in_err-word-in-AccName : goal.returns-in_err-word-in-AccName
returns-in_err-word-in-AccName g c = record {
  reads = handed_on _ _ _ c.from_residual-in_err-word-in-AccName.ensures.1 (rw c.in-AccName.is (fails_before (AccValues ∷ []) c.in_err-word-in-AccName.ensures.reads));
}

pub returns-in_err-values-in-AccName : goal.returns-in_err-values-in-AccName
returns-in_err-values-in-AccName g c = record {
  reads = handed_on _ _ _ c.from_residual-in_err-values-in-AccName.ensures.1
      (rw c.in-AccName.is (next_fails _ (reads_before (AccValues ∷ []) c.in_ok-word-in-AccName.ensures.reads) c.in_err-values-in-AccName.ensures.reads));
}

pub returns-in_ok-values-in-AccName : goal.returns-in_ok-values-in-AccName
returns-in_ok-values-in-AccName g c = record {
  reads = rw c.in-AccName.is (reads_as (λ a d h. acc_name_read _ _ a h.0 d h.1 h.2)
      (next_reads (reads_before (AccValues ∷ []) c.in_ok-word-in-AccName.ensures.reads) c.in_ok-values-in-AccName.ensures.reads));
}

pub returns-in_err-quoted-in-Tool : goal.returns-in_err-quoted-in-Tool
returns-in_err-quoted-in-Tool g c = record {
  reads = handed_on _ _ _ c.from_residual-in_err-quoted-in-Tool.ensures.1 (rw c.in-Tool.is (fails_before (MaybeQuoted ∷ []) c.in_err-quoted-in-Tool.ensures.reads));
}

pub returns-in_err-maybe_quoted-in-Tool : goal.returns-in_err-maybe_quoted-in-Tool
returns-in_err-maybe_quoted-in-Tool g c = record {
  reads = handed_on _ _ _ c.from_residual-in_err-maybe_quoted-in-Tool.ensures.1
      (rw c.in-Tool.is (next_fails _ (reads_before (MaybeQuoted ∷ []) c.in_ok-quoted-in-Tool.ensures.reads) c.in_err-maybe_quoted-in-Tool.ensures.reads));
}

pub returns-in_ok-maybe_quoted-in-Tool : goal.returns-in_ok-maybe_quoted-in-Tool
returns-in_ok-maybe_quoted-in-Tool g c = record {
  reads = rw c.in-Tool.is (reads_as (λ a d h. tool_read _ _ a h.0 d h.1 h.2)
      (next_reads (reads_before (MaybeQuoted ∷ []) c.in_ok-quoted-in-Tool.ensures.reads) c.in_ok-maybe_quoted-in-Tool.ensures.reads));
}

pub returns-in_ok-quoted-in-Name : goal.returns-in_ok-quoted-in-Name
returns-in_ok-quoted-in-Name g c = record { reads = rw c.in-Name.is (reads_as (λ a b p name. name_read name _ a b p) c.in_ok-quoted-in-Name.ensures.reads) }

pub returns-in_err-quoted-in-Name : goal.returns-in_err-quoted-in-Name
returns-in_err-quoted-in-Name g c = record { reads = handed_on _ _ _ c.from_residual-in_err-quoted-in-Name.ensures.1 (rw c.in-Name.is c.in_err-quoted-in-Name.ensures.reads) }

pub returns-in_ok-words-in-Properties : goal.returns-in_ok-words-in-Properties
returns-in_ok-words-in-Properties g c = record { reads = rw c.in-Properties.is (reads_as (λ a b p name. properties_read name _ a b p) c.in_ok-words-in-Properties.ensures.reads) }

pub returns-in_err-words-in-Properties : goal.returns-in_err-words-in-Properties
returns-in_err-words-in-Properties g c = record { reads = handed_on _ _ _ c.from_residual-in_err-words-in-Properties.ensures.1 (rw c.in-Properties.is c.in_err-words-in-Properties.ensures.reads) }

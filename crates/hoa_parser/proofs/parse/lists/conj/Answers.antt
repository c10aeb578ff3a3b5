use Rattle.std.proofs.Common.{ℕ, List, [], ◌∷◌, ◌++◌, ap, ◌∙◌}
use Rattle.hoa_parser.proofs.grammar.Values.{conj_whole}
use Rattle.hoa_parser.proofs.reading.RuleParts.{next_answer}
use Rattle.hoa_parser.proofs.reading.Steps.{fails_before, handed_on, no_memory, reads_before}
use Rattle.hoa_parser.specs.inner.Expecting.{MoreNumbers}
use Rattle.hoa_parser.specs.inner.RuleReads.{AddsNumbers, IsConj}
use Rattle.hoa_parser.proofs.parse.lists.conj.Goals as goal

pub returns-in_err-first-clause-reads : goal.returns-in_err-first-clause-reads
returns-in_err-first-clause-reads g c = handed_on _ _ _ c.from_residual.ensures.1 (fails_before (MoreNumbers ∷ []) c.in_err-first.ensures.reads)

pub returns-in_err-push-clause-reads : goal.returns-in_err-push-clause-reads
returns-in_err-push-clause-reads g c = handed_on _ _ _ c.from_residual-in_err-push.ensures.1 (no_memory (reads_before (MoreNumbers ∷ []) c.in_ok-first.ensures.reads))

pub returns-clause-reads : goal.returns-clause-reads
returns-clause-reads g c =
    next_answer (MoreNumbers ∷ []) [] (AddsNumbers c.push.new.self) IsConj c.more_numbers.result _
    (λ w a d h. conj_whole c.in_ok-first.first c.push.new.self w a h.0 d (c.in_ok-push.ensures.ok ∙ ap (λ (ns : List ℕ). ns ++ c.in_ok-first.first ∷ []) c.new-numbers.ensures) h.1 h.2)
    (reads_before (MoreNumbers ∷ []) c.in_ok-first.ensures.reads) c.more_numbers.ensures.reads

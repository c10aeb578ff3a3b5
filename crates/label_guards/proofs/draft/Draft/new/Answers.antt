use Rattle.std.proofs.Common.{◌≡◌, ◌∙◌, ap, arith, length, subst, sym}
use Rattle.label_guards.specs.Computed.{AreComputed}
use Rattle.label_guards.specs.Store.{Store}
use Rattle.label_guards.proofs.diagrams.Taken.{front_all}
use Rattle.label_guards.proofs.draft.Draft.new.Goals as goal

pub invariant_of-result : goal.invariant_of-result
invariant_of-result c =
    let same = c.take_results-results.ensures.same in
    let size : c.count-count.result ≡ length c.take_results-results.new.self.nodes = c.count-count.ensures ∙ ap (λ (s : Store). length s.nodes) (sym same) in (
      omega (arith, size),
      subst (λ (s : Store). AreComputed s c.take_results-results.result)
          (sym (front_all c.count-count.result c.take_results-results.new.self (omega (arith, size)) ∙ same)) c.take_results-results.ensures.results,
    )

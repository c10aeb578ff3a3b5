use Rattle.std.proofs.Common.{◌≡◌, ◌<◌, ◌≤◌, Err, Ok, arith, inl, inr, subst}
use Rattle.std.proofs.lemmas.Bool.{cases_lt}
use Rattle.aut_base.specs.declared.limit.TheConstants.{MOST_TERMS}
use Rattle.acc_forms.specs.Terms.{count}
use Rattle.fin_removal.proofs.TermCopies.{sets_within}
use Rattle.degeneralise.proofs.watches.watches.Goals as goal

not_both : {T E : Type 0} {e : E} (x : T) → Ok x ≡ Err e → ⊥
not_both x same = cc

pub owned_sets-requires-clause-sets : goal.owned_sets-requires-clause-sets
owned_sets-requires-clause-sets c =
    let few : count c.in_ok-terms.terms ≤ MOST_TERMS = elim (cases_lt MOST_TERMS (count c.in_ok-terms.terms)) [
      | inl many ↦ absurd (not_both _ (c.in_ok-terms.ensures.passed (subst (λ ts. MOST_TERMS < count ts) c.in_ok-terms.ensures.list many)))
      | inr within ↦ within
    ] in
    omega (arith, sets_within c.in_ok-terms.terms few)

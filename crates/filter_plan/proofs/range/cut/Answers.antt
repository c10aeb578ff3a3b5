use Rattle.std.proofs.Common.{◌≡◌, MatchOption, List, ℕ, ◌∷◌, lit<, subst}
use Rattle.std.proofs.lemmas.Str.Pattern.{strip_prefix_char}
use Rattle.filter_plan.proofs.RangeCut.{cut_none, cut_found}
use Rattle.filter_plan.proofs.range.cut.Goals as goal

pub returns-in_err-before-clause-only : goal.returns-in_err-before-clause-only
returns-in_err-before-clause-only c a b digits split =
    absurd (cut_none c.args.text.now c.split_once.result c.split_once.ensures.cases c.in_err-before.was a b digits split)

pub returns-in_err-after-clause-only : goal.returns-in_err-after-clause-only
returns-in_err-after-clause-only c a b digits split =
    let at = cut_found c.args.text.now c.split_once.result c.in_ok-before.before c.in_ok-before.rest c.split_once.ensures.cases c.in_ok-before.was a b digits split in
    let stripped = strip_prefix_char 46 c.in_ok-before.rest.now c.strip_prefix.result c.strip_prefix.ensures.cases (lit< tt) in
    let none : (rest : List ℕ) → c.in_ok-before.rest.now ≡ 46 ∷ rest
    → ⊥ = subst (λ o. MatchOption o ((rest : List ℕ) → c.in_ok-before.rest.now ≡ 46 ∷ rest → ⊥) (λ x. c.in_ok-before.rest.now ≡ 46 ∷ x.now)) c.in_err-after.was stripped in
    absurd (none b at.1)

pub returns-clause-only : goal.returns-clause-only
returns-clause-only c a b digits split =
    let at = cut_found c.args.text.now c.split_once.result c.in_ok-before.before c.in_ok-before.rest c.split_once.ensures.cases c.in_ok-before.was a b digits split in
    let stripped = strip_prefix_char 46 c.in_ok-before.rest.now c.strip_prefix.result c.strip_prefix.ensures.cases (lit< tt) in
    let after : c.in_ok-before.rest.now ≡ 46 ∷ c.in_ok-after.after.now =
    subst (λ o. MatchOption o ((rest : List ℕ) → c.in_ok-before.rest.now ≡ 46 ∷ rest → ⊥) (λ x. c.in_ok-before.rest.now ≡ 46 ∷ x.now)) c.in_ok-after.was stripped in
    (at.0, cc)

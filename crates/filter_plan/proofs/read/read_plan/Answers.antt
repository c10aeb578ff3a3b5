use Rattle.std.proofs.Common.{◌≡◌, ◌∙◌, rules, subst, sym, true≢false}
use Rattle.clap.specs.Words.{found_of, matches_of, rows_of}
use Rattle.filter_plan.proofs.OnePlan.{rules_pass_on}
use Rattle.filter_plan.specs.Words.{KeepsRules, autfilt}
use Rattle.filter_plan.specs.inner.Given.{IsGiven}
use Rattle.filter_plan.proofs.read.read_plan.Goals as goal

pub returns-then-not-keeps_rules-clause-usage : goal.returns-then-not-keeps_rules-clause-usage
returns-then-not-keeps_rules-clause-usage c _ p is =
    let rows : rows_of (found_of c.in_ok-matches.matches) ≡ matches_of autfilt c.args.words.now = search rules in
    let own : IsGiven (matches_of autfilt c.args.words.now) c.in_ok-plan.plan = subst (λ r. IsGiven r c.in_ok-plan.plan) rows c.in_ok-plan.ensures.given in
    let kept : KeepsRules c.in_ok-plan.plan = rules_pass_on _ p c.in_ok-plan.plan (record { options = is.options; streams = is.streams }) own is.rules in
    true≢false (sym (c.keeps_rules.ensures.1 kept) ∙ c.if-not-keeps_rules.true)

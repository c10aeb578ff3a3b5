use Rattle.std.proofs.Common.{◌∙◌, ◌||◌, ℕ, Bool, ap, subst, sym, take}
use Rattle.std.specs.List.{list_any}
use Rattle.std.proofs.lemmas.List.Folds.{list_any_more}
use Rattle.aut_base.specs.Label.{truth}
use Rattle.label_guards.specs.Guards.{truth_in}
use Rattle.label_guards.specs.Store.{Has, Store}
use Rattle.aut_core.specs.declared.link.Link.{Link}
use Rattle.aut_core.proofs.Growth.{keeps_on}
use Rattle.aut_core.proofs.survey.meet_in_turn.Goals as goal

pub returns-in_err-guard-clause-keeps : goal.returns-in_err-guard-clause-keeps
returns-in_err-guard-clause-keeps c = keeps_on c.links.invariant.keeps c.or.ensures.keeps

pub links-preserved : goal.links-preserved
links-preserved c =
    let old : Store = c.args.draft.now.now in
    let links = c.args.links.now in
    let link = c.link-item.result in
    let at = c.links.link-index in
    let seen : (ℕ → Bool) → Bool = λ on. list_any (λ (l : Link). truth_in old l.guard on) (take at links) in
    let has : Has old link.guard = subst (λ (l : Link). Has old l.guard) (sym c.link-item.is) (c.requires.has at link c.links-test.true) in
    let same = c.links.invariant.keeps.labels link.guard has in
    record {
      kept = c.or.ensures.kept ∙ c.links.invariant.kept;
      keeps = keeps_on c.links.invariant.keeps c.or.ensures.keeps;
      guard = record {
        has = c.in_ok-guard.ensures.or.has;
        truth = λ on.
            c.in_ok-guard.ensures.or.truth on ∙ ((λ i. c.links.invariant.guard.truth on i || ap (truth on) same i) ∙ (ap (λ (l : Link). seen on || truth_in old l.guard on) c.link-item.is
            ∙ sym (list_any_more (λ (l : Link). truth_in old l.guard on) links at link c.links-test.true)));
      };
    }

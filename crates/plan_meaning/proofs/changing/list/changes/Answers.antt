use Rattle.std.proofs.Common.{[], ◌∷◌, map, refl}
use Rattle.aut_core.specs.SymbolicAutomata.{automaton_of}
use Rattle.plan_meaning.proofs.StandingLists.{by_flag, by_option, same_standing}
use Rattle.plan_meaning.proofs.changes.PlanChanges.{options}
use Rattle.plan_meaning.specs.Changes.{Product, ProductOr, RemoveAp, Sum}
use Rattle.plan_meaning.specs.declared.changing.list.Change.TheVariants as code
use Rattle.plan_meaning.specs.inner.Stepping.{change_of}
use Rattle.plan_meaning.proofs.changing.list.changes.Goals as goal

pub returns : goal.returns
returns c =
    let p = c.args.plan.now in
    let product = by_option change_of (λ x. automaton_of x.now) code.Product Product (λ x. refl) c.product_operand.result _ c.map.result c.map.ensures.cases
    c.product_operand.ensures.is in
    let product_or = by_option change_of (λ x. automaton_of x.now) code.ProductOr ProductOr (λ x. refl) c.product_or_operand.result _ c.map-2.result c.map-2.ensures.cases
    c.product_or_operand.ensures.is in
    let sum = by_option change_of (λ x. automaton_of x.now) code.Sum Sum (λ x. refl) c.sum_operand.result _ c.map-3.result c.map-3.ensures.cases c.sum_operand.ensures.is in
    let remove_ap = by_option change_of (λ x. x.now) code.RemoveAp RemoveAp (λ x. refl) c.as_ref.result p.remove_ap c.map-4.result c.map-4.ensures.cases c.as_ref.ensures.value in
    let trim = by_flag change_of p.trim code.Trim c.then_some.result c.then_some.ensures in
    let complement = by_flag change_of p.complement code.Complement c.then_some-2.result c.then_some-2.ensures in
    let complete = by_flag change_of p.complete code.Complete c.then_some-3.result c.then_some-3.ensures in
    same_standing change_of (c.map.result ∷ c.map-2.result ∷ c.map-3.result ∷ c.map-4.result ∷ c.then_some.result ∷ c.then_some-2.result ∷ c.form_change.result
    ∷ c.then_some-3.result ∷ []) (options p (map automaton_of c.args.operands.now))
    (λ i. product i ∷ product_or i ∷ sum i ∷ remove_ap i ∷ trim i ∷ complement i ∷ c.form_change.ensures i ∷ complete i ∷ [])

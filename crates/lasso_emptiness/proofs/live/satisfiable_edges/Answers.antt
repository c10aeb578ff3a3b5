use Rattle.std.proofs.Common.{◌∙◌, List, ap, arith, length, slice_get, subst, sym}
use Rattle.std.proofs.lemmas.Bool.{true≢false}
use Rattle.aut_base.proofs.lists.Lists.{slice_get-at}
use Rattle.aut_core.specs.declared.link.Link.{Link}
use Rattle.label_guards.specs.Guards.{IsNeverMet}
use Rattle.label_guards.specs.Store.{Store}
use Rattle.lasso_emptiness.proofs.trails.Passable.{passable_all, passable_pushed, passable_skipped}
use Rattle.lasso_emptiness.proofs.live.satisfiable_edges.Goals as goal

pub links-preserved : goal.links-preserved
links-preserved c =
    passable_pushed c.args.a.now c.links.place c.links.edges c.push.new.self c.link-item.result
    (ap (λ (ls : List Link). slice_get ls c.links.place) (sym c.links-link-items.ensures)
    ∙ slice_get-at c.links-link-items.result.now c.links.place c.link-item.result c.links-test.true c.link-item.is)
    c.links.invariant c.in_ok-push.ensures.ok
    (λ never. true≢false (sym (c.is_false.ensures.valuations.1 (subst (λ (s : Store). IsNeverMet s c.link-item.result.guard) (sym c.guards.ensures) never)) ∙ c.if-is_false.false))

pub links-preserved-then-is_false : goal.links-preserved-then-is_false
links-preserved-then-is_false c =
    passable_skipped c.args.a.now c.links.place c.links.edges c.links.edges c.link-item.result
    (ap (λ (ls : List Link). slice_get ls c.links.place) (sym c.links-link-items.ensures)
    ∙ slice_get-at c.links-link-items.result.now c.links.place c.link-item.result c.links-test.true c.link-item.is)
    c.links.invariant
    (subst (λ (s : Store). IsNeverMet s c.link-item.result.guard) c.guards.ensures (c.is_false.ensures.valuations.0 c.if-is_false.true))

pub returns : goal.returns
returns c = let items = ap length c.links-link-items.ensures in passable_all c.args.a.now c.links.place c.links.edges (omega (arith, items, c.links-test.false)) c.links.invariant

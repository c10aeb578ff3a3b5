use Rattle.std.proofs.Common.{◌≡◌, ◌∙◌, true, List, nat_eq, subst, sym}
use Rattle.std.specs.List.{list_any}
use Rattle.label_guards.specs.declared.guard.Guard.{Guard}
use Rattle.letter_classes.proofs.Told.{listed}
use Rattle.letter_classes.proofs.guards.push_new.Goals as goal

pub links-preserved-then-contains : goal.links-preserved-then-contains
links-preserved-then-contains c =
    let g = c.link-item.result.guard in
    let there = subst (λ (list : List Guard). list_any (λ (y : Guard). nat_eq y.place g.place) list ≡ true) c.as_slice.ensures (sym c.contains.ensures.value ∙ c.if-contains.true) in
    listed c.args.links.now c.links.link-index c.link-item.result c.links-test.true c.link-item.is c.args.list.now c.links.list c.links.invariant there

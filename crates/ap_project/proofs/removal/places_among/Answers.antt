use Rattle.std.proofs.Common.{◌∙◌, ap, arith, get_or, length}
use Rattle.ap_project.proofs.PlacedNames.{placed_more}
use Rattle.ap_project.proofs.removal.places_among.Goals as goal

pub names-preserved : goal.names-preserved
names-preserved c =
    let items = c.as_slice-name-items.ensures.items in
    placed_more c.args.names.now c.args.others.now c.names.to c.push.new.self c.names.name-index c.place_among.result c.name-item.result
    (omega (arith, ap length items, c.names-test.true))
    (c.name-item.is ∙ ap (λ ns. get_or ns c.names.name-index c.name-item.result) items) c.names.invariant c.place_among.ensures.within c.place_among.ensures.place c.in_ok-push.ensures.ok

use Rattle.std.proofs.Common.{◌∙◌, List, Contains, ap, arith, get_or, length, subst, sym, ℕ}
use Rattle.aut_core.proofs.OtherNames.{placed_more}
use Rattle.aut_core.proofs.over.places_in.Goals as goal

pub place_in-requires-clause-has : goal.place_in-requires-clause-has
place_in-requires-clause-has c =
    let items = c.as_slice-name-items.ensures.items in
    let at = c.name-item.is ∙ ap (λ ns. get_or ns c.names.name-index c.name-item.result) items in
    subst (λ (name : List ℕ). Contains c.args.other.now name) (sym at) (c.requires.has c.names.name-index c.name-item.result (omega (arith, ap length items, c.names-test.true)))

pub names-preserved : goal.names-preserved
names-preserved c =
    let items = c.as_slice-name-items.ensures.items in
    let at = c.name-item.is ∙ ap (λ ns. get_or ns c.names.name-index c.name-item.result) items in
    placed_more c.args.names.now c.args.other.now c.names.to c.push.new.self c.names.name-index c.place_in.result c.name-item.result (omega (arith, ap length items, c.names-test.true)) at
    c.names.invariant c.place_in.ensures c.in_ok-push.ensures.ok

use Rattle.std.proofs.Common.{◌≡◌, filter, ltb, take}
use Rattle.base_rows.proofs.exploring.rising.above.Given as goal

abbrev pub invariant-items : goal.invariant-items
invariant-items l = l.left ≡ filter (λ x. ltb l.class x) (take l.item-index l.items)

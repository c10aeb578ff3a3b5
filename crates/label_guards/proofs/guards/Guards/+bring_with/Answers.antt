use Rattle.std.proofs.Common.{◌∙◌, ℕ, List, arith, get_or, subst, sym}
use Rattle.label_guards.specs.Tables.{AreDone, IsBrought, PlaceGoesBelow}
use Rattle.label_guards.proofs.rebuilt.Brought.{brought_kept, brought_end, brought_step}
use Rattle.label_guards.proofs.rebuilt.Dependence.{high_goes_below, low_goes_below, node_goes_below}
use Rattle.label_guards.proofs.diagrams.Tables.{done_put, done_under}
use Rattle.label_guards.proofs.guards.Guards.+bring_with.Goals as goal

pub bring_with-requires : goal.bring_with-requires
bring_with-requires t c =
    let node = c.node_at-node.result in
    let smaller = c.node_at-node.ensures.node.low in
    let has = c.requires.has in
    let measure = c.decreases in
    let below = low_goes_below _ (λ k. get_or c.args.to.now k 0) c.args.other.now c.args.place node c.reduced.ensures c.requires.has c.node_at-node.ensures c.requires.within in
    (omega arith, (omega arith, (c.requires.count, (below, c.requires.done))))

pub bring_with-requires-2 : goal.bring_with-requires-2
bring_with-requires-2 t c =
    let node = c.node_at-node.result in
    let smaller = c.node_at-node.ensures.node.high in
    let has = c.requires.has in
    let measure = c.decreases in
    let names = c.in_ok-low.ensures.grows.names in
    let within = subst (λ (count : ℕ). PlaceGoesBelow count (λ k. get_or c.args.to.now k 0) c.args.other.now c.args.place) (sym names) c.requires.within in
    let below = high_goes_below _ (λ k. get_or c.args.to.now k 0) c.args.other.now c.args.place node c.reduced.ensures c.requires.has c.node_at-node.ensures within in
    (omega arith, (omega arith, (c.requires.count, (below, c.in_ok-low.ensures.done))))

pub decide-requires-clause-prop : goal.decide-requires-clause-prop
decide-requires-clause-prop t c =
    let names = c.in_ok-high.ensures.grows.names ∙ c.in_ok-low.ensures.grows.names in
    let at = c.at.ensures.item 0 in
    let below = node_goes_below _ (λ k. get_or c.args.to.now k 0) c.args.other.now c.args.place c.node_at-node.result c.reduced.ensures c.requires.has c.node_at-node.ensures c.requires.within in
    omega (arith, names, at, below)

pub returns-then-place-lt2-clause-brought : goal.returns-then-place-lt2-clause-brought
returns-then-place-lt2-clause-brought t c = brought_end c.args.other.now _ (λ k. get_or c.args.to.now k 0) c.args.place c.if-place-lt2.true

pub returns-in_err-found-clause-done : goal.returns-in_err-found-clause-done
returns-in_err-found-clause-done t c = done_under _ (brought_kept c.args.other.now c.decide.ensures.grows (λ k. get_or c.args.to.now k 0)) c.bring_with-2.ensures.done

pub returns-in_err-put_done-clause-done : goal.returns-in_err-put_done-clause-done
returns-in_err-put_done-clause-done t c = subst (λ (entries : List (ℕ × ℕ)). AreDone (IsBrought c.args.other.now c.decide.new.self (λ k. get_or c.args.to.now k 0)) entries)
    (sym c.in_err-put_done.ensures.err) (done_under _ (brought_kept c.args.other.now c.decide.ensures.grows (λ k. get_or c.args.to.now k 0)) c.bring_with-2.ensures.done)

pub returns-clause-done : goal.returns-clause-done
returns-clause-done t c = done_put (IsBrought c.args.other.now c.decide.new.self (λ k. get_or c.args.to.now k 0)) _ _ c.args.place _ c.in_ok-put_done.ensures.ok
    (done_under _ (brought_kept c.args.other.now c.decide.ensures.grows (λ k. get_or c.args.to.now k 0)) c.bring_with-2.ensures.done)
    (brought_step c.args.other.now c.bring_with-2.ensures.grows (λ k. get_or c.args.to.now k 0) c.args.place _ _ _ _ c.node_at-node.result c.node_at-node.ensures (c.at.ensures.item 0)
    c.in_ok-low.ensures.brought c.in_ok-high.ensures.brought c.in_ok-found.ensures.decided)

pub returns-clause-brought : goal.returns-clause-brought
returns-clause-brought t c = brought_step c.args.other.now c.bring_with-2.ensures.grows (λ k. get_or c.args.to.now k 0) c.args.place _ _ _ _ c.node_at-node.result c.node_at-node.ensures
    (c.at.ensures.item 0) c.in_ok-low.ensures.brought c.in_ok-high.ensures.brought c.in_ok-found.ensures.decided
